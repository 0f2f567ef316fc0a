-- Each way through the chain of grant: the answers that led there, and the steps that were followed up to it. Assumes nothing.
use Rattle.std.specs.Prelude.{◌≡◌, Bool, true, false, List, ℕ, ◌%◌, ◌≤◌, Option, Some, None}
use Rattle.std.proofs.Math.Path.{refl}
use Rattle.std.proofs.Common.{sym, ◌∙◌}
use Rattle.machine.specs.Heap.{Heap, any_fast?}
use Rattle.machine.specs.Writes.{nothing}
use Rattle.machine.specs.Release.{consolidate}
use Rattle.machine.specs.Grant.{step1, step2, step3, step4, step5, step6, step7, step9, pass, again, from4, seek, grant}
use Rattle.sound.specs.Relation.{Good}
use Rattle.sound.specs.Drain.{consolidate-leaves}
use Rattle.sound.specs.Small.{step1-leaves, step2-leaves, step3-leaves, step4-leaves}
use Rattle.sound.specs.Sweep.{step5-leaves}
use Rattle.sound.specs.Large.{step6-leaves, step7-leaves}
use Rattle.sound.specs.Grant.{pass-leaves}
use Rattle.primitives.specs.Follow.{Does}
use Rattle.primitives.specs.FollowLaws.{gave-by, gave-none}
use Rattle.consolidate.specs.AnyFast.{Told}
use Rattle.grant.specs.Chain.{in_turn, else, Keeps, keeps-found, keeps-else, does-by, then, took, next}

-- ---- the machine's equations
module _ (b : ℕ) (h : Heap) where
  pass-is : pass b h ≡ else (else (else (step5 b) (step6 b)) (step7 b)) (step9 b) h
  unfolding pass else
  pass-is = refl

  again-none : any_fast? h ≡ false → again b h ≡ nothing h
  unfolding again
  again-none u = rw (u, again)

  again-some : any_fast? h ≡ true → again b h ≡ in_turn consolidate (pass b) h
  unfolding again in_turn
  again-some u = rw (u, again)

  from4-is : from4 b h ≡ in_turn (step4 b) (else (pass b) (again b)) h
  unfolding from4 in_turn else
  from4-is = refl

  seek_is : seek b h ≡ else (else (step2 b) (step3 b)) (from4 b) h
  unfolding seek else
  seek_is = refl

  grant-is : grant b h ≡ else (step1 b) (seek b) h
  unfolding grant else
  grant-is = refl

pub keeps-all : Keeps (Unit {0}) consolidate
keeps-all = record { ends = λ h w g m. let L = consolidate-leaves h w g m in record { mem = L.mem; now = L.now.good } }

-- ---- 4
module _ (b : ℕ) where
  pub keeps4 : Keeps (Unit {0}) (step4 b)
  keeps4 = record { ends = λ h w g m. let L = step4-leaves b h w g m in record { mem = L.mem; now = L.now.0 } }

module _ (b : ℕ) (b16 : b % 16 ≡ 0) (b32 : 32 ≤ b) where
  pub keeps1 : Keeps (Option ℕ) (step1 b)
  keeps1 = keeps-found b (step1 b) (step1-leaves b b16 b32)

  pub keeps2 : Keeps (Option ℕ) (step2 b)
  keeps2 = keeps-found b (step2 b) (step2-leaves b b16 b32)

  pub keeps3 : Keeps (Option ℕ) (step3 b)
  keeps3 = keeps-found b (step3 b) (step3-leaves b b16 b32)

  pub keeps5 : Keeps (Option ℕ) (step5 b)
  keeps5 = keeps-found b (step5 b) (step5-leaves b b16 b32)

  pub keeps6 : Keeps (Option ℕ) (step6 b)
  keeps6 = keeps-found b (step6 b) (step6-leaves b b16 b32)

  pub keeps7 : Keeps (Option ℕ) (step7 b)
  keeps7 = keeps-found b (step7 b) (step7-leaves b b16 b32)

  pub keeps-pass : Keeps (Option ℕ) (pass b)
  keeps-pass = keeps-found b (pass b) (pass-leaves b b16 b32)

  -- ---- 5 to 9 once
  module _ {w r : List ℕ} {g : Option ℕ} {v q : List ℕ} (d5 : Does (Option ℕ) Good (step5 b) w r g v q) where
    pub pass5 : {c : ℕ} → g ≡ Some c → Does (Option ℕ) Good (pass b) w r (Some c) v q
    pass5 e = does-by (pass-is b) (took (step9 b) (took (step7 b) (took (step6 b) d5 e) refl) refl)

    module _ (e5 : g ≡ None) {g6 : Option ℕ} {v6 q6 : List ℕ} (d6 : Does (Option ℕ) Good (step6 b) v q g6 v6 q6) where
      pub pass6 : {c : ℕ} → g6 ≡ Some c → Does (Option ℕ) Good (pass b) w r (Some c) v6 q6
      pass6 e = does-by (pass-is b) (took (step9 b) (took (step7 b) (next keeps5 d5 e5 d6) e) refl)

      module _ (e6 : g6 ≡ None) {g7 : Option ℕ} {v7 q7 : List ℕ} (d7 : Does (Option ℕ) Good (step7 b) v6 q6 g7 v7 q7) where
        to7 : Does (Option ℕ) Good (else (else (step5 b) (step6 b)) (step7 b)) w r g7 v7 q7
        to7 = next (keeps-else keeps5 keeps6) (next keeps5 d5 e5 d6) e6 d7

        pub pass7 : {c : ℕ} → g7 ≡ Some c → Does (Option ℕ) Good (pass b) w r (Some c) v7 q7
        pass7 e = does-by (pass-is b) (took (step9 b) to7 e)

        pub pass9 : g7 ≡ None → {g9 : Option ℕ} {v9 q9 : List ℕ} → Does (Option ℕ) Good (step9 b) v7 q7 g9 v9 q9 → Does (Option ℕ) Good (pass b) w r g9 v9 q9
        pass9 e7 d9 = does-by (pass-is b) (next (keeps-else (keeps-else keeps5 keeps6) keeps7) to7 e7 d9)

  -- ---- consolidation, and 5 to 9 again
  pub again-over : (w r : List ℕ) (t : Bool) → Told r t → t ≡ false → Does (Option ℕ) Good (again b) w r None w r
  again-over w r t f e = record { does = λ h o g. gave-by (again-none b h (sym (f h w o) ∙ e)) (gave-none h None w r o.rec) }

  pub again-pass : {w r v q : List ℕ} {g : Option ℕ} {u p : List ℕ} (t : Bool) → Told r t → t ≡ true → Does (Unit {0}) Good consolidate w r tt v q → Does (Option ℕ) Good (pass b) v q g u p
      → Does (Option ℕ) Good (again b) w r g u p
  again-pass {w} t f e d n = record { does = λ h o g. gave-by (again-some b h (sym (f h w o) ∙ e)) ((then keeps-all d n).does h o g) }

  -- ---- 4 to 9
  module _ {w r v q : List ℕ} (d4 : Does (Unit {0}) Good (step4 b) w r tt v q) {g : Option ℕ} {u p : List ℕ} (d : Does (Option ℕ) Good (pass b) v q g u p) where
    pub from4-pass : {c : ℕ} → g ≡ Some c → Does (Option ℕ) Good (from4 b) w r (Some c) u p
    from4-pass e = does-by (from4-is b) (then (keeps4 b) d4 (took (again b) d e))

    pub from4-again : g ≡ None → {g' : Option ℕ} {u' p' : List ℕ} → Does (Option ℕ) Good (again b) u p g' u' p' → Does (Option ℕ) Good (from4 b) w r g' u' p'
    from4-again e n = does-by (from4-is b) (then (keeps4 b) d4 (next keeps-pass d e n))

  -- ---- 2 to 9
  module _ {w r : List ℕ} {g : Option ℕ} {v q : List ℕ} (d2 : Does (Option ℕ) Good (step2 b) w r g v q) where
    pub seek2 : {c : ℕ} → g ≡ Some c → Does (Option ℕ) Good (seek b) w r (Some c) v q
    seek2 e = does-by (seek_is b) (took (from4 b) (took (step3 b) d2 e) refl)

    module _ (e2 : g ≡ None) {g3 : Option ℕ} {v3 q3 : List ℕ} (d3 : Does (Option ℕ) Good (step3 b) v q g3 v3 q3) where
      pub seek3 : {c : ℕ} → g3 ≡ Some c → Does (Option ℕ) Good (seek b) w r (Some c) v3 q3
      seek3 e = does-by (seek_is b) (took (from4 b) (next keeps2 d2 e2 d3) e)

      pub seek4 : g3 ≡ None → {g4 : Option ℕ} {v4 q4 : List ℕ} → Does (Option ℕ) Good (from4 b) v3 q3 g4 v4 q4 → Does (Option ℕ) Good (seek b) w r g4 v4 q4
      seek4 e3 d4 = does-by (seek_is b) (next (keeps-else keeps2 keeps3) (next keeps2 d2 e2 d3) e3 d4)

  -- ---- all
  module _ {w r : List ℕ} {g : Option ℕ} {v q : List ℕ} (d1 : Does (Option ℕ) Good (step1 b) w r g v q) where
    pub grant1 : {c : ℕ} → g ≡ Some c → Does (Option ℕ) Good (grant b) w r (Some c) v q
    grant1 e = does-by (grant-is b) (took (seek b) d1 e)

    pub grant2 : g ≡ None → {g' : Option ℕ} {u p : List ℕ} → Does (Option ℕ) Good (seek b) v q g' u p → Does (Option ℕ) Good (grant b) w r g' u p
    grant2 e d = does-by (grant-is b) (next keeps1 d1 e d)
