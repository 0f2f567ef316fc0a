-- Step 4 as the code does it follows the machine: by the size, and by what the record tells of the fast lists. Assumes nothing.
use Rattle.std.specs.Prelude.{◌≡◌, Bool, List, [], ℕ, ◌≤◌, ◌<◌}
use Rattle.std.proofs.Common.{sym, ◌∙◌}
use Rattle.std.proofs.Math.Bool.{true, false}
use Rattle.std.proofs.Math.Dec.{leb}
use borrow.Author.Tests.{le-leb, lt-leb}
use Rattle.sizes.specs.Limits.{large}
use Rattle.machine.specs.Heap.{Heap, any_fast?}
use Rattle.machine.specs.Writes.{does}
use Rattle.machine.specs.Release.{consolidate}
use Rattle.machine.specs.Grant.{step4}
use Rattle.sound.specs.Relation.{Good}
use Rattle.primitives.specs.Follow.{Does}
use Rattle.consolidate.specs.AnyFast.{Told}
use Rattle.primitives.specs.FollowLaws.{gave-by, gave-none}

module _ (b : ℕ) (h : Heap) where
  step4-small : b < large → step4 b h ≡ does h []
  unfolding step4
  step4-small l = let t : leb large b ≡ false = lt-leb large b l in rw (t, step4)

  step4-none : large ≤ b → any_fast? h ≡ false → step4 b h ≡ does h []
  unfolding step4
  step4-none l u = let t : leb large b ≡ true = le-leb large b l in rw (t, u, step4)

  step4-some : large ≤ b → any_fast? h ≡ true → step4 b h ≡ consolidate h
  unfolding step4
  step4-some l u = let t : leb large b ≡ true = le-leb large b l in rw (t, u, step4)

module _ (b : ℕ) where
  pub small4 : (w r : List ℕ) → b < large → Does (Unit {0}) Good (step4 b) w r tt w r
  small4 w r l = record { does = λ h o g. gave-by (step4-small b h l) (gave-none h tt w r o.rec) }

  pub none4 : (w r : List ℕ) (t : Bool) → large ≤ b → Told r t → t ≡ false → Does (Unit {0}) Good (step4 b) w r tt w r
  none4 w r t l f e = record { does = λ h o g. gave-by (step4-none b h l (sym (f h w o) ∙ e)) (gave-none h tt w r o.rec) }

  pub some4 : (w r v q : List ℕ) (t : Bool) → large ≤ b → Told r t → t ≡ true → Does (Unit {0}) Good consolidate w r tt v q → Does (Unit {0}) Good (step4 b) w r tt v q
  some4 w r v q t l f e d = record { does = λ h o g. gave-by (step4-some b h l (sym (f h w o) ∙ e)) (d.does h o g) }
