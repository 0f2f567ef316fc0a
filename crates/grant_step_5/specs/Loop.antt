-- The sweep's loop follows the machine: what is left of step 5 from the start is what is left of it from here, on a heap with fewer unsorted chunks. One lemma
-- for each answer of a turn. Assumes nothing.
use Rattle.std.specs.Prelude.{◌≡◌, refl, Bool, ◌⊎◌, ℕ, zero, suc, ◌+◌, ◌-◌, ◌%◌, ◌≤◌, ◌<◌, eqb, leb, length, get_or, Option, Some, None}
use Rattle.std.proofs.Common.{sym, ◌∙◌, subst, ⊎_elim, arith, length-append, get_or-set_same, get_or-set_other}
use Rattle.std.proofs.Math.Path.{ap}
use Rattle.std.proofs.Math.Bool.{true, false}
use mathlib.Core.List.{List, [], ◌∷◌, ◌++◌}
use Rattle.sizes.specs.Limits.{none64, unsorted, most_cached}
use Rattle.sizes.specs.Layout.{bin_first}
use Rattle.sizes.specs.Sizes.{bin_of, cache_of}
use Rattle.sizes.specs.BinLaws.{bin_of-bounds}
use Rattle.machine.specs.Lists.{both, hd, lst, pre, post, some?, cnt}
use Rattle.machine.specs.Count.{cnt-le-all}
use Rattle.machine.specs.Heap.{Heap, stack, cache, bin, size_of, next}
use Rattle.machine.specs.Writes.{Write, apply, Ran, heap_of, writes, giving, more, ◌>>=◌, ran}
use Rattle.machine.specs.Primitives.{push_cache, take_cache, unlink, set_p, set_remainder}
use Rattle.machine.specs.Grant.{room_for?, split, sort_in, lone?, split_lone, keep, turn_at, turn, swept, after_turn, sweep, step5}
use Rattle.machine.specs.View.{up}
use Rattle.machine.specs.declared.{Turn.Turn}
use Rattle.machine.specs.declared.Turn.TheVariants as T
use Rattle.sound.specs.Relation.{Shape, Good}
use Rattle.sound.specs.Edits.{size_32}
use Rattle.sound.specs.Frames.{apply-append}
use Rattle.sound.specs.Lists.{cut}
use Rattle.sound.specs.Sort.{sorts}
use Rattle.sound.specs.Moves.{answer_of}
use Rattle.sound.specs.Small.{some-has}
use Rattle.sound.specs.Sweep.{Turned, turn-leaves}
use Rattle.primitives.specs.Follow.{Ok, answer, Gave, Does}
use Rattle.primitives.specs.FollowLaws.{gave-by, gave-more, gave-giving, gave-none, gave-ok}
use Rattle.primitives.specs.Reach.{more-nil, more-more}
use Rattle.primitives.specs.Stacks.{ok-head}
use Rattle.grant_step_5.specs.Newcomer.{ahead, ahead-first}
use Rattle.grant_step_5.specs.Turns.{turn-empty}

-- ---- a turn that keeps or bins a chunk leaves one fewer in unsorted, where there were m
abbrev Fewer : Turn → ℕ → Heap → Type 0
Fewer (T.Granted c) m g = 1 ≤ m
Fewer T.Cached m g = m ≡ suc (length (bin g unsorted))
Fewer T.Binned m g = m ≡ suc (length (bin g unsorted))
Fewer T.Empty m g = m ≡ 0

abbrev Few : ℕ → Ran Turn → Type 0
Few m (ran g ws t) = Fewer t m g

few-more : (m : ℕ) (ws : List Write) (s : Ran Turn) → Few m s → Few m (more ws s)
few-more m ws (ran g vs t) k = k

few-answer : (m : ℕ) (s : Ran Turn) {t : Turn} → Few m s → answer s ≡ t → Fewer t m (heap_of s)
few-answer m (ran g ws u) k e = subst (λ (t : Turn). Fewer t m g) e k

heap-more : {A : Type 0} (ws : List Write) (s : Ran A) → heap_of (more ws s) ≡ heap_of s
heap-more ws (ran g vs a) = refl

cut-length : (c : ℕ) (l : List ℕ) → 1 ≤ cnt c l → length l ≡ suc (length (pre c l ++ post c l))
cut-length c l m = ap length (cut c l m) ∙ omega (arith, length-append (pre c l) (c ∷ post c l), length-append (pre c l) (post c l))

module _ (b : ℕ) (h : Heap) (c : ℕ) (s : Shape h) (mc : 1 ≤ cnt c (bin h unsorted)) where
  abbrev M : ℕ
  M = length (bin h unsorted)

  abbrev H₁ : Heap
  H₁ = heap_of (unlink unsorted c h)

  abbrev H₂ : Heap
  H₂ = heap_of (set_p (next H₁ c) H₁)

  out-fewer : M ≡ suc (length (bin H₁ unsorted))
  out-fewer = cut-length c (bin h unsorted) mc
      ∙ ap (λ (l : List ℕ). suc (length l)) (sym (get_or-set_same h.bins unsorted (pre c (bin h unsorted) ++ post c (bin h unsorted)) [] (omega (arith, s.binned127))))

  keep-fewer : Few M (keep b c H₂)
  unfolding keep
  keep-fewer = go (both (leb b most_cached) (room_for? b H₂))
    where
      go : (t : Bool) → Few M (elim t [ true ↦ giving T.Cached (push_cache (cache_of b) c H₂) | false ↦ ran H₂ [] (T.Granted c) ])
      go true = out-fewer
      go false = omega (arith, out-fewer)

  sort-fewer : M ≡ suc (length (bin (heap_of (sort_in c H₁)) unsorted))
  sort-fewer =
      let z32 : 32 ≤ size_of h c = size_32 h c s (omega (arith, s.own c, cnt-le-all c h.bins unsorted)) in
      let S = sorts H₁ c z32 in
      out-fewer ∙ ap (λ (l : List ℕ). suc (length l))
      (sym (ap (λ (t : Ran (Unit {0})). bin (heap_of t) unsorted) S.is
      ∙ get_or-set_other H₁.bins (bin_of (size_of h c)) unsorted (S.xs ++ c ∷ S.ys) [] (λ q. omega (arith, (bin_of-bounds (size_of h c) z32).0, q))))

  turn_at-fewer : Few M (turn_at b c h)
  unfolding turn_at split_lone
  turn_at-fewer = go (lone? b c h) (eqb (size_of h c) b)
    where
      granted : (s : Ran (Unit {0})) → Few M (giving (T.Granted c) s)
      granted (ran g ws a) = omega (arith, out-fewer)

      binned : (s : Ran (Unit {0})) → M ≡ suc (length (bin (heap_of s) unsorted)) → Few M (giving T.Binned s)
      binned (ran g ws a) e = e

      go : (t q : Bool) → Few M (elim t [ true ↦ split_lone b c h | false ↦ elim q [ true ↦ unlink unsorted c h >>= (λ n. set_p (next n c) n >>= (λ n. keep b c n)) | false ↦ giving T.Binned (unlink unsorted c h >>= (λ n. sort_in c n)) ] ])
      go true q = granted (unlink unsorted c h >>= (λ n. split c b n >>= (λ n. set_remainder (c + b) n)))
      go false true = few-more M (writes (unlink unsorted c h)) (set_p (next H₁ c) H₁ >>= (λ n. keep b c n)) (few-more M (writes (set_p (next H₁ c) H₁)) (keep b c H₂) keep-fewer)
      go false false = binned (unlink unsorted c h >>= (λ n. sort_in c n)) (sort-fewer ∙ ap (λ (g : Heap). suc (length (bin g unsorted))) (sym (heap-more (writes (unlink unsorted c h)) (sort_in c H₁))))

turn-fewer : (b : ℕ) (h : Heap) → Good h → Few (length (bin h unsorted)) (turn b h)
unfolding turn
turn-fewer b h g = go (some? (bin h unsorted)) refl
  where
    none : (l : List ℕ) → some? l ≡ false → length l ≡ 0
    none [] e = refl
    none (x ∷ l) e = absurd (let z : ◌≡◌ {A = ℕ} 0 1 = cc in omega arith)

    go : (t : Bool) → some? (bin h unsorted) ≡ t → Few (length (bin h unsorted)) (elim t [ true ↦ turn_at b (lst none64 (bin h unsorted)) h | false ↦ ran h [] T.Empty ])
    go true e = turn_at-fewer b h (lst none64 (bin h unsorted)) g.shape (some-has (bin h unsorted) e)
    go false e = none (bin h unsorted) e

-- ---- the sweep, by how many are unsorted and a turn's answer
module _ (b : ℕ) (got : Bool) (h : Heap) where
  sweep-none : (n : ℕ) → n ≡ 0 → sweep n b got h ≡ swept b got h
  unfolding sweep
  sweep-none n e = ap (λ (n : ℕ). sweep n b got h) e

  sweep-turn : (n m : ℕ) → n ≡ suc m → sweep n b got h ≡ after_turn (turn b h) (λ g. sweep m b true g) (λ g. sweep m b got g) (λ g. swept b got g)
  unfolding sweep
  sweep-turn n m e = ap (λ (n : ℕ). sweep n b got h) e

after-granted : (s : Ran Turn) (kept sorted over : Heap → Ran (Option ℕ)) (c : ℕ) → answer s ≡ T.Granted c → after_turn s kept sorted over ≡ giving (Some c) s
after-granted (ran g ws t) kept sorted over c e = ap (λ (t : Turn). after_turn (ran g ws t) kept sorted over) e

after-cached : (s : Ran Turn) (kept sorted over : Heap → Ran (Option ℕ)) → answer s ≡ T.Cached → after_turn s kept sorted over ≡ more (writes s) (kept (heap_of s))
after-cached (ran g ws t) kept sorted over e = ap (λ (t : Turn). after_turn (ran g ws t) kept sorted over) e

after-binned : (s : Ran Turn) (kept sorted over : Heap → Ran (Option ℕ)) → answer s ≡ T.Binned → after_turn s kept sorted over ≡ more (writes s) (sorted (heap_of s))
after-binned (ran g ws t) kept sorted over e = ap (λ (t : Turn). after_turn (ran g ws t) kept sorted over) e

-- ---- on the way
-- where one was cached, the cache list has a head
abbrev pub Full : ℕ → Bool → Heap → Type 0
Full b got h = got ≡ true → (some? (cache h (cache_of b)) ≡ true) × (b ≤ 1040)

-- from h₀ and w₀ on, some writes are done, and f is what is left of step 5
pub record Reach (b : ℕ) (got : Bool) (f : Heap → Ran (Option ℕ)) (h₀ : Heap) (w₀ w r : List ℕ) : Type 0 where
  pub heap : Heap
  pub done : List Write
  pub ok : Ok heap w r
  pub good : Good heap
  pub full : Full b got heap
  pub bytes : w ≡ apply done w₀
  pub same : step5 b h₀ ≡ more done (f heap)

-- all that is left: the sweep while it is going, and then its end alone
abbrev pub sweep_on : ℕ → Bool → Bool → Heap → Ran (Option ℕ)
sweep_on b true got h = sweep (length (bin h unsorted)) b got h
sweep_on b false got h = swept b got h

abbrev pub Sweeping : ℕ → Bool → Bool → List ℕ → List ℕ → List ℕ → List ℕ → Type 0
Sweeping b going got w₀ r₀ w r = (h₀ : Heap) → Ok h₀ w₀ r₀ → Good h₀ → Reach b got (sweep_on b going got) h₀ w₀ w r

-- how many turns are left at most, as words and record have it: one for each unsorted chunk, and one that finds none
abbrev pub turns_left : Bool → List ℕ → List ℕ → ℕ
turns_left true w r = suc (ahead w (up (get_or r (bin_first unsorted) 0)))
turns_left false w r = 0

pub turn-left : (going : Bool) (w r : List ℕ) → going ≡ true → 0 < turns_left going w r
turn-left going w r n = rw n (omega arith)

pub reach-start : (b : ℕ) (h : Heap) (w r : List ℕ) → Ok h w r → Good h → Reach b false (sweep_on b true false) h w w r
unfolding step5
reach-start b h w r o g = record {
  heap = h;
  done = [];
  ok = o;
  good = g;
  full = λ e. absurd (let z : ◌≡◌ {A = ℕ} 0 1 = cc in omega arith);
  bytes = refl;
  same = more-nil (sweep_on b true false h);
}

-- a step that ends it
pub reach-does : {b : ℕ} {got : Bool} {f : Heap → Ran (Option ℕ)} {h₀ : Heap} {w₀ w r : List ℕ} {g : Option ℕ} {v q : List ℕ} → Reach b got f h₀ w₀ w r → Does (Option ℕ) (Full b got) f w r g v q
    → Gave (Option ℕ) (step5 b h₀) g w₀ v q
reach-does {f = f} {g = g} R d = gave-by R.same (gave-more R.done (f R.heap) g R.bytes (d.does R.heap R.ok R.full))

pub reach-over : {b : ℕ} {going got : Bool} {h₀ : Heap} {w₀ w r : List ℕ} → going ≡ false → Reach b got (sweep_on b going got) h₀ w₀ w r → Reach b got (swept b got) h₀ w₀ w r
reach-over {b} {going} {got} {h₀} {w₀} {w} {r} e R = subst (λ (o : Bool). Reach b got (sweep_on b o got) h₀ w₀ w r) e R

suc-of : (n : ℕ) → (n ≡ 0 → ⊥) → n ≡ suc (n - 1)
suc-of zero k = absurd (k refl)
suc-of (suc n) k = omega arith

-- ---- one turn from a heap, by its answer
answer-is : (s : Ran Turn) → answer_of s ≡ answer s
answer-is (ran h ws t) = refl

module _ (b : ℕ) (b16 : b % 16 ≡ 0) (b32 : 32 ≤ b) (h : Heap) (w r v q : List ℕ) (o : Ok h w r) (g : Good h) (t : Turn) (D : Does Turn Good (turn b) w r t v q) where
  abbrev N : Heap
  N = heap_of (turn b h)

  turned : Gave Turn (turn b h) t w v q
  turned = D.does h o g

  left-fewer : Fewer t (length (bin h unsorted)) N
  left-fewer = few-answer (length (bin h unsorted)) (turn b h) (turn-fewer b h g) turned.says

  left_so : Turned b h t N
  left_so = subst (λ (t : Turn). Turned b h t N) (answer-is (turn b h) ∙ turned.says) (turn-leaves b b16 b32 h w g o.mem).now

  left-ok : Good N → Ok N v q
  left-ok k = gave-ok (turn b h) t k.shape (turn-leaves b b16 b32 h w g o.mem).mem turned

-- ---- one turn on the way, by its answer
module _ (b : ℕ) (b16 : b % 16 ≡ 0) (b32 : 32 ≤ b) (going got : Bool) (h₀ : Heap) (w₀ w r v q : List ℕ) (n : going ≡ true) (R : Reach b got (sweep_on b going got) h₀ w₀ w r)
    (t : Turn) (D : Does Turn Good (turn b) w r t v q) where
  abbrev H : Heap
  H = R.heap

  abbrev G : Heap
  G = heap_of (turn b H)

  abbrev L : ℕ
  L = length (bin H unsorted)

  now-fewer : (u : Turn) → t ≡ u → Fewer u L G
  now-fewer u e = subst (λ (t : Turn). Fewer t L G) e (left-fewer b b16 b32 H w r v q R.ok R.good t D)

  now-so : (u : Turn) → t ≡ u → Turned b H u G
  now-so u e = subst (λ (t : Turn). Turned b H t G) e (left_so b b16 b32 H w r v q R.ok R.good t D)

  now-ok : Good G → Ok G v q
  now-ok k = left-ok b b16 b32 H w r v q R.ok R.good t D k

  -- a turn fewer is left
  pub way-fewer : (t ≡ T.Cached) ⊎ (t ≡ T.Binned) → turns_left going v q < turns_left going w r
  way-fewer d = rw n (⊎_elim (λ (e : t ≡ T.Cached). less (now-so T.Cached e).0 (now-fewer T.Cached e)) (λ (e : t ≡ T.Binned). less (now-so T.Binned e).0 (now-fewer T.Binned e)) d)
    where
      less : Good G → L ≡ suc (length (bin G unsorted)) → turns_left true v q < turns_left true w r
      less k e = omega (arith, ahead-first H w r unsorted R.ok (omega arith) (omega arith), ahead-first G v q unsorted (now-ok k) (omega arith) (omega arith))

  now-gave : Gave Turn (turn b H) t w v q
  now-gave = D.does H R.ok R.good

  now-bytes : v ≡ apply (R.done ++ writes (turn b H)) w₀
  now-bytes = now-gave.bytes ∙ ap (apply (writes (turn b H))) R.bytes ∙ sym (apply-append R.done (writes (turn b H)) w₀)

  goes : (got : Bool) (h : Heap) → sweep_on b going got h ≡ sweep (length (bin h unsorted)) b got h
  goes got h = ap (λ (o : Bool). sweep_on b o got h) n

  -- the turn's writes are done too
  on : (s : Ran (Option ℕ)) → sweep_on b going got H ≡ more (writes (turn b H)) s → step5 b h₀ ≡ more (R.done ++ writes (turn b H)) s
  on s e = R.same ∙ ap (more R.done) e ∙ more-more R.done (writes (turn b H)) s

  pub way-granted : (c : ℕ) → t ≡ T.Granted c → Gave (Option ℕ) (step5 b h₀) (Some c) w₀ v q
  way-granted c e =
      let f : L ≡ suc (L - 1) = suc-of L (λ z. omega (arith, z, now-fewer (T.Granted c) e)) in
      gave-by R.same
      (gave-more R.done (sweep_on b going got H) (Some c) R.bytes
      (gave-by (goes got H ∙ sweep-turn b got H L (L - 1) f ∙ after-granted (turn b H) _ _ _ c (now-gave.says ∙ e))
      (gave-giving (turn b H) t (Some c) now-gave)))

  pub way-cached : t ≡ T.Cached → Reach b true (sweep_on b going true) h₀ w₀ v q
  way-cached e =
      let k = now-so T.Cached e in
      record {
        heap = G;
        done = R.done ++ writes (turn b H);
        ok = now-ok k.0;
        good = k.0;
        full = λ z. (k.1, k.2);
        bytes = now-bytes;
        same = on (sweep_on b going true G) (goes got H ∙ sweep-turn b got H L (length (bin G unsorted)) (now-fewer T.Cached e) ∙ after-cached (turn b H) _ _ _ (now-gave.says ∙ e)
            ∙ ap (more (writes (turn b H))) (sym (goes true G)));
      }

  pub way-binned : t ≡ T.Binned → Reach b got (sweep_on b going got) h₀ w₀ v q
  way-binned e =
      let k = now-so T.Binned e in
      record {
        heap = G;
        done = R.done ++ writes (turn b H);
        ok = now-ok k.0;
        good = k.0;
        bytes = now-bytes;
        full = λ z. (ap some? (k.1.lists (cache_of b) tt) ∙ (R.full z).0, (R.full z).1);
        same = on (sweep_on b going got G) (goes got H ∙ sweep-turn b got H L (length (bin G unsorted)) (now-fewer T.Binned e) ∙ after-binned (turn b H) _ _ _ (now-gave.says ∙ e)
            ∙ ap (more (writes (turn b H))) (sym (goes got G)));
      }

  -- nothing was left: the turn did nothing
  pub way-empty : t ≡ T.Empty → Reach b got (sweep_on b false got) h₀ w₀ v q
  way-empty e =
      let z : L ≡ 0 = now-fewer T.Empty e in
      let m : Gave Turn (ran H [] T.Empty) t w v q = gave-by (sym (turn-empty b H (none (bin H unsorted) z))) now-gave in
      record {
        heap = H;
        done = R.done;
        good = R.good;
        full = R.full;
        ok = record { shape = R.ok.shape; mem = rw m.bytes R.ok.mem; rec = m.rec };
        bytes = m.bytes ∙ R.bytes;
        same = R.same ∙ ap (more R.done) (goes got H ∙ sweep-none b got H L z);
      }
    where
      none : (l : List ℕ) → length l ≡ 0 → some? l ≡ false
      none [] z = refl
      none (x ∷ l) z = absurd (omega arith)

-- ---- the end
module _ (h : Heap) (w r : List ℕ) (b : ℕ) (got : Bool) (o : Ok h w r) (k : Full b got h) where
  pub swept-none-gave : got ≡ false → Gave (Option ℕ) (swept b got h) None w w r
  unfolding swept
  swept-none-gave e = gave-by (ap (λ (t : Bool). swept b t h) e) (gave-none h None w r o.rec)

  module _ (e : got ≡ true) (i : ℕ) (ei : i ≡ cache_of b) where
    pub swept-some : some? (stack h i) ≡ true
    swept-some = ap (λ (i : ℕ). some? (stack h i)) ei ∙ (k e).0

    module _ (c : ℕ) (v q : List ℕ) (d : Does (Option ℕ) (λ h. some? (stack h i) ≡ true) (take_cache i) w r (Some c) v q) where
      pub swept-small : c + 32 ≤ 262144
      swept-small =
          let H = ok-head h w r o i swept-some in
          let m : (Some (hd none64 (stack h i))) ≡ (Some c) = (d.does h o swept-some).says in
          let f : hd none64 (stack h i) ≡ c = cc in
          omega (arith, H.here.small, H.same)

      pub swept-gave : Gave (Option ℕ) (swept b got h) (Some c) w v q
      unfolding swept
      swept-gave = gave-by (ap (λ (t : Bool). swept b t h) e ∙ ap (λ (i : ℕ). take_cache i h) (sym ei)) (d.does h o swept-some)
