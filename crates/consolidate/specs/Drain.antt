-- A stack is emptied chunk by chunk, and stacks are one after another, as the machine's drain and drains do it: what a turn of each loop comes to.
-- The fast list's length is read from the words, along its links. Assumes nothing.
use Rattle.std.specs.Prelude.{◌≡◌, true, ℕ, suc, ◌+◌, ◌-◌, ◌≤◌, ◌<◌, length, get_or, Option, Some}
use Rattle.std.proofs.Math.Path.{refl, sym, ap}
use Rattle.std.proofs.Common.{◌∙◌, subst, arith}
use mathlib.Core.List.{List, [], ◌∷◌}
use Rattle.sizes.specs.Limits.{none64}
use Rattle.sizes.specs.Layout.{fast_head}
use Rattle.machine.specs.Lists.{hd, tl, some?}
use Rattle.machine.specs.Count.{cnt-le-all}
use Rattle.machine.specs.Heap.{Heap, stack, fast_at}
use Rattle.machine.specs.Writes.{Ran, ran, heap_of, writes, apply, ◌>>=◌}
use Rattle.machine.specs.Primitives.{pop}
use Rattle.machine.specs.Release.{join, drain, drains, consolidate}
use Rattle.machine.specs.View.{up, edition_in, chunks_by}
use Rattle.sound.specs.Relation.{Mem, Loose, Good}
use Rattle.sound.specs.Moves.{nil, one, any}
use Rattle.sound.specs.Leaves.{Leaves, Still}
use Rattle.sound.specs.JoinLeaves.{Every, join-leaves}
use Rattle.sound.specs.Drain.{Taken, pop-taken, drain-leaves}
use Rattle.primitives.specs.Follow.{Ok, Has, answer, Gave, Does}
use Rattle.primitives.specs.FollowLaws.{gave_then, gave-ok}
use Rattle.primitives.specs.Chunks.{list-short, up-hd, walk-list}
use Rattle.primitives.specs.Stacks.{ok-stack, ok-fast_head, ok-edition}
use Rattle.primitives.specs.Reach.{Reach, Way, then-then, then_same, ends_next, way-here, reach-then, reach-end}

-- ---- a fast list's length, by the words
abbrev pub left : List ℕ → List ℕ → ℕ → ℕ
left w r k = length (chunks_by (edition_in r) (length w) w (up (get_or r (fast_head k) 0)))

module _ (h : Heap) (w r : List ℕ) (o : Ok h w r) where
  pub left_is : (k : ℕ) → k < 10 → left w r k ≡ length (stack h (fast_at k))
  left_is k hk =
      let l : List ℕ = stack h (fast_at k) in
      ap (λ (d : ℕ). length (chunks_by d (length w) w (up (get_or r (fast_head k) 0)))) (ok-edition h w r o)
      ∙ ap (λ (c : ℕ). length (chunks_by h.edition (length w) w c)) (ap up (ok-fast_head h w r o k hk) ∙ up-hd w l (ok-stack h w r o (fast_at k)))
      ∙ ap length (walk-list h.edition (length w) w l (list-short h w o.shape o.mem l (λ x. omega (arith, o.shape.own x, cnt-le-all x h.stacks (fast_at k)))) (ok-stack h w r o (fast_at k)) (o.mem.chains (fast_at k)))

-- ---- the machine's drain, from the stack as it is: t takes the head of a stack of M; f is what is done with it, and leaves the stacks of M as they are
abbrev pub drain_of : (ℕ → Heap → Ran (Option ℕ)) → (ℕ → Heap → Ran ℕ) → ℕ → Heap → Ran (Unit {0})
drain_of t f k h = drain t f k (stack h k) h

module _ (t : ℕ → Heap → Ran (Option ℕ)) (f : ℕ → Heap → Ran ℕ) (M : ℕ → Type 0)
    (H : (k : ℕ) (h : Heap) → answer (t k h) ≡ Some (hd none64 (stack h k)))
    (T : (h : Heap) (w : List ℕ) (k c : ℕ) (l : List ℕ) → Good h → Mem h w → stack h k ≡ c ∷ l → k < 74 → M k → Leaves h w (t k h) (λ a g. Taken h k c l g) (any (one c)) nil)
    (F : (h : Heap) (w : List ℕ) (c : ℕ) → Good h → Mem h w → Loose h c → Leaves h w (f c h) (λ a g. Good g × Still M h g) (any nil) (one c))
    (k : ℕ) (hk : k < 74) (mk : M k) where
  drain-end : (h : Heap) → stack h k ≡ [] → drain_of t f k h ≡ ran h [] tt
  unfolding drain
  drain-end h e = ap (λ (l : List ℕ). drain t f k l h) e

  -- the head c of the stack is taken
  module _ (h : Heap) (w r : List ℕ) (o : Ok h w r) (g : Good h) (some : some? (stack h k) ≡ true) {c : ℕ} {u q : List ℕ}
      (P : Does (Option ℕ) (λ h. some? (stack h k) ≡ true) (t k) w r (Some c) u q) where
    abbrev h₁ : Heap
    h₁ = heap_of (t k h)

    list-is : stack h k ≡ c ∷ tl (stack h k)
    list-is = go (stack h k) some (sym (H k h) ∙ (P.does h o some).says)
      where
        go : (l : List ℕ) → some? l ≡ true → ◌≡◌ {A = Option ℕ} (Some (hd none64 l)) (Some c) → l ≡ c ∷ tl l
        go [] s e = let z : ◌≡◌ {A = ℕ} 0 1 = cc in absurd (omega arith)
        go (x ∷ l) s e = let z : x ≡ c = cc in ap (λ (x : ℕ). x ∷ l) z

    taken : Leaves h w (t k h) (λ a g. Taken h k c (tl (stack h k)) g) (any (one c)) nil
    taken = T h w k c (tl (stack h k)) g o.mem list-is hk mk

    taken-ok : Ok h₁ u q
    taken-ok = gave-ok (t k h) (Some c) taken.now.good.shape taken.mem (P.does h o some)

    pub taken-has : Has (λ h. Good h × Loose h c) u q
    taken-has = record { heap = h₁; ok = taken-ok; holds = (taken.now.good, taken.now.loose) }

    left₁ : Leaves h₁ (apply (writes (t k h)) w) (f c h₁) (λ a g. Good g × Still M h₁ g) (any nil) (one c)
    left₁ = F h₁ (apply (writes (t k h)) w) c taken.now.good taken.mem taken.now.loose

    -- f is done with it: the stack is one shorter
    shorter : stack (heap_of (f c h₁)) k ≡ tl (stack h k)
    shorter = left₁.now.1.lists k mk ∙ taken.now.rest

    drain-turn : drain_of t f k h ≡ ((t k h >>= f c) >>= drain_of t f k)
    unfolding drain
    drain-turn =
        ap (λ (l : List ℕ). drain t f k l h) list-is
        ∙ then_same (t k h) (λ h₁. f c h₁ >>= drain t f k (tl (stack h k))) (λ h₁. f c h₁ >>= drain_of t f k)
        (then_same (f c h₁) (drain t f k (tl (stack h k))) (drain_of t f k) (ap (λ (l : List ℕ). drain t f k l (heap_of (f c h₁))) (sym shorter)))
        ∙ sym (then-then (t k h) (f c) (drain_of t f k))

    module _ {s : ℕ} {v q' : List ℕ} (D : Does ℕ (λ h. Good h × Loose h c) (f c) u q s v q') where
      done-gave : Gave ℕ (f c h₁) s u v q'
      done-gave = D.does h₁ taken-ok (taken.now.good, taken.now.loose)

      -- a heap with one chunk less on the stack has the words and the record then
      pub record Fewer : Type 0 where
        pub heap : Heap
        pub ok : Ok heap v q'
        pub fewer : length (stack heap k) < length (stack h k)

      pub drain-fewer : Fewer
      drain-fewer = record {
        heap = heap_of (f c h₁);
        ok = gave-ok (f c h₁) s left₁.now.0.shape (subst (λ (x : List ℕ). Mem (heap_of (f c h₁)) (apply (writes (f c h₁)) x)) (sym (P.does h o some).bytes) left₁.mem) done-gave;
        fewer = omega (arith, ap length shorter, ap length list-is);
      }

      turn-reach : {o₀ : Ran (Unit {0})} {w₀ : List ℕ} (R : Reach (Unit {0}) o₀ (drain_of t f k) w₀ w r) → R.heap ≡ h
          → Reach (Unit {0}) o₀ (drain_of t f k) w₀ v q'
      turn-reach R e = reach-then R (t k h >>= f c) s (drain_of t f k) (ap (drain_of t f k) e ∙ drain-turn)
          (gave_then (t k h) (f c) (Some c) s (P.does h o some) done-gave)
          (ends_next (t k h) (f c) w Good (record { mem = left₁.mem; now = left₁.now.0 }))

  -- ---- the loop's turn, and its end
  pub drain-next : {o₀ : Ran (Unit {0})} {w₀ w r : List ℕ} {c s : ℕ} {u q v q' : List ℕ} (R : Reach (Unit {0}) o₀ (drain_of t f k) w₀ w r)
      → some? (stack R.heap k) ≡ true
      → Does (Option ℕ) (λ h. some? (stack h k) ≡ true) (t k) w r (Some c) u q → Does ℕ (λ h. Good h × Loose h c) (f c) u q s v q' → Reach (Unit {0}) o₀
      (drain_of t f k) w₀ v q'
  drain-next {o₀} {w₀} {w} {r} R m P D = turn-reach R.heap w r R.ok R.good m P D R refl

  pub drain-done : {o₀ : Ran (Unit {0})} {w₀ w r : List ℕ} (R : Reach (Unit {0}) o₀ (drain_of t f k) w₀ w r) → stack R.heap k ≡ []
      → Gave (Unit {0}) o₀ tt w₀ w r
  drain-done R e = reach-end R tt (drain-end R.heap e)

  -- ---- stacks k to k + n - 1, of which k is emptied now
  pub drains-next : (n : ℕ) {o₀ : Ran (Unit {0})} {w₀ w r v q : List ℕ} → Reach (Unit {0}) o₀ (drains t f (suc n) k) w₀ w r
      → Does (Unit {0}) Good (drain_of t f k) w r tt v q
      → Reach (Unit {0}) o₀ (drains t f n (suc k)) w₀ v q
  unfolding drains
  drains-next n {o₀} {w₀} {w} R D =
      let h : Heap = R.heap in
      let L = drain-leaves t f M T F k hk mk (stack h k) h w R.good R.ok.mem refl in
      reach-then R (drain_of t f k h) tt (λ g. drains t f n (suc k) g) refl (D.does h R.ok R.good) (record { mem = L.mem; now = L.now.0 })

pub drains-done : (t : ℕ → Heap → Ran (Option ℕ)) (f : ℕ → Heap → Ran ℕ) (k : ℕ) {o₀ : Ran (Unit {0})} {w₀ w r : List ℕ} → Reach (Unit {0}) o₀ (drains t f 0 k) w₀ w r
    → Gave (Unit {0}) o₀ tt w₀ w r
unfolding drains
drains-done t f k R = reach-end R tt refl

-- ---- how a fast list's head is taken
pub pop-head : (k : ℕ) (h : Heap) → answer (pop k h) ≡ Some (hd none64 (stack h k))
pop-head k h = refl

pub pop-takes : (h : Heap) (w : List ℕ) (k c : ℕ) (l : List ℕ) → Good h → Mem h w → stack h k ≡ c ∷ l → k < 74 → Every k → Leaves h w (pop k h) (λ a g. Taken h k c l g) (any (one c)) nil
pop-takes h w k c l g m e hk mk = pop-taken h w k c l g m e hk

-- ---- what falls with each turn: a fast list's length by the words
pub fast-less : (k : ℕ) → k < 10
    → {o₀ : Ran (Unit {0})} {w₀ w r : List ℕ} {c s : ℕ} {q v q' : List ℕ} (R : Reach (Unit {0}) o₀ (drain_of pop join (fast_at k)) w₀ w r) → some?
    (stack R.heap (fast_at k)) ≡ true
    → Does (Option ℕ) (λ h. some? (stack h (fast_at k)) ≡ true) (pop (fast_at k)) w r (Some c) w q → Does ℕ (λ h. Good h × Loose h c)
    (join c) w q s v q' → left v q' k < left w r k
fast-less k hk {o₀} {w₀} {w} {r} {c} {s} {q} {v} {q'} R m P D =
    let L = drain-fewer pop join Every pop-head pop-takes join-leaves (fast_at k) (omega arith) tt R.heap w r R.ok R.good m P D in
    omega (arith, left_is L.heap v q' L.ok k hk, left_is R.heap w r R.ok k hk, L.fewer)

-- ---- the outer loop: what is left of consolidate when k lists are empty
abbrev pub from_fast : ℕ → Heap → Ran (Unit {0})
from_fast k = drains pop join (10 - k) (fast_at k)

pub consolidate-start : (w r : List ℕ) → Way (Unit {0}) consolidate (from_fast 0) w r w r
unfolding consolidate
consolidate-start w r = way-here (drains pop join 10 64) w r

module _ (k : ℕ) {o₀ : Ran (Unit {0})} {w₀ w r : List ℕ} where
  pub fast-list : k < 10 → {v q : List ℕ} → Reach (Unit {0}) o₀ (from_fast k) w₀ w r → Does (Unit {0}) Good (drain_of pop join (fast_at k)) w r tt v q
      → Reach (Unit {0}) o₀ (from_fast (k + 1)) w₀ v q
  fast-list hk {v} {q} R D =
      let n : ℕ = 10 - (k + 1) in
      let e : 10 - k ≡ suc n = omega arith in
      let i : suc (fast_at k) ≡ fast_at (k + 1) = omega arith in
      subst (λ (i : ℕ). Reach (Unit {0}) o₀ (drains pop join n i) w₀ v q) i
      (drains-next pop join Every pop-head pop-takes join-leaves (fast_at k) (omega arith) tt n (subst (λ (m : ℕ). Reach (Unit {0}) o₀ (drains pop join m (fast_at k)) w₀ w r) e R) D)

  pub fast-end : 10 ≤ k → Reach (Unit {0}) o₀ (from_fast k) w₀ w r → Gave (Unit {0}) o₀ tt w₀ w r
  fast-end hk R =
      let e : 10 - k ≡ 0 = omega arith in
      drains-done pop join (fast_at k) (subst (λ (m : ℕ). Reach (Unit {0}) o₀ (drains pop join m (fast_at k)) w₀ w r) e R)
