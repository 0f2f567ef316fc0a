-- Stacks are emptied: drain, drains and consolidate keep a sound heap, leave the lists that they empty empty, and every loose chunk as it was. By induction
-- along the list that is emptied; t is how a chunk is taken, f what is done with it. Assumes nothing.
use Rattle.std.specs.Prelude.{◌≡◌, refl, ◌⊎◌, Option}
use Rattle.std.proofs.Math.Path.{ap}
use Rattle.std.proofs.Common.{◌∙◌, arith, get_or-set_same, get_or-set_other}
use mathlib.Core.List.{List, [], ◌∷◌}
use Rattle.std.proofs.Math.Logic.{inl, inr, ⊎_elim}
use Prim.Native.Nat.{ℕ, zero, suc, ◌+◌, ◌≤◌, ◌<◌}
use Rattle.machine.specs.Lists.{tl, cnt}
use Rattle.machine.specs.Count.{eq?, ind-same, cnt-le-all}
use Rattle.machine.specs.Heap.{Heap, stack, fast_at, fast, total}
use Rattle.machine.specs.Writes.{Ran, heap_of, ◌>>=◌}
use Rattle.machine.specs.Primitives.{pop, take_cache}
use Rattle.machine.specs.Release.{join, drain, drains, consolidate}
use Rattle.sound.specs.Relation.{Mem, Loose, Good}
use Rattle.sound.specs.Stacks.{pop-ends, popped-loose, take_cache-ends}
use Rattle.sound.specs.Moves.{nil, one, any, listed-not, pop-moved, take_cache-moved}
use Rattle.sound.specs.Leaves.{Leaves, leaves-weaken, leaves_none, leaves-then, Still, Cached, still-here, still-then}
use Rattle.sound.specs.JoinLeaves.{Every, join-leaves}

-- ---- the head c of stack k, in front of l, is taken: it is loose then, and the other stacks are as they were
pub record Taken (h : Heap) (k c : ℕ) (l : List ℕ) (g : Heap) : Type 0 where
  pub good : Good g
  pub loose : Loose g c
  pub rest : stack g k ≡ l
  pub others : Still (λ i. i ≡ k → ⊥) h g

module _ (h : Heap) (w : List ℕ) (k c : ℕ) (l : List ℕ) (g : Good h) (m : Mem h w) (e : stack h k ≡ c ∷ l) where
  taken : k < 74 → Good (heap_of (pop k h)) → Taken h k c l (heap_of (pop k h))
  taken hk o = record {
    good = o;
    loose = popped-loose h k c l hk g.shape e;
    rest = get_or-set_same h.stacks k (tl (stack h k)) [] (omega (arith, g.shape.stacked74)) ∙ ap tl e;
    others = record { lists = λ i n. get_or-set_other h.stacks k i (tl (stack h k)) [] n; remainder = refl };
  }

  pub pop-taken : k < 74 → Leaves h w (pop k h) (λ a n. Taken h k c l n) (any (one c)) nil
  pop-taken hk = let P = pop-ends h w k hk g m in record { mem = P.mem; now = taken hk P.now; moved = pop-moved h k c l g.shape hk e }

  pub take_cache-taken : k < 64 → Leaves h w (take_cache k h) (λ a n. Taken h k c l n) (any (one c)) nil
  take_cache-taken hk =
      let P = take_cache-ends h w k c l hk g m e in
      record { mem = P.mem; now = taken (omega arith) P.now; moved = take_cache-moved h k c l g.shape (omega arith) e }

-- ---- t takes the head of a stack of M; f, done with any loose chunk, leaves the stacks of M as they are
module _ (t : ℕ → Heap → Ran (Option ℕ)) (f : ℕ → Heap → Ran ℕ) (M : ℕ → Type 0)
    (T : (h : Heap) (w : List ℕ) (k c : ℕ) (l : List ℕ) → Good h → Mem h w → stack h k ≡ c ∷ l → k < 74 → M k → Leaves h w (t k h) (λ a g. Taken h k c l g) (any (one c)) nil)
    (F : (h : Heap) (w : List ℕ) (c : ℕ) → Good h → Mem h w → Loose h c → Leaves h w (f c h) (λ a g. Good g × Still M h g) (any nil) (one c)) where
  pub drain-leaves : (k : ℕ) → k < 74 → M k → (l : List ℕ) (h : Heap) (w : List ℕ) → Good h → Mem h w → stack h k ≡ l
      → Leaves h w (drain t f k l h) (λ a g. Good g × (stack g k ≡ []) × Still (λ i. M i × (i ≡ k → ⊥)) h g) (any nil) nil
  unfolding drain
  drain-leaves k hk mk [] h w g m e = leaves_none m (g, e, still-here (λ i. M i × (i ≡ k → ⊥)) h)
  drain-leaves k hk mk (c ∷ l) h w g m e =
      let s = g.shape in
      let N : ℕ → Type 0 = λ i. M i × (i ≡ k → ⊥) in
      let tot : 1 ≤ total c h = omega (arith, ap (cnt c) e, ind-same c, cnt-le-all c h.stacks k) in
      leaves-then (λ h₁. f c h₁ >>= (λ h₂. drain t f k l h₂)) {i₂ = any nil} {o₂ = one c} (T h w k c l g m e hk mk)
      (λ h₁ w₁ m₁ K.
      let s₁ : Still N h h₁ = record { lists = λ i n. K.others.lists i n.1; remainder = K.others.remainder } in
      leaves-then (λ h₂. drain t f k l h₂) {i = any nil} {o = one c} (F h₁ w₁ c K.good m₁ K.loose)
      (λ n v m₂ p. leaves-weaken (drain-leaves k hk mk l n v p.0 m₂ (p.1.lists k mk ∙ K.rest))
      (λ a j u. (
        u.0,
        u.1,
        still-then N h h₁ j s₁
            (still-then N h₁ n j (record { lists = λ i z. p.1.lists i z.0; remainder = p.1.remainder }) u.2),
      )))
      (λ b x. omega arith) (λ x i z. (z, refl)))
      (λ b x. omega arith) (λ x i z. (refl, listed-not h x c s i tot))

  -- what the emptying of n stacks from k on leaves
  pub record Drained (k n : ℕ) (h g : Heap) : Type 0 where
    pub good : Good g
    pub empty : (i : ℕ) → k ≤ i → i < k + n → stack g i ≡ []
    pub others : Still (λ i. M i × ((i < k) ⊎ (k + n ≤ i))) h g

  pub drains-leaves : (n k : ℕ) → k + n ≤ 74 → ((i : ℕ) → k ≤ i → i < k + n → M i) → (h : Heap) (w : List ℕ) → Good h → Mem h w
      → Leaves h w (drains t f n k h) (λ a g. Drained k n h g) (any nil) nil
  unfolding drains
  drains-leaves zero k hk mk h w g m = leaves_none m
      (record { good = g; empty = λ i l u. absurd (omega arith); others = still-here (λ i. M i × ((i < k) ⊎ (k + 0 ≤ i))) h })
  drains-leaves (suc n) k hk mk h w g m =
      leaves-then (λ h₁. drains t f n (suc k) h₁) (drain-leaves k (omega arith) (mk k (omega arith) (omega arith)) (stack h k) h w g m refl)
      (λ j v mj p. leaves-weaken (drains-leaves n (suc k) (omega arith) (λ i l u. mk i (omega arith) (omega arith)) j v p.0 mj)
      (λ a q D. record {
        good = D.good;
        empty = λ i l u. ⊎_elim
            (λ (z : i ≡ k). ap (stack q) z ∙ D.others.lists k (mk k (omega arith) (omega arith), inl (omega arith)) ∙ p.1)
            (λ (z : i ≡ k → ⊥). D.empty i (omega arith) (omega arith))
            (eq? i k);
        others = record {
          lists = λ i z. ⊎_elim
              (λ (l : i < k). D.others.lists i (z.0, inl (omega arith)) ∙ p.2.lists i (z.0, omega arith))
              (λ (l : k + suc n ≤ i). D.others.lists i (z.0, inr (omega arith)) ∙ p.2.lists i (z.0, omega arith))
              z.1;
          remainder = D.others.remainder ∙ p.2.remainder;
        };
      }))
      (λ b x. refl) (λ x lo z. (refl, refl))

-- ---- every fast list is emptied; the cache lists and the last remainder stay
abbrev pub NoFast : Heap → Type 0
NoFast g = (k : ℕ) → k < 10 → fast g k ≡ []

pub record Consolidated (h g : Heap) : Type 0 where
  pub good : Good g
  pub empty : NoFast g
  pub still : Still Cached h g

pub consolidate-leaves : (h : Heap) (w : List ℕ) → Good h → Mem h w → Leaves h w (consolidate h) (λ a g. Consolidated h g) (any nil) nil
unfolding consolidate
consolidate-leaves h w g m =
    leaves-weaken (drains-leaves pop join Every (λ h w k c l g m e hk mk. pop-taken h w k c l g m e hk) join-leaves 10 64 (omega arith) (λ i l u. tt) h w g m)
    (λ a n D. record {
      good = D.good;
      empty = λ k l. D.empty (fast_at k) (omega arith) (omega arith);
      still = record { lists = λ k l. D.others.lists k (tt, inl l); remainder = D.others.remainder };
    })
