-- Whether some fast list has a chunk, list by list: those before list k are empty, so the answer lies in the lists from k on. Assumes nothing.
use Rattle.std.specs.Prelude.{◌≡◌, refl, Bool, true, false, not, ◌||◌, List, [], ◌∷◌, ℕ, zero, suc, ◌+◌, ◌<◌, length, get_or, take, drop, eqb, slice_range}
use Rattle.std.specs.List.{list_any}
use Rattle.std.proofs.Common.{sym, ap, ◌∙◌, subst, inl, inr, arith, drop_of_length-le, drop-cons, eq-eqb, ne_eqb}
use Rattle.std.proofs.lemmas.Bool.{cases_eq}
use Rattle.sizes.specs.Limits.{none32}
use Rattle.sizes.specs.Layout.{fast_head}
use Rattle.machine.specs.Lists.{either, some?, any?}
use Rattle.machine.specs.Heap.{Heap, fast_at, any_fast?}
use Rattle.primitives.specs.Follow.{Ok}
use Rattle.primitives.specs.Heads.{fast-some, fast-empty}

-- t is what the fast lists of every heap with the record r say
abbrev pub Told : List ℕ → Bool → Type 0
Told r t = (h : Heap) (w : List ℕ) → Ok h w r → t ≡ any_fast? h

abbrev pub From : List ℕ → ℕ → Type 0
From r k = (h : Heap) (w : List ℕ) → Ok h w r → any_fast? h ≡ any? (drop (fast_at k) h.stacks)

pub from_start : (r : List ℕ) → From r 0
from_start r h w o = refl

module _ (r : List ℕ) (k : ℕ) (l : k < 10) (f : From r k) where
  split : (h : Heap) (w : List ℕ) → Ok h w r → any_fast? h ≡ either (some? (get_or h.stacks (fast_at k) [])) (any? (drop (suc (fast_at k)) h.stacks))
  split h w o = f h w o ∙ ap any? (drop-cons h.stacks (fast_at k) [] (omega (arith, o.shape.stacked74)))

  pub from_next : get_or r (fast_head k) 0 ≡ none32 → From r (k + 1)
  from_next e h w o =
      let n : suc (fast_at k) ≡ fast_at (k + 1) = omega arith in
      split h w o ∙ ap (λ (l : List ℕ). either (some? l) (any? (drop (suc (fast_at k)) h.stacks))) (fast-empty h w r o k l e)
      ∙ ap (λ (i : ℕ). any? (drop i h.stacks)) n

  pub from_found : (get_or r (fast_head k) 0 ≡ none32 → ⊥) → Told r true
  from_found n h w o = sym (split h w o ∙ ap (λ (t : Bool). either t (any? (drop (suc (fast_at k)) h.stacks))) (fast-some h w r o k l n))

pub from_end : (r : List ℕ) (k : ℕ) → k ≡ 10 → From r k → Told r false
from_end r k e f h w o = sym (f h w o ∙ ap any? (drop_of_length-le h.stacks {i = fast_at k} (omega (arith, o.shape.stacked74))))

-- ---- whether one of the heads is not none: those of lists k to k + n - 1, the last one's 9
abbrev heads_some? : List ℕ → Bool
heads_some? l = list_any (λ x. not (eqb x none32)) l

module _ (r : List ℕ) (s : length r ≡ 396) where
  heads-from : (n k : ℕ) → k + n ≡ 10 → From r k → (t : Bool) → t ≡ heads_some? (take n (drop (fast_head k) r)) → Told r t
  heads-from zero k e f t p = subst (Told r) (sym p) (from_end r k (omega (arith, e)) f)
  heads-from (suc n) k e f t p =
      let here : drop (fast_head k) r ≡ get_or r (fast_head k) 0 ∷ drop (suc (fast_head k)) r = drop-cons r (fast_head k) 0 (omega (arith, e, s)) in
      let next : suc (fast_head k) ≡ fast_head (k + 1) = omega arith in
      let q : t ≡ heads_some? (get_or r (fast_head k) 0 ∷ take n (drop (fast_head (k + 1)) r)) =
      p ∙ ap (λ l. heads_some? (take (suc n) l)) here ∙ ap (λ i. heads_some? (get_or r (fast_head k) 0 ∷ take n (drop i r))) next in
      let rest : Bool = heads_some? (take n (drop (fast_head (k + 1)) r)) in
      elim (cases_eq (get_or r (fast_head k) 0) none32) [
        | inl y ↦ heads-from n (k + 1) (omega (arith, e)) (from_next r k (omega (arith, e)) f y) t (q ∙ ap (λ b. not b || rest) (eq-eqb (get_or r (fast_head k) 0) none32 y))
        | inr y ↦ subst (Told r) (sym (q ∙ ap (λ b. not b || rest) (ne_eqb (get_or r (fast_head k) 0) none32 y))) (from_found r k (omega (arith, e)) f y)
      ]

  pub told : (t : Bool) → t ≡ list_any (λ x. not (eqb x 4294967295)) (slice_range r 131 141) → Told r t
  told t e = heads-from 10 0 refl (from_start r) t e
