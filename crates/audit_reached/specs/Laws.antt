-- What follows of the lists that are reached: a list that the audit finds good is reached whole, and so are all on a heap whose lists are sound; no chunk is
-- reached twice. By induction on the chunks and the lists. Assumes nothing.
use Rattle.std.specs.Prelude.{◌≡◌, refl, List, [], ◌∷◌, Bool, true, false, ℕ, suc, ◌+◌, ◌≤◌, Ok, Err}
use Rattle.std.proofs.Common.{ap, ◌∙◌, arith, ltb-true}
use Rattle.sizes.specs.Limits.{none64}
use Rattle.machine.specs.Lists.{both, cnt, cnt_all, has?, without, minus}
use Rattle.machine.specs.Count.{without-cnt}
use Rattle.machine.specs.View.{kind_at, tiles_of, view}
use Rattle.machine.specs.Audit.{may_stand, good_from, skips_ok, list_fault, lists}
use Rattle.machine.specs.declared.ListKind.{ListKind}
use Rattle.machine.specs.declared.Fault.TheVariants as A
use Rattle.sound.specs.Release.{both_true}
use Rattle.sound.specs.Tiles.{starts-once}
use Rattle.audit_walks.specs.Tests.{sound-if}
use Rattle.audit_walks.specs.Tiles.{TilesOk}
use Rattle.audit_walks.specs.Marks.{starts_of}
use Rattle.audit.specs.Spelled.{lists_of, view-lists}
use Rattle.audit_reached.specs.Reached.{good_part, reached_from, reached_of}

-- ---- a chunk that is good is reached, and at one that is not the list ends
pub good_none : (v : ℕ) (k : ListKind) (w r left : List ℕ) (p n : ℕ) → good_part v k w r left p n [] ≡ []
unfolding good_part
good_none v k w r left p n = refl

pub good_more : (v : ℕ) (k : ListKind) (w r left : List ℕ) (p n c : ℕ) (l : List ℕ) → both (has? c left) (may_stand v k w r p n c) ≡ true
    → good_part v k w r left p n (c ∷ l) ≡ c ∷ good_part v k w r (without c left) c (suc n) l
unfolding good_part
good_more v k w r left p n c l e = rw (e, good_part)

pub good-bad : (v : ℕ) (k : ListKind) (w r left : List ℕ) (p n c : ℕ) (l : List ℕ) → both (has? c left) (may_stand v k w r p n c) ≡ false → good_part v k w r left p n (c ∷ l) ≡ []
unfolding good_part
good-bad v k w r left p n c l e = rw (e, good_part)

-- ---- a list that is good is reached whole
pub good-whole : (v : ℕ) (k : ListKind) (w r left : List ℕ) (p n : ℕ) (l : List ℕ) → good_from v k w r left p n l ≡ true → good_part v k w r left p n l ≡ l
unfolding good_from
good-whole v k w r left p n [] e = good_none v k w r left p n
good-whole v k w r left p n (c ∷ l) e =
    let t = both_true (both (has? c left) (may_stand v k w r p n c)) _ e in
    good_more v k w r left p n c l t.0 ∙ ap (λ (z : List ℕ). c ∷ z) (good-whole v k w r (without c left) c (suc n) l t.1)

sound-from : (v : ℕ) (w r : List ℕ) (i : ℕ) (left : List ℕ) (ls : List (List ℕ)) → list_fault v w r i left ls ≡ Ok tt → reached_from v w r i left ls ≡ ls
unfolding list_fault reached_from
sound-from v w r i left [] e = refl
sound-from v w r i left (l ∷ ls) e =
    let s = sound-if (both (good_from v (kind_at i) w r left none64 0 l) (skips_ok v (kind_at i) w l)) _ (Err (A.List (kind_at i))) refl e in
    let g = (both_true (good_from v (kind_at i) w r left none64 0 l) (skips_ok v (kind_at i) w l) s.0).0 in
    ap (λ (g : List ℕ). g ∷ reached_from v w r (suc i) (minus left g) ls) (good-whole v (kind_at i) w r left none64 0 l g)
    ∙ ap (λ (gs : List (List ℕ)). l ∷ gs) (sound-from v w r (suc i) (minus left l) ls s.1)

pub sound-reached : (v : ℕ) (w r : List ℕ) → list_fault v w r 0 (starts_of w) (lists_of w r) ≡ Ok tt → reached_of v w r ≡ lists_of w r
unfolding reached_of
sound-reached v w r e = ap (reached_from v w r 0 (starts_of w)) (view-lists w r) ∙ sound-from v w r 0 (starts_of w) (lists_of w r) e

-- ---- a chunk that is reached is no longer left: none is reached twice
good-cnt : (v x : ℕ) (k : ListKind) (w r left : List ℕ) (p n : ℕ) (l : List ℕ)
    → cnt x (minus left (good_part v k w r left p n l)) + cnt x (good_part v k w r left p n l) ≡ cnt x left
unfolding good_part
good-cnt v x k w r left p n [] = omega arith
good-cnt v x k w r left p n (c ∷ l) = go (good-cnt v x k w r (without c left) c (suc n) l) (both (has? c left) (may_stand v k w r p n c)) refl
  where
    more : List ℕ
    more = good_part v k w r (without c left) c (suc n) l

    go : cnt x (minus (without c left) more) + cnt x more ≡ cnt x (without c left) → (b : Bool) → both (has? c left) (may_stand v k w r p n c) ≡ b
        → cnt x (minus left (elim b [ true ↦ c ∷ more | false ↦ [] ])) + cnt x (elim b [ true ↦ c ∷ more | false ↦ [] ]) ≡ cnt x left
    go s true e =
        let i : 1 ≤ cnt c left = ltb-true 0 (cnt c left) (both_true (has? c left) (may_stand v k w r p n c) e).0 in
        omega (arith, s, without-cnt c left i x)
    go s false e = omega arith

reached-left : (v x : ℕ) (w r : List ℕ) (i : ℕ) (left : List ℕ) (ls : List (List ℕ)) → cnt_all x (reached_from v w r i left ls) ≤ cnt x left
unfolding reached_from
reached-left v x w r i left [] = omega arith
reached-left v x w r i left (l ∷ ls) =
    omega (arith, good-cnt v x (kind_at i) w r left none64 0 l, reached-left v x w r (suc i) (minus left (good_part v (kind_at i) w r left none64 0 l)) ls)

pub reached-starts : (v x : ℕ) (w r : List ℕ) → cnt_all x (reached_of v w r) ≤ cnt x (starts_of w)
unfolding reached_of
reached-starts v x w r = reached-left v x w r 0 (starts_of w) (lists (view w r))

pub reached-once : (v x : ℕ) (w r : List ℕ) → TilesOk w 0 (tiles_of w) → cnt_all x (reached_of v w r) ≤ 1
reached-once v x w r t = omega (arith, reached-starts v x w r, starts-once (tiles_of w) 0 x t.sizes)
