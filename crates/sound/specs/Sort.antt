-- A chunk goes from unsorted into its bin, first in a small one and second among its equals in a large one: a falling bin stays falling, and the whole
-- step keeps a sound heap and its words. By induction along the bin. Assumes nothing.
use Rattle.std.specs.Prelude.{◌≡◌, refl, List, [], ◌∷◌, ◌++◌, Bool, true, false, ℕ, ◌≤◌, ◌<◌, eqb, ltb, length}
use Rattle.std.proofs.Common.{ap, ⊎_elim, not-suc-le-zero, arith, eqb-true, lt-ltb, le-ltb, ltb-true, ltb-false}
use Rattle.sizes.specs.Limits.{large, unsorted}
use Rattle.sizes.specs.Sizes.{bin_of}
use Rattle.sizes.specs.BinLaws.{bin_of-small, bin_of-bounds, bin_of-wide}
use Rattle.machine.specs.Lists.{cnt}
use Rattle.machine.specs.Count.{eq?, ind-other, cnt-append, cnt-le-all}
use Rattle.machine.specs.Heap.{Heap, bin, size_of, binned}
use Rattle.machine.specs.Writes.{Write, apply, heap_of, writes, ◌>>=◌}
use Rattle.machine.specs.Primitives.{link_in, unlink}
use Rattle.machine.specs.Grant.{front, behind, sort_in}
use Rattle.sound.specs.Relation.{all, Mem, Shape, Loose, falls, Homes, Good}
use Rattle.sound.specs.Tiles.{lt-or-le}
use Rattle.sound.specs.Lists.{unlink-shape, unlink-loose, unlink-mem, link-shape, link-mem}
use Rattle.sound.specs.Edits.{size_32}
use Rattle.sound.specs.Flags.{flags-above}
use Rattle.sound.specs.Homes.{homes-unlink, homes-link}
use Rattle.sound.specs.Ends.{Ends, ends_more, ends_by}
use Rattle.sound.specs.Join.{binned-unlink, binned-link}

pub front-behind : (f : ℕ → ℕ) (z : ℕ) (l : List ℕ) → l ≡ front f z l ++ behind f z l
front-behind f z [] = refl
front-behind f z (x ∷ l) = go (ltb (f x) z) (eqb (f x) z) (front-behind f z l)
  where
    go : (a b : Bool) → l ≡ front f z l ++ behind f z l
        → x ∷ l ≡ ◌++◌ {A = ℕ} (elim a [ true ↦ [] | false ↦ elim b [ true ↦ x ∷ [] | false ↦ x ∷ front f z l ] ])
        (elim a [ true ↦ x ∷ l | false ↦ elim b [ true ↦ l | false ↦ behind f z l ] ])
    go true b e = refl
    go false true e = refl
    go false false e = ap (λ (k : List ℕ). x ∷ k) e

sort-falls : (f : ℕ → ℕ) (z c : ℕ) (l : List ℕ) → f c ≡ z → falls f l → falls f (front f z l ++ c ∷ behind f z l)
sort-falls f z c [] e k = ((λ y m. absurd (not-suc-le-zero m)), tt)
sort-falls f z c (x ∷ l) e k = go (ltb (f x) z) (eqb (f x) z) refl refl (sort-falls f z c l e k.1)
  where
    go : (a b : Bool) → ltb (f x) z ≡ a → eqb (f x) z ≡ b → falls f (front f z l ++ c ∷ behind f z l)
        → falls f (◌++◌ {A = ℕ} (elim a [ true ↦ [] | false ↦ elim b [ true ↦ x ∷ [] | false ↦ x ∷ front f z l ] ])
        (c ∷ elim a [ true ↦ x ∷ l | false ↦ elim b [ true ↦ l | false ↦ behind f z l ] ]))
    go true b p q r =
        let lt : f x < z = ltb-true (f x) z p in
        ((λ y m. ⊎_elim (λ (w : y ≡ x). omega (arith, ap f w)) (λ (w : y ≡ x → ⊥). omega (arith, k.0 y (omega (arith, ind-other y x w)))) (eq? y x)), k)
    go false true p q r =
        let eq : f x ≡ z = eqb-true (f x) z q in (
          (λ y m. ⊎_elim (λ (w : y ≡ c). omega (arith, ap f w)) (λ (w : y ≡ c → ⊥). k.0 y (omega (arith, ind-other y c w))) (eq? y c)),
          ((λ y m. omega (arith, k.0 y m)), k.1),
        )
    go false false p q r =
        let le : z ≤ f x = ltb-false (f x) z p in (
          (λ y m. ⊎_elim (λ (w : y ≡ c). omega (arith, ap f w))
              (λ (w : y ≡ c → ⊥). k.0 y (omega (
                arith,
                ind-other y c w,
                cnt-append y (front f z l) (c ∷ behind f z l),
                ap (cnt y)
                    (front-behind f z l),
                cnt-append y (front f z l) (behind f z l),
              )))
              (eq? y c)),
          r,
        )

-- where c goes: between xs and ys of its bin
pub record Sorts (h : Heap) (c : ℕ) : Type 0 where
  pub xs : List ℕ
  pub ys : List ℕ
  pub list : bin h (bin_of (size_of h c)) ≡ xs ++ ys
  pub is : sort_in c h ≡ link_in (bin_of (size_of h c)) c xs ys h
  pub falling : 64 ≤ bin_of (size_of h c) → falls (λ x. size_of h x) (bin h (bin_of (size_of h c))) → falls (λ x. size_of h x) (xs ++ c ∷ ys)

pub sorts : (h : Heap) (c : ℕ) → 32 ≤ size_of h c → Sorts h c
unfolding sort_in
sorts h c l = ⊎_elim (λ m. small m) (λ m. big m) (lt-or-le (size_of h c) 1024)
  where
    small : size_of h c < 1024 → Sorts h c
    small m = record {
      xs = [];
      ys = bin h (bin_of (size_of h c));
      list = refl;
      is = rw (lt-ltb (size_of h c) large m, sort_in);
      falling = λ q k. absurd (omega (arith, bin_of-small (size_of h c) l m));
    }

    big : 1024 ≤ size_of h c → Sorts h c
    big m = record {
      xs = front (λ x. size_of h x) (size_of h c) (bin h (bin_of (size_of h c)));
      ys = behind (λ x. size_of h x) (size_of h c) (bin h (bin_of (size_of h c)));
      list = front-behind (λ x. size_of h x) (size_of h c) (bin h (bin_of (size_of h c)));
      is = rw (le-ltb (size_of h c) large m, sort_in);
      falling = λ q k. sort-falls (λ x. size_of h x) (size_of h c) c (bin h (bin_of (size_of h c))) refl k;
    }

pub sort_ends : (h : Heap) (w : List ℕ) (c : ℕ) → Good h → Mem h w → 1 ≤ cnt c (bin h unsorted)
    → Ends (unlink unsorted c h >>= (λ g. sort_in c g)) w (λ g. Good g × (g.stacks ≡ h.stacks) × (g.remainder ≡ h.remainder))
sort_ends h w c g k mc =
    let s = g.shape in
    let h₁ : Heap = heap_of (unlink unsorted c h) in
    let ws : List Write = writes (unlink unsorted c h) in
    let j : ℕ = bin_of (size_of h c) in
    let s₁ : Shape h₁ = unlink-shape h 1 c s mc in
    let m₁ : Homes h₁ = homes-unlink h 1 c mc g.homes in
    let lo : Loose h₁ c = unlink-loose h 1 c s mc in
    let B = bin_of-bounds (size_of h c) (size_32 h c s (omega (arith, s.own c, cnt-le-all c h.bins 1))) in
    let hj : j < length h₁.bins = omega (arith, s₁.binned127, B.1) in
    let S = sorts h₁ c (size_32 h c s (omega (arith, s.own c, cnt-le-all c h.bins 1))) in
    let lc : 64 ≤ j → 1024 ≤ size_of h c = bin_of-wide (size_of h c) in
    let Q : Heap → Type 0 = λ g. Good g × (g.stacks ≡ h.stacks) × (g.remainder ≡ h.remainder) in
    ends_more ws (sort_in c h₁) (ends_by S.is (record {
      mem = link-mem h₁ (apply ws w) j c S.xs S.ys s₁ (unlink-mem h w 1 c s k mc) hj lo S.list lc;
      now = (
        record {
          shape = link-shape h₁ j c S.xs S.ys s₁ hj lo S.list lc;
          homes = homes-link h₁ j c S.xs S.ys (omega (arith, B.0)) hj S.list (λ z. refl) (λ z. S.falling z (m₁.falling j z)) m₁;
          flag = flags-above (λ x. binned h x) (λ x. binned (heap_of (link_in j c S.xs S.ys h₁)) x) 0 0 0 0 (all h) refl
              (λ x z. omega (arith, binned-link h₁ j c x S.xs S.ys hj S.list, binned-unlink h 1 c x mc)) g.flag;
        },
        refl,
        refl,
      );
    }))
