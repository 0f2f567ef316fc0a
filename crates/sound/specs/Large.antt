-- Steps 6, 7 and 9 of grant: the best fit in the own bin, the first bin above, the top. Each keeps a sound heap; what it gives is at least b and new among
-- the loose. The found chunk tiled by the list's tests, or because bins rise with sizes. Assumes nothing.
use Rattle.std.specs.Prelude.{◌≡◌, refl, List, [], ◌∷◌, ◌⊎◌, Bool, true, eqb, ltb, leb, Option, Some, None}
use Rattle.std.proofs.Common.{sym, ap, ◌∙◌, subst, inl, inr, not-suc-le-zero, arith, eqb-true, ltb-false, leb-true}
use Rattle.std.proofs.Math.Logic.{⊎_elim}
use Rattle.std.proofs.Math.Bool.{false}
use Prim.Native.Nat.{ℕ, zero, suc, ◌+◌, ◌-◌, ◌%◌, ◌≤◌, min}
use Rattle.std.proofs.lemmas.Bool.{eqb-false}
use Rattle.sizes.specs.Limits.{large, last_bin, none64}
use Rattle.sizes.specs.Sizes.{bin_of}
use Rattle.sizes.specs.BinLaws.{bin-monotone, bin_of-bounds}
use Rattle.machine.specs.Lists.{lst, some?, cnt}
use Rattle.machine.specs.Count.{eq?, ind-other, cnt-here, cnt-there}
use Rattle.machine.specs.Heap.{Heap, bin, top_size, size_of}
use Rattle.machine.specs.Grant.{least_fit, equals, second, fit, step6, first_bin, step7, step9}
use Rattle.sound.specs.Relation.{Mem, Good}
use Rattle.sound.specs.Tiles.{lt-or-le}
use Rattle.sound.specs.Carve.{top-ends}
use Rattle.sound.specs.Moves.{nil, cut-top-moved}
use Rattle.sound.specs.Leaves.{Leaves, leaves-if, leaves-got, gave, Found, found_nothing}
use Rattle.sound.specs.Take.{step8-leaves}
use Rattle.sound.specs.Small.{some-has}

-- ---- 6. the smallest that tiled
least_fit-enough : (f : ℕ → ℕ) (b : ℕ) (l : List ℕ) → (least_fit f b l ≡ 0) ⊎ (b ≤ least_fit f b l)
least_fit-enough f b [] = inl refl
least_fit-enough f b (x ∷ l) = go (least_fit-enough f b l) (ltb (f x) b) refl (eqb (least_fit f b l) 0) refl
  where
    go : (least_fit f b l ≡ 0) ⊎ (b ≤ least_fit f b l) → (t : Bool) → ltb (f x) b ≡ t → (q : Bool) → eqb (least_fit f b l) 0 ≡ q
        → (◌≡◌ {A = ℕ} (elim t [ true ↦ least_fit f b l | false ↦ elim q [ true ↦ f x | false ↦ min (f x) (least_fit f b l) ] ]) 0) ⊎ (b ≤ elim t
        [ true ↦ least_fit f b l | false ↦ elim q [ true ↦ f x | false ↦ min (f x) (least_fit f b l) ] ])
    go r true e q u = r
    go r false e true u = inr (ltb-false (f x) b e)
    go r false e false u = ⊎_elim
        (λ z. absurd (eqb-false (least_fit f b l) 0 u z))
        (λ z. inr (omega (arith, ltb-false (f x) b e)))
        r

equals-has : (f : ℕ → ℕ) (z : ℕ) (l : List ℕ) (c : ℕ) → 1 ≤ cnt c (equals f z l) → (1 ≤ cnt c l) × (f c ≡ z)
equals-has f z [] c m = absurd (not-suc-le-zero m)
equals-has f z (x ∷ l) c m = go (λ k. equals-has f z l c k) (eqb (f x) z) refl m
  where
    go : (1 ≤ cnt c (equals f z l) → (1 ≤ cnt c l) × (f c ≡ z)) → (t : Bool) → eqb (f x) z ≡ t
        → 1 ≤ cnt c (elim t [ true ↦ x ∷ equals f z l | false ↦ equals f z l ])
        → (1 ≤ cnt c (x ∷ l)) × (f c ≡ z)
    go r true e m = ⊎_elim
        (λ (q : c ≡ x). (subst (λ (k : ℕ). 1 ≤ cnt k (x ∷ l)) (sym q) (cnt-here x l), ap f q ∙ eqb-true (f x) z e))
        (λ (q : c ≡ x → ⊥). let k = r (omega (arith, ind-other c x q)) in (omega (arith, k.0), k.1))
        (eq? c x)
    go r false e m = let k = r m in (omega (arith, k.0), k.1)

second-has : (l : List ℕ) (c : ℕ) → second l ≡ Some c → 1 ≤ cnt c l
second-has [] c e = absurd (let z : ◌≡◌ {A = ℕ} 0 1 = cc in omega arith)
second-has (x ∷ []) c e = let q : x ≡ c = cc in rw q (cnt-here c [])
second-has (x ∷ y ∷ l) c e = let q : y ≡ c = cc in rw q (cnt-there c x (c ∷ l) (cnt-here c l))

pub fit_has : (f : ℕ → ℕ) (b : ℕ) (l : List ℕ) (c : ℕ) → fit f b l ≡ Some c → (1 ≤ cnt c l) × (b ≤ f c)
fit_has f b l c e = go (eqb (least_fit f b l) 0) refl e
  where
    go : (t : Bool) → eqb (least_fit f b l) 0 ≡ t → ◌≡◌ {A = Option ℕ} (elim t [ true ↦ None | false ↦ second (equals f (least_fit f b l) l) ]) (Some c)
        → (1 ≤ cnt c l) × (b ≤ f c)
    go true q e = absurd (let z : ◌≡◌ {A = ℕ} 0 1 = cc in omega arith)
    go false q e =
        let k = equals-has f (least_fit f b l) l c (second-has (equals f (least_fit f b l) l) c e) in
        (k.0, ⊎_elim (λ z. absurd (eqb-false (least_fit f b l) 0 q z)) (λ z. omega (arith, k.1)) (least_fit-enough f b l))

-- ---- 7. the first non-empty bin from j on
pub first_bin-has : (n j : ℕ) (h : Heap) (k : ℕ) → first_bin n j h ≡ Some k → (some? (bin h k) ≡ true) × (j ≤ k)
first_bin-has zero j h k e = absurd (let z : ◌≡◌ {A = ℕ} 0 1 = cc in omega arith)
first_bin-has (suc n) j h k e = go (λ q. first_bin-has n (suc j) h k q) (some? (bin h j)) refl e
  where
    go : (first_bin n (suc j) h ≡ Some k → (some? (bin h k) ≡ true) × (suc j ≤ k)) → (t : Bool) → some? (bin h j) ≡ t
        → ◌≡◌ {A = Option ℕ} (elim t [ true ↦ Some j | false ↦ first_bin n (suc j) h ]) (Some k)
        → (some? (bin h k) ≡ true) × (j ≤ k)
    go r true u e = let q : j ≡ k = cc in (ap (λ (i : ℕ). some? (bin h i)) (sym q) ∙ u, omega arith)
    go r false u e = let z = r e in (z.0, omega (arith, z.1))

module _ (b : ℕ) (b16 : b % 16 ≡ 0) (b32 : 32 ≤ b) (h : Heap) (w : List ℕ) (g : Good h) (m : Mem h w) where
  pub step6-leaves : Leaves h w (step6 b h) (Found b h) gave nil
  unfolding step6
  step6-leaves = leaves-if (leb large b)
      (λ e. leaves-got (fit (λ x. size_of h x) b (bin h (bin_of b)))
      (λ c q. let k = fit_has (λ x. size_of h x) b (bin h (bin_of b)) c q in step8-leaves h w (bin_of b) c b false g m k.0 b16 b32 k.1)
      (λ q. found_nothing b h w g m))
      (λ e. found_nothing b h w g m)

  pub step7-leaves : Leaves h w (step7 b h) (Found b h) gave nil
  unfolding step7
  step7-leaves = leaves-got (first_bin (last_bin - bin_of b) (suc (bin_of b)) h)
      (λ j e.
      let k = first_bin-has (last_bin - bin_of b) (suc (bin_of b)) h j e in
      let c : ℕ = lst none64 (bin h j) in
      let mc : 1 ≤ cnt c (bin h j) = some-has (bin h j) k.0 in
      let so : bin_of (size_of h c) ≡ j = g.homes.sorted j c (omega (arith, k.1, (bin_of-bounds b b32).0)) mc in
      let enough : b ≤ size_of h c = ⊎_elim (λ l. absurd (omega (arith, so, k.1, bin-monotone (size_of h c) b (omega arith)))) (λ l. l)
      (lt-or-le (size_of h c) b) in
      step8-leaves h w j c b (ltb b large) g m mc b16 b32 enough)
      (λ e. found_nothing b h w g m)

  -- ---- 9. the top
  pub step9-leaves : Leaves h w (step9 b h) (Found b h) gave nil
  unfolding step9
  step9-leaves = leaves-if (leb (b + 32) (top_size h))
      (λ e.
      let E = top-ends h w b g m b16 b32 (leb-true (b + 32) (top_size h) e) in
      let M = cut-top-moved h b g.shape b16 b32 E.now.0.shape in
      record { mem = E.mem; now = (E.now.0, omega (arith, E.now.1)); moved = record { count = M.count; same = M.same; spare = M.spare; past = M.past } })
      (λ e. found_nothing b h w g m)
