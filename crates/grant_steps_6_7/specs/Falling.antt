-- Lists that fall in size: the last chunk of at least b bytes is one of the smallest such, its equals stand together before it, and so the machine's best
-- fit is the second of them. By induction along the list. Assumes nothing.
use Rattle.std.specs.Prelude.{◌≡◌, refl, Bool, true, false, List, [], ◌∷◌, ◌++◌, ◌⊎◌, ℕ, ◌+◌, ◌≤◌, ◌<◌, min, eqb, ltb, Some, None}
use Rattle.std.proofs.Common.{sym, ap, ◌∙◌, subst, append-nil, inl, inr, ⊎_elim, not-suc-le-zero, arith, eq-eqb, ne_eqb, eqb-true, lt-ltb, ltb-true, ltb-false}
use Rattle.std.proofs.lemmas.Bool.{eqb-false}
use Rattle.sizes.specs.Limits.{none64}
use Rattle.machine.specs.Lists.{lst, cnt}
use Rattle.machine.specs.Count.{eq?, ind-other, cnt-append, cnt-here, cnt-there}
use Rattle.machine.specs.Grant.{least_fit, equals, second, fit}
use Rattle.sound.specs.Relation.{falls}
use Rattle.sound.specs.Tiles.{zero_or}
use Rattle.sound.specs.Lists.{lst-in}
use Rattle.sound.specs.Homes.{falls-split}

module _ (sz : ℕ → ℕ) (b : ℕ) where
  -- the least fit by the tests
  least_fit-skip : (x : ℕ) (l : List ℕ) → sz x < b → least_fit sz b (x ∷ l) ≡ least_fit sz b l
  least_fit-skip x l k = rw (lt-ltb (sz x) b k, least_fit)

  -- m is below every size that tiled
  least_fit-low : (m : ℕ) (l : List ℕ) → ((y : ℕ) → 1 ≤ cnt y l → b ≤ sz y → m ≤ sz y) → (least_fit sz b l ≡ 0) ⊎ (m ≤ least_fit sz b l)
  least_fit-low m [] k = inl refl
  least_fit-low m (x ∷ l) k = go (least_fit-low m l (λ y i. k y (cnt-there y x l i))) (ltb (sz x) b) refl (eqb (least_fit sz b l) 0) refl
    where
      go : (least_fit sz b l ≡ 0) ⊎ (m ≤ least_fit sz b l) → (t : Bool) → ltb (sz x) b ≡ t → (q : Bool) → eqb (least_fit sz b l) 0 ≡ q
          → (◌≡◌ {A = ℕ} (elim t [ true ↦ least_fit sz b l | false ↦ elim q [ true ↦ sz x | false ↦ min (sz x) (least_fit sz b l) ] ]) 0)
          ⊎ (m ≤ elim t [ true ↦ least_fit sz b l | false ↦ elim q [ true ↦ sz x | false ↦ min (sz x) (least_fit sz b l) ] ])
      go r true e q u = r
      go r false e true u = inr (k x (cnt-here x l) (ltb-false (sz x) b e))
      go r false e false u = ⊎_elim
          (λ z. absurd (eqb-false (least_fit sz b l) 0 u z))
          (λ z. inr (omega (arith, k x (cnt-here x l) (ltb-false (sz x) b e))))
          r

  -- it is at most every size that tiled
  least_fit-high : (y : ℕ) (l : List ℕ) → 1 ≤ b → 1 ≤ cnt y l → b ≤ sz y → (1 ≤ least_fit sz b l) × (least_fit sz b l ≤ sz y)
  least_fit-high y [] b1 i f = absurd (not-suc-le-zero i)
  least_fit-high y (x ∷ l) b1 i f = go (λ i. least_fit-high y l b1 i f) (ltb (sz x) b) refl (eqb (least_fit sz b l) 0) refl
    where
      go : (1 ≤ cnt y l → (1 ≤ least_fit sz b l) × (least_fit sz b l ≤ sz y)) → (t : Bool) → ltb (sz x) b ≡ t → (q : Bool) → eqb (least_fit sz b l) 0 ≡ q
          → (1 ≤ elim t [ true ↦ least_fit sz b l | false ↦ elim q [ true ↦ sz x | false ↦ min (sz x) (least_fit sz b l) ] ])
          × (elim t [ true ↦ least_fit sz b l | false ↦ elim q [ true ↦ sz x | false ↦ min (sz x) (least_fit sz b l) ] ] ≤ sz y)
      go r true e q u = ⊎_elim
          (λ (w : y ≡ x). absurd (omega (arith, ap sz w, ltb-true (sz x) b e)))
          (λ (w : y ≡ x → ⊥). r (omega (arith, ind-other y x w)))
          (eq? y x)
      go r false e true u = ⊎_elim
          (λ (w : y ≡ x). (omega (arith, ap sz w), omega (arith, ap sz w)))
          (λ (w : y ≡ x → ⊥). let k = r (omega (arith, ind-other y x w)) in absurd (omega (arith, eqb-true (least_fit sz b l) 0 u, k.0)))
          (eq? y x)
      go r false e false u =
          let n : least_fit sz b l ≡ 0 → ⊥ = eqb-false (least_fit sz b l) 0 u in
          let g : b ≤ sz x = ltb-false (sz x) b e in
          let p : 1 ≤ least_fit sz b l = ⊎_elim (λ z. absurd (n z)) (λ z. z) (zero_or (least_fit sz b l)) in
          ⊎_elim
          (λ (w : y ≡ x). (omega arith, omega (arith, ap sz w)))
          (λ (w : y ≡ x → ⊥). let k = r (omega (arith, ind-other y x w)) in (omega arith, omega (arith, k.1)))
          (eq? y x)

  least_fit-none : (l : List ℕ) → ((y : ℕ) → 1 ≤ cnt y l → sz y < b) → least_fit sz b l ≡ 0
  least_fit-none [] k = refl
  least_fit-none (x ∷ l) k = least_fit-skip x l (k x (cnt-here x l)) ∙ least_fit-none l (λ y i. k y (cnt-there y x l i))

  pub fit_none : (l : List ℕ) → ((y : ℕ) → 1 ≤ cnt y l → sz y < b) → fit sz b l ≡ None
  fit_none l k = ap (λ (n : ℕ). elim (eqb n 0) [ true ↦ None | false ↦ second (equals sz n l) ]) (least_fit-none l k)

-- ---- the chunks of size z, in parts
module _ (sz : ℕ → ℕ) (z : ℕ) where
  equals-same : (x : ℕ) (l : List ℕ) → sz x ≡ z → equals sz z (x ∷ l) ≡ x ∷ equals sz z l
  equals-same x l e = rw (eq-eqb (sz x) z e, equals)

  equals-other : (x : ℕ) (l : List ℕ) → (sz x ≡ z → ⊥) → equals sz z (x ∷ l) ≡ equals sz z l
  equals-other x l e = rw (ne_eqb (sz x) z e, equals)

  equals-after : (a l : List ℕ) → ((y : ℕ) → 1 ≤ cnt y a → sz y ≡ z → ⊥) → equals sz z (a ++ l) ≡ equals sz z l
  equals-after [] l k = refl
  equals-after (x ∷ a) l k = equals-other x (a ++ l) (k x (cnt-here x a)) ∙ equals-after a l (λ y i. k y (cnt-there y x a i))

  equals-none : (l : List ℕ) → ((y : ℕ) → 1 ≤ cnt y l → sz y ≡ z → ⊥) → equals sz z l ≡ []
  equals-none [] k = refl
  equals-none (x ∷ l) k = equals-other x l (k x (cnt-here x l)) ∙ equals-none l (λ y i. k y (cnt-there y x l i))

  equals-first : (a l : List ℕ) → ((y : ℕ) → 1 ≤ cnt y a → sz y ≡ z) → equals sz z (a ++ l) ≡ a ++ equals sz z l
  equals-first [] l k = refl
  equals-first (x ∷ a) l k = equals-same x (a ++ l) (k x (cnt-here x a)) ∙ ap (λ (m : List ℕ). x ∷ m) (equals-first a l (λ y i. k y (cnt-there y x a i)))

second-has : (l : List ℕ) (d : ℕ) → second l ≡ Some d → 1 ≤ cnt d l
second-has [] d e = absurd (let z : ◌≡◌ {A = ℕ} 0 1 = cc in omega arith)
second-has (x ∷ []) d e = let q : x ≡ d = cc in rw q (cnt-here d [])
second-has (x ∷ y ∷ l) d e = let q : y ≡ d = cc in rw q (cnt-there d x (d ∷ l) (cnt-here d l))

-- the last of a falling list is the least
falls-last : (sz : ℕ → ℕ) (x : ℕ) (l : List ℕ) → falls sz (x ∷ l) → (y : ℕ) → 1 ≤ cnt y (x ∷ l) → sz (lst x l) ≤ sz y
falls-last sz x [] k y i = ⊎_elim (λ (e : y ≡ x). omega (arith, ap sz e)) (λ (e : y ≡ x → ⊥). absurd (omega (arith, ind-other y x e))) (eq? y x)
falls-last sz x (u ∷ l) k y i = ⊎_elim
    (λ (e : y ≡ x). omega (arith, ap sz e, k.0 u (cnt-here u l), falls-last sz u l k.1 u (cnt-here u l)))
    (λ (e : y ≡ x → ⊥). falls-last sz u l k.1 y (omega (arith, ind-other y x e)))
    (eq? y x)

-- above a chunk of size z, and not ending with one: all are larger
falls-above : (sz : ℕ → ℕ) (z : ℕ) (a : List ℕ) → falls sz a → ((x : ℕ) → 1 ≤ cnt x a → z ≤ sz x) → (a ≡ []) ⊎ (sz (lst none64 a) ≡ z → ⊥) → (y : ℕ) → 1 ≤ cnt y a → z < sz y
falls-above sz z [] k low stop y i = absurd (not-suc-le-zero i)
falls-above sz z (x ∷ a) k low stop y i = ⊎_elim
    (λ (e : x ∷ a ≡ []). let o : ◌≡◌ {A = ℕ} 0 1 = cc in absurd (omega arith))
    (λ (ne : sz (lst x a) ≡ z → ⊥).
    let last : z ≤ sz (lst x a) = low (lst x a) (lst-in x a) in
    let more : z < sz (lst x a) = ⊎_elim (λ (q : z ≡ sz (lst x a)). absurd (ne (sym q))) (λ (q : z ≡ sz (lst x a) → ⊥). omega (arith, q)) (eq? z (sz (lst x a))) in
    omega (arith, falls-last sz x a k y i))
    stop

fit_at : (sz : ℕ → ℕ) (b z d : ℕ) (l e : List ℕ) → least_fit sz b l ≡ z → (z ≡ 0 → ⊥) → equals sz z l ≡ e → second e ≡ Some d → fit sz b l ≡ Some d
fit_at sz b z d l e q ne k is =
    ap (λ (n : ℕ). elim (eqb n 0) [ true ↦ None | false ↦ second (equals sz n l) ]) q ∙ rw (ne_eqb z 0 ne) (ap second k ∙ is)

-- ---- a falling list in three parts: larger than z, of size z, smaller than b
pub fit-second : (sz : ℕ → ℕ) (b z d : ℕ) (l a e y : List ℕ) → falls sz l → l ≡ a ++ (e ++ y) → ((x : ℕ) → 1 ≤ cnt x e → sz x ≡ z) → ((x : ℕ) → 1 ≤ cnt x y → sz x < b)
    → 1 ≤ b → b ≤ z → (a ≡ []) ⊎ (sz (lst none64 a) ≡ z → ⊥) → second e ≡ Some d → fit sz b l ≡ Some d
fit-second sz b z d l a e y k q same small b1 bz stop is =
    let de : 1 ≤ cnt d e = second-has e d is in
    let F = falls-split sz a (e ++ y) (subst (falls sz) q k) in
    let low : (x : ℕ) → 1 ≤ cnt x a → z ≤ sz x = λ x i. omega (arith, F.2 x d i (omega (arith, cnt-append d e y)), same d de) in
    let above : (x : ℕ) → 1 ≤ cnt x a → z < sz x = falls-above sz z a F.0 low stop in
    let sum : (x : ℕ) → cnt x l ≡ cnt x a + (cnt x e + cnt x y) = λ x. ap (cnt x) q ∙ cnt-append x a (e ++ y) ∙ ap (λ (n : ℕ). cnt x a + n) (cnt-append x e y) in
    let hi = least_fit-high sz b d l b1 (omega (arith, sum d)) (omega (arith, same d de)) in
    let lo : (x : ℕ) → 1 ≤ cnt x l → b ≤ sz x → z ≤ sz x = λ x i f. ⊎_elim
    (λ (n : cnt x a ≡ 0). ⊎_elim (λ (m : cnt x e ≡ 0). absurd (omega (arith, small x (omega (arith, sum x))))) (λ (m : 1 ≤ cnt x e). omega (arith, same x m)) (zero_or (cnt x e)))
    (λ (n : 1 ≤ cnt x a). omega (arith, above x n))
    (zero_or (cnt x a)) in
    let least : least_fit sz b l ≡ z = ⊎_elim (λ n. absurd (omega (arith, hi.0))) (λ n. omega (arith, hi.1, same d de)) (least_fit-low sz b z l lo) in
    let eqs : equals sz z l ≡ e =
    ap (equals sz z) q ∙ equals-after sz z a (e ++ y) (λ x i n. omega (arith, above x i)) ∙ equals-first sz z e y same
    ∙ ap (λ (m : List ℕ). e ++ m) (equals-none sz z y (λ x i n. omega (arith, small x i))) ∙ append-nil e in
    fit_at sz b z d l e least (λ n. omega arith) eqs is
