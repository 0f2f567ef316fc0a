-- Laws of counting an offset in lists: distinctness, membership and frames are all linear facts on counts. Assumes nothing.
use Rattle.std.specs.Prelude.{◌≡◌, refl, List, [], ◌∷◌, ◌++◌, Bool, true, false, ◌⊎◌, ℕ, zero, suc, ◌+◌, ◌≤◌, ◌<◌, eqb, length, get_or, set}
use Rattle.std.proofs.Common.{ap, inl, inr, le_of_suc-le-suc, not-suc-le-zero, arith, eq-eqb, ne_eqb, eqb-true}
use Rattle.std.proofs.lemmas.Bool.{eqb-false}
use Rattle.machine.specs.Lists.{ind, cnt, cnt_all, without}

-- ---- equality of two offsets, decided
pub eq? : (x y : ℕ) → (x ≡ y) ⊎ (x ≡ y → ⊥)
eq? x y = go (eqb x y) refl
  where
    go : (b : Bool) → eqb x y ≡ b → (x ≡ y) ⊎ (x ≡ y → ⊥)
    go true e = inl (eqb-true x y e)
    go false e = inr (eqb-false x y e)

pub ind-same : (x : ℕ) → ind (eqb x x) ≡ 1
ind-same x = ap ind (eq-eqb x x refl)

pub ind-other : (x y : ℕ) → (x ≡ y → ⊥) → ind (eqb x y) ≡ 0
ind-other x y h = ap ind (ne_eqb x y h)

pub ind-eq : (x y : ℕ) → 1 ≤ ind (eqb x y) → x ≡ y
ind-eq x y h = go (eqb x y) refl h
  where
    go : (b : Bool) → eqb x y ≡ b → 1 ≤ ind b → x ≡ y
    go true e k = eqb-true x y e
    go false e k = absurd (not-suc-le-zero k)

pub cnt-append : (x : ℕ) (a b : List ℕ) → cnt x (a ++ b) ≡ cnt x a + cnt x b
cnt-append x [] b = omega arith
cnt-append x (y ∷ a) b = omega (arith, cnt-append x a b)

pub cnt-here : (x : ℕ) (xs : List ℕ) → 1 ≤ cnt x (x ∷ xs)
cnt-here x xs = omega (arith, ind-same x)

pub cnt-there : (x y : ℕ) (ys : List ℕ) → 1 ≤ cnt x ys → 1 ≤ cnt x (y ∷ ys)
cnt-there x y ys h = omega arith

-- ---- one list of several
pub cnt_all-set : (x : ℕ) (ls : List (List ℕ)) (k : ℕ) (l : List ℕ) → k < length ls
    → cnt_all x (set ls k l) + cnt x (get_or ls k []) ≡ cnt_all x ls + cnt x l
cnt_all-set x [] k l h = absurd (not-suc-le-zero h)
cnt_all-set x (m ∷ ls) zero l h = omega arith
cnt_all-set x (m ∷ ls) (suc k) l h = omega (arith, cnt_all-set x ls k l (le_of_suc-le-suc h))

pub cnt-le-all : (x : ℕ) (ls : List (List ℕ)) (k : ℕ) → cnt x (get_or ls k []) ≤ cnt_all x ls
cnt-le-all x [] k = omega arith
cnt-le-all x (m ∷ ls) zero = omega arith
cnt-le-all x (m ∷ ls) (suc k) = omega (arith, cnt-le-all x ls k)

-- two different lists
pub cnt-two : (x : ℕ) (ls : List (List ℕ)) (j k : ℕ) → (j ≡ k → ⊥) → cnt x (get_or ls j []) + cnt x (get_or ls k []) ≤ cnt_all x ls
cnt-two x [] j k h = omega arith
cnt-two x (m ∷ ls) zero zero h = absurd (h refl)
cnt-two x (m ∷ ls) zero (suc k) h = omega (arith, cnt-le-all x ls k)
cnt-two x (m ∷ ls) (suc j) zero h = omega (arith, cnt-le-all x ls j)
cnt-two x (m ∷ ls) (suc j) (suc k) h = omega (arith, cnt-two x ls j k (λ e. h (ap suc e)))

-- ---- pigeons: a list counted below another is no longer
pub without-cnt : (x : ℕ) (s : List ℕ) → 1 ≤ cnt x s → (y : ℕ) → cnt y s ≡ ind (eqb y x) + cnt y (without x s)
without-cnt x [] h y = absurd (not-suc-le-zero h)
without-cnt x (z ∷ s) h y = go (λ k. without-cnt x s k y) (eqb x z) refl
  where
    go : (1 ≤ cnt x s → cnt y s ≡ ind (eqb y x) + cnt y (without x s)) → (b : Bool) → eqb x z ≡ b → cnt y (z ∷ s) ≡ ind (eqb y x) + cnt y (elim b [ true ↦ s | false ↦ z ∷ without x s ])
    go r true e = rw (eqb-true x z e) refl
    go r false e = omega (arith, r (omega (arith, ap ind e)))

pub without-length : (x : ℕ) (s : List ℕ) → 1 ≤ cnt x s → length s ≡ suc (length (without x s))
without-length x [] h = absurd (not-suc-le-zero h)
without-length x (z ∷ s) h = go (λ k. without-length x s k) (eqb x z) refl
  where
    go : (1 ≤ cnt x s → length s ≡ suc (length (without x s))) → (b : Bool) → eqb x z ≡ b → length (z ∷ s) ≡ suc (length {A = ℕ} (elim b [ true ↦ s | false ↦ z ∷ without x s ]))
    go r true e = refl
    go r false e = ap suc (r (omega (arith, ap ind e)))

pub pigeons : (l s : List ℕ) → ((x : ℕ) → cnt x l ≤ cnt x s) → length l ≤ length s
pigeons [] s h = omega arith
pigeons (x ∷ l) s h =
    let m : 1 ≤ cnt x s = omega (arith, h x, ind-same x) in
    omega (arith, without-length x s m, pigeons l (without x s) (λ y. omega (arith, h y, without-cnt x s m y)))
