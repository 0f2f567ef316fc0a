-- Which sizes a bin owns: those from its least size to below the next bin's, the last bin's without end. The bin of a size is the least that document 01's
-- lines give, so the bins from j on are those of the sizes that come to j on every line. Assumes nothing.
use Rattle.std.specs.Prelude.{◌≡◌, refl, Bool, true, false, List, [], ◌∷◌, ℕ, ◌+◌, ◌-◌, ◌*◌, ◌≤◌, ◌<◌, max, leb}
use Rattle.std.proofs.Common.{arith, leb-true, leb-false}
use Rattle.sizes.specs.declared.bins.Row.{Row}
use Rattle.sizes.specs.Sizes.{rows, bin_of}
use Rattle.sizes.specs.BinLaws.{large_bin-cases, bin_of-cases, bin_of-most}

-- the least size that comes to j on each of the lines
abbrev pub least_over : List Row → ℕ → ℕ
least_over [] j = 0
least_over (r ∷ rs) j = max (r.divisor * (j - r.base)) (least_over rs j)

-- the least size of bin j: it has to come to j on every line, that of the small bins among them
unfoldable pub least_of : ℕ → ℕ
least_of j = max (16 * j) (least_over rows j)

-- s comes to j on every line
abbrev pub Comes : ℕ → ℕ → Type 0
Comes j s = (16 * j ≤ s) × (64 * (j - 48) ≤ s) × (512 * (j - 91) ≤ s) × (4096 * (j - 110) ≤ s) × (32768 * (j - 119) ≤ s) × (262144 * (j - 124) ≤ s)

max-below : (x y s : ℕ) → max x y ≤ s → (x ≤ s) × (y ≤ s)
max-below x y s h = (omega arith, omega arith)

below-max : (x y s : ℕ) → (x ≤ s) × (y ≤ s) → max x y ≤ s
below-max x y s h = omega arith

comes-of-least : (j s : ℕ) → least_of j ≤ s → Comes j s
unfolding least_of
comes-of-least j s h₁ =
    let h₂ = max-below _ _ s h₁ in
    let h₃ = max-below _ _ s h₂.1 in
    let h₄ = max-below _ _ s h₃.1 in
    let h₅ = max-below _ _ s h₄.1 in
    let h₆ = max-below _ _ s h₅.1 in
    let h₇ = max-below _ _ s h₆.1 in
    (h₂.0, h₃.0, h₄.0, h₅.0, h₆.0, h₇.0)

least-of-comes : (j s : ℕ) → Comes j s → least_of j ≤ s
unfolding least_of
least-of-comes j s h =
    below-max _ _ s (h.0, below-max _ _ s (h.1, below-max _ _ s (h.2, below-max _ _ s (h.3, below-max _ _ s (h.4, below-max _ _ s (h.5, omega arith))))))

-- the least size itself
pub least_of-comes : (j : ℕ) → Comes j (least_of j)
least_of-comes j = comes-of-least j (least_of j) (omega arith)

pub least_of-is : (j s : ℕ) → Comes j s → s ≤ least_of j → s ≡ least_of j
least_of-is j s h l = omega (arith, least-of-comes j s h)

-- the bins from j on
pub bin_of-at-least : (j s : ℕ) → 2 ≤ j → j ≤ 126 → least_of j ≤ s → j ≤ bin_of s
bin_of-at-least j s l m h =
    let k = comes-of-least j s h in
    bin_of-cases (λ b. j ≤ b) s (λ p. omega arith) (λ p q. omega arith)
    (λ p. large_bin-cases (λ b. j ≤ b) s (λ q. omega arith) (λ q r. omega arith) (λ q r. omega arith) (λ q r. omega arith) (λ q r. omega arith) (λ q. omega arith))

pub least_of-at-most : (j s : ℕ) → 1 ≤ j → j ≤ bin_of s → least_of j ≤ s
least_of-at-most j s l h =
    least-of-comes j s (bin_of-cases (λ b. j ≤ b → Comes j s) s (λ p k. absurd (omega arith)) (λ p q k. omega arith)
    (λ p. large_bin-cases (λ b. j ≤ b → Comes j s) s (λ q k. omega arith) (λ q r k. omega arith) (λ q r k. omega arith) (λ q r k. omega arith) (λ q r k. omega arith) (λ q k. omega arith)) h)

-- bin j alone
pub bin_of-between : (j s : ℕ) → 2 ≤ j → j ≤ 126 → least_of j ≤ s → (j < 126 → s < least_of (j + 1)) → bin_of s ≡ j
bin_of-between j s l m h below = by (leb (bin_of s) j) refl
  where
    by : (t : Bool) → leb (bin_of s) j ≡ t → bin_of s ≡ j
    by true e = omega (arith, leb-true (bin_of s) j e, bin_of-at-least j s l m h)
    by false e =
        let g = leb-false (bin_of s) j e in
        absurd (omega (arith, below (omega (arith, g, bin_of-most s)), least_of-at-most (j + 1) s (omega arith) (omega (arith, g))))

pub between-of-bin_of : (j s : ℕ) → 2 ≤ j → bin_of s ≡ j → (least_of j ≤ s) × (j < 126 → s < least_of (j + 1))
between-of-bin_of j s l e = (least_of-at-most j s (omega arith) (omega arith), λ m. by m (leb (least_of (j + 1)) s) refl)
  where
    by : j < 126 → (t : Bool) → leb (least_of (j + 1)) s ≡ t → s < least_of (j + 1)
    by m true g = absurd (omega (arith, bin_of-at-least (j + 1) s (omega arith) (omega arith) (leb-true (least_of (j + 1)) s g)))
    by m false g = leb-false (least_of (j + 1)) s g
