-- The laws of the bin of a size. The rule of the rows is document 01's chain of lines (`large_bin-chain`). Two facts carry the others: what holds on each
-- of its lines holds of the bin (`bin_of-cases`), and no line gives less than the bin (`bin_of-least`), so that the bins rise with the sizes. Assumes nothing.
use Rattle.std.specs.Prelude.{◌≡◌, refl, Bool, true, false, ℕ, ◌+◌, ◌*◌, ◌/◌, ◌≤◌, ◌<◌, ltb, leb}
use Rattle.std.proofs.Common.{sym, ◌∙◌, arith, ltb-true, ltb-false, leb-true, leb-false}
use Rattle.std.proofs.Math.Path.{subst⁻¹}
use Rattle.sizes.specs.Sizes.{large_bin, bin_of}

-- document 01's lines, one after the other
abbrev pub chain : ℕ → ℕ
chain s =
    elim (leb (s / 64) 48) [
      | true ↦ 48 + s / 64
      | false ↦
          elim (leb (s / 512) 20) [
            | true ↦ 91 + s / 512
            | false ↦
                elim (leb (s / 4096) 10) [
                  | true ↦ 110 + s / 4096
                  | false ↦
                      elim (leb (s / 32768) 4) [
                        | true ↦ 119 + s / 32768
                        | false ↦
                            elim (leb (s / 262144) 2) [ true ↦ 124 + s / 262144 | false ↦ 126 ]
                      ]
                ]
          ]
    ]

pub large_bin-chain : (s : ℕ) → large_bin s ≡ chain s
unfolding large_bin
large_bin-chain s = refl

if-cases : (P : ℕ → Type 0) (t : Bool) {x y : ℕ} → (t ≡ true → P x) → (t ≡ false → P y) → P (elim t [ true ↦ x | false ↦ y ])
if-cases P true f g = f refl
if-cases P false f g = g refl

pub large_bin-cases : (P : ℕ → Type 0) (s : ℕ)
    → (s < 3136 → P (48 + s / 64))
    → (3136 ≤ s → s < 10752 → P (91 + s / 512))
    → (10752 ≤ s → s < 45056 → P (110 + s / 4096))
    → (45056 ≤ s → s < 163840 → P (119 + s / 32768))
    → (163840 ≤ s → s < 786432 → P (124 + s / 262144))
    → (786432 ≤ s → P 126)
    → P (large_bin s)
large_bin-cases P s p₁ p₂ p₃ p₄ p₅ p₆ =
    subst⁻¹ P (large_bin-chain s)
    (if-cases P (leb (s / 64) 48) (λ e. p₁ (omega (arith, leb-true (s / 64) 48 e))) (λ e.
    let h : 3136 ≤ s = omega (arith, leb-false (s / 64) 48 e) in
    if-cases P (leb (s / 512) 20) (λ e. p₂ h (omega (arith, leb-true (s / 512) 20 e))) (λ e.
    let h : 10752 ≤ s = omega (arith, leb-false (s / 512) 20 e) in
    if-cases P (leb (s / 4096) 10) (λ e. p₃ h (omega (arith, leb-true (s / 4096) 10 e))) (λ e.
    let h : 45056 ≤ s = omega (arith, leb-false (s / 4096) 10 e) in
    if-cases P (leb (s / 32768) 4) (λ e. p₄ h (omega (arith, leb-true (s / 32768) 4 e))) (λ e.
    let h : 163840 ≤ s = omega (arith, leb-false (s / 32768) 4 e) in
    if-cases P (leb (s / 262144) 2) (λ e. p₅ h (omega (arith, leb-true (s / 262144) 2 e))) (λ e. p₆ (omega (arith, leb-false (s / 262144) 2 e))))))))

pub bin_of-cases : (P : ℕ → Type 0) (s : ℕ) → (s < 32 → P 0) → (32 ≤ s → s < 1024 → P (s / 16)) → (1024 ≤ s → P (large_bin s)) → P (bin_of s)
unfolding bin_of
bin_of-cases P s none small big =
    if-cases P (ltb s 32) (λ e. none (ltb-true s 32 e)) (λ e.
    if-cases P (ltb s 1024) (λ e'. small (ltb-false s 32 e) (ltb-true s 1024 e')) (λ e'. big (ltb-false s 1024 e')))

pub bin_of-none : (s : ℕ) → s < 32 → bin_of s ≡ 0
bin_of-none s h = bin_of-cases (λ j. j ≡ 0) s (λ _. refl) (λ a b. omega arith) (λ a. absurd (omega arith))

pub bin_of-small : (s : ℕ) → 32 ≤ s → s < 1024 → bin_of s ≡ s / 16
bin_of-small s l h = bin_of-cases (λ j. j ≡ s / 16) s (λ a. absurd (omega arith)) (λ a b. refl) (λ a. absurd (omega arith))

pub bin_of-large_bin : (s : ℕ) → 1024 ≤ s → bin_of s ≡ large_bin s
bin_of-large_bin s h = bin_of-cases (λ j. j ≡ large_bin s) s (λ a. absurd (omega arith)) (λ a b. absurd (omega arith)) (λ a. refl)

-- j is at most what each line gives
abbrev Least : ℕ → ℕ → Type 0
Least s j = (j ≤ s / 16) × (j ≤ 48 + s / 64) × (j ≤ 91 + s / 512) × (j ≤ 110 + s / 4096) × (j ≤ 119 + s / 32768) × (j ≤ 124 + s / 262144) × (j ≤ 126)

bin_of-least : (s : ℕ) → Least s (bin_of s)
bin_of-least s =
    bin_of-cases (Least s) s (λ a. omega arith) (λ a b. omega arith)
    (λ a. large_bin-cases (Least s) s (λ b. omega arith) (λ b c. omega arith) (λ b c. omega arith) (λ b c. omega arith) (λ b c. omega arith) (λ b. omega arith))

pub bin-monotone : (s t : ℕ) → s ≤ t → bin_of s ≤ bin_of t
bin-monotone s t h =
    let l = bin_of-least s in
    bin_of-cases (λ j. bin_of s ≤ j) t (λ a. omega (arith, bin_of-none s (omega arith))) (λ a b. omega arith)
    (λ a. large_bin-cases (λ j. bin_of s ≤ j) t (λ b. omega arith) (λ b c. omega arith) (λ b c. omega arith) (λ b c. omega arith) (λ b c. omega arith) (λ b. omega arith))

pub bin_of-most : (s : ℕ) → bin_of s ≤ 126
bin_of-most s = (bin_of-least s).6

-- the bins from 64 on are those of the large sizes
pub bin_of-large : (s : ℕ) → 1024 ≤ s → 64 ≤ bin_of s
unfolding bin_of large_bin
bin_of-large s h = bin-monotone 1024 s h

pub bin_of-narrow : (s : ℕ) → s < 1024 → bin_of s < 64
bin_of-narrow s h = bin_of-cases (λ j. j < 64) s (λ a. omega arith) (λ a b. omega arith) (λ a. absurd (omega arith))

-- a chunk of such a bin is large
pub bin_of-wide : (s : ℕ) → 64 ≤ bin_of s → 1024 ≤ s
bin_of-wide s = bin_of-cases (λ j. 64 ≤ j → 1024 ≤ s) s (λ a z. absurd (omega (arith, z))) (λ a b z. absurd (omega (arith, z))) (λ a z. a)

pub bin_of-bounds : (s : ℕ) → 32 ≤ s → (2 ≤ bin_of s) × (bin_of s ≤ 126)
unfolding bin_of large_bin
bin_of-bounds s h = (bin-monotone 32 s h, bin_of-most s)

-- a size and the multiple of 16 below it have one bin: each limit and each divisor is a multiple of 16
large_bin-round : (s : ℕ) → large_bin (16 * (s / 16)) ≡ large_bin s
large_bin-round s =
    let t = 16 * (s / 16) in
    let e₁ : t / 64 ≡ s / 64 = omega arith in
    let e₂ : t / 512 ≡ s / 512 = omega arith in
    let e₃ : t / 4096 ≡ s / 4096 = omega arith in
    let e₄ : t / 32768 ≡ s / 32768 = omega arith in
    let e₅ : t / 262144 ≡ s / 262144 = omega arith in
    let e : chain t ≡ chain s = cc in
    large_bin-chain t ∙ e ∙ sym (large_bin-chain s)

pub bin_of-round : (s : ℕ) → bin_of (16 * (s / 16)) ≡ bin_of s
bin_of-round s =
    let t = 16 * (s / 16) in
    let e : t / 16 ≡ s / 16 = omega arith in
    bin_of-cases (λ j. bin_of t ≡ j) s
    (λ a. bin_of-none t (omega arith))
    (λ a b. bin_of-small t (omega arith) (omega arith) ∙ e)
    (λ a. bin_of-large_bin t (omega arith) ∙ large_bin-round s)
