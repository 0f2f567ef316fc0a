-- What is stored by an edition is read by the same rule, and has 64 bits. By the digits of an exclusive-or. Assumes nothing.
use Rattle.std.specs.Prelude.{◌≡◌, refl, Bool, true, false, ℕ, zero, suc, ◌+◌, ◌*◌, ◌/◌, ◌%◌, ◌^◌, ◌<◌, eqb}
use Rattle.std.proofs.Common.{ap, ◌∙◌, arith, eq-eqb, ne_eqb}
use Rattle.std.proofs.Math.Arith.{bin_ind}
use Rattle.std.specs.Int.Bits.{differ, bit_xor, xor_step}
use Rattle.std.proofs.lemmas.Nat.{xor_lt}
use Rattle.sizes.specs.Limits.{mixed}
use Rattle.machine.specs.Mixing.{stored}

-- two digits
digits : (x y : ℕ) → x < 2 → y < 2 → (differ x y < 2) × (differ x (differ x y) ≡ y)
digits zero y p q = (q, refl)
digits (suc zero) zero p q = (omega arith, refl)
digits (suc zero) (suc zero) p q = (omega arith, refl)
digits (suc zero) (suc (suc y)) p q = absurd (omega (arith, q))
digits (suc (suc x)) y p q = absurd (omega (arith, p))

xor-back : (k x : ℕ) → bit_xor k (bit_xor k x) ≡ x
xor-back = bin_ind (λ (n : ℕ). (x : ℕ) → bit_xor n (bit_xor n x) ≡ x) (λ x. refl) step
  where
    step : (n : ℕ) → ((x : ℕ) → bit_xor (n / 2) (bit_xor (n / 2) x) ≡ x) → (x : ℕ) → bit_xor n (bit_xor n x) ≡ x
    step n ih x =
        let y : ℕ = bit_xor n x in
        let z : ℕ = bit_xor (n / 2) (x / 2) in
        let u : ℕ = differ (n % 2) (x % 2) in
        let D = digits (n % 2) (x % 2) (omega arith) (omega arith) in
        let e : y ≡ z * 2 + u = xor_step n x in
        let half : y / 2 ≡ z = omega (arith, e, D.0) in
        let last : y % 2 ≡ u = omega (arith, e, D.0) in
        xor_step n y
        ∙ ap (λ (i : ℕ). bit_xor (n / 2) i * 2 + differ (n % 2) (y % 2)) half
        ∙ ap (λ (i : ℕ). bit_xor (n / 2) z * 2 + differ (n % 2) i) last
        ∙ ap (λ (i : ℕ). i * 2 + differ (n % 2) u) (ih (x / 2))
        ∙ ap (λ (i : ℕ). x / 2 * 2 + i) D.1
        ∙ (omega arith)

abbrev pick : Bool → ℕ → ℕ → ℕ
pick b k x = elim b [ true ↦ bit_xor k x | false ↦ x ]

pick-twice : (b : Bool) (k x : ℕ) → pick b k (pick b k x) ≡ x
pick-twice true k x = xor-back k x
pick-twice false k x = refl

pick_small : (b : Bool) (k x : ℕ) → k < 2 ^ 64 → x < 2 ^ 64 → pick b k x < 2 ^ 64
pick_small true k x h l = xor_lt 64 k x h l
pick_small false k x h l = l

pub stored-twice : (d c x : ℕ) → stored d c (stored d c x) ≡ x
stored-twice d c x = pick-twice (eqb d mixed) ((c + 16) / 4096) x

pub stored-small : (d c x : ℕ) → c < 262144 → x < 2 ^ 64 → stored d c x < 2 ^ 64
stored-small d c x h l = pick_small (eqb d mixed) ((c + 16) / 4096) x (omega arith) l

-- by the test
pub stored-mixed : (d c x : ℕ) → d ≡ mixed → stored d c x ≡ bit_xor ((c + 16) / 4096) x
stored-mixed d c x e = rw (eq-eqb d mixed e, stored)

pub stored-plain : (d c x : ℕ) → (d ≡ mixed → ⊥) → stored d c x ≡ x
stored-plain d c x e = rw (ne_eqb d mixed e, stored)
