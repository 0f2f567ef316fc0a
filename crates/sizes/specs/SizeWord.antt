-- The size word: the size with P in bit 0, and what it is split into. Made of a multiple of 16 it gives back what it was made of. Assumes nothing.
use Rattle.std.specs.Prelude.{◌≡◌, refl, Bool, true, false, ℕ, ◌+◌, ◌*◌, ◌/◌, ◌%◌, ◌<◌, eqb}
use Rattle.std.proofs.Common.{arith, eqb-true, eq-eqb, ne_eqb}
use Rattle.std.proofs.lemmas.Bool.{eqb-false}

abbrev pub bit : Bool → ℕ
bit true = 1
bit false = 0

-- the word of a size and P
abbrev pub word_of : ℕ → Bool → ℕ
word_of size p = size + bit p

abbrev pub size_of_word : ℕ → ℕ
size_of_word w = w / 16 * 16

-- P in bit 0, and bits 1 to 3, which must be 0
abbrev pub low_of_word : ℕ → ℕ
low_of_word w = w % 16

abbrev pub p_of_word : ℕ → Bool
p_of_word w = eqb (w % 2) 1

pub size_of_word-word_of : (size : ℕ) (p : Bool) → size % 16 ≡ 0 → size_of_word (word_of size p) ≡ size
size_of_word-word_of size true h = omega arith
size_of_word-word_of size false h = omega arith

pub low_of_word-word_of : (size : ℕ) (p : Bool) → size % 16 ≡ 0 → low_of_word (word_of size p) ≡ bit p
low_of_word-word_of size true h = omega arith
low_of_word-word_of size false h = omega arith

pub p_of_word-word_of : (size : ℕ) (p : Bool) → size % 16 ≡ 0 → p_of_word (word_of size p) ≡ p
p_of_word-word_of size true h = eq-eqb ((size + 1) % 2) 1 (omega arith)
p_of_word-word_of size false h = ne_eqb ((size + 0) % 2) 1 (λ e. omega arith)

-- a word whose bits 1 to 3 are 0 is made of its parts
pub word_of-parts : (w : ℕ) → low_of_word w < 2 → word_of (size_of_word w) (p_of_word w) ≡ w
word_of-parts w h = by (p_of_word w) refl
  where
    by : (p : Bool) → p_of_word w ≡ p → word_of (size_of_word w) p ≡ w
    by true e = omega (arith, eqb-true (w % 2) 1 e)
    by false e = omega (arith, eqb-false (w % 2) 1 e)
