-- Text as lists of bytes: decimal numbers, and the line `? k`. Definitions only.
use Rattle.std.specs.Prelude.{List, [], ◌∷◌, ◌++◌, true, false, ℕ, zero, suc, ◌+◌, ◌/◌, ◌%◌, ltb}

abbrev pub newline : ℕ
newline = 10

abbrev pub blank : ℕ
blank = 32

abbrev pub question : ℕ
question = 63

-- the last decimal digits of n, at most k of them, with no zero in front of a number above 0
unfoldable pub decimal : ℕ → ℕ → List ℕ
decimal zero n = []
decimal (suc k) n = elim (ltb n 10) [ true ↦ (48 + n) ∷ [] | false ↦ decimal k (n / 10) ++ ((48 + n % 10) ∷ []) ]

-- a blank and a number: 20 digits are all of any 64-bit number
unfoldable pub field : ℕ → List ℕ
field n = blank ∷ decimal 20 n

unfoldable pub question_text : ℕ → List ℕ
question_text k = question ∷ (field k ++ (newline ∷ []))
