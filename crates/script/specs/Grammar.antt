-- What a line of a script means: letter, one blank, 1 to 7 digits; for Z the same twice; S alone; anything else is of another form. Definitions only.
-- A line is the list of its bytes, without the newline.
use Rattle.std.specs.Prelude.{List, [], ◌∷◌, Bool, true, false, ℕ, ◌+◌, ◌*◌, ◌-◌, eqb, leb, length, take, Option, Some, None}
use Rattle.text.specs.Text.{blank}
use Rattle.machine.specs.Lists.{both}
use Rattle.script.specs.declared.{Line.Line, LineText.LineText}
use Rattle.script.specs.declared.Line.TheVariants.{Open, Grant, Release, Resize, Settle, Other}

-- the bytes that have a meaning: capitals, a blank, digits
abbrev pub letter_a : ℕ
letter_a = 65

abbrev pub letter_g : ℕ
letter_g = 71

abbrev pub letter_r : ℕ
letter_r = 82

abbrev pub letter_z : ℕ
letter_z = 90

abbrev pub letter_s : ℕ
letter_s = 83

abbrev pub digit? : ℕ → Bool
digit? b = both (leb 48 b) (leb b 57)

-- the number that a list of digits spells, after digits that spell n
unfoldable pub digits_from : ℕ → List ℕ → Option ℕ
digits_from n [] = Some n
digits_from n (b ∷ l) = elim (digit? b) [ true ↦ digits_from (10 * n + (b - 48)) l | false ↦ None ]

-- a number has 1 to 7 digits; leading zeros are allowed
unfoldable pub number_of : List ℕ → Option ℕ
number_of l = elim (both (leb 1 (length l)) (leb (length l) 7)) [ true ↦ digits_from 0 l | false ↦ None ]

-- A, G and R have one number
abbrev pub numbered : ℕ → Option ℕ → Line
numbered x (Some n) =
    elim (eqb x letter_a) [
      | true ↦ Open n
      | false ↦ elim (eqb x letter_g) [
        | true ↦ Grant n
        | false ↦ elim (eqb x letter_r) [ true ↦ Release n | false ↦ Other ]
      ]
    ]
numbered x None = Other

-- Z has two, with one blank between: the bytes before the first blank, and those behind it; without a blank all, and none
unfoldable pub before_blank : List ℕ → List ℕ
before_blank [] = []
before_blank (b ∷ l) = elim (eqb b blank) [ true ↦ [] | false ↦ b ∷ before_blank l ]

unfoldable pub behind_blank : List ℕ → List ℕ
behind_blank [] = []
behind_blank (b ∷ l) = elim (eqb b blank) [ true ↦ l | false ↦ behind_blank l ]

abbrev pub resized : Option ℕ → Option ℕ → Line
resized (Some m) (Some n) = Resize m n
resized (Some m) None = Other
resized None n = Other

abbrev pub resize_of : List ℕ → Line
resize_of l = resized (number_of (before_blank l)) (number_of (behind_blank l))

-- what stands behind the letter and its blank
abbrev pub spaced : ℕ → List ℕ → Line
spaced x l = elim (eqb x letter_z) [ true ↦ resize_of l | false ↦ numbered x (number_of l) ]

abbrev pub alone : ℕ → Line
alone x = elim (eqb x letter_s) [ true ↦ Settle | false ↦ Other ]

unfoldable pub line_of : List ℕ → Line
line_of [] = Other
line_of (x ∷ []) = alone x
line_of (x ∷ y ∷ l) = elim (eqb y blank) [ true ↦ spaced x l | false ↦ Other ]

-- ---- a line that is being read: its first bytes, one more than the longest good line has
abbrev pub kept_bytes : ℕ
kept_bytes = 18

abbrev pub kept : LineText → List ℕ
kept s = take s.len s.text
