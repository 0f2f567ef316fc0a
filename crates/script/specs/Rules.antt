-- Which line may stand where: the first line opens, up to 49,152 bytes, and no other does; a line of another form stands nowhere; a refused
-- open ends the run. Definitions only.
use Rattle.std.specs.Prelude.{Bool, true, false, not, ℕ, eqb, leb, Ok, Err}
use Rattle.machine.specs.Lists.{both}
use Rattle.script.specs.Grammar.{letter_a, letter_g, letter_r, letter_z, letter_s}
use Rattle.script.specs.declared.Line.{Line}
use Rattle.script.specs.declared.Line.TheVariants.{Open, Grant, Release, Resize, Settle, Other}
use Rattle.machine.specs.Calls.{Answered}

abbrev pub most_opened : ℕ
most_opened = 49152

abbrev pub first? : ℕ → Bool
first? k = eqb k 1

abbrev pub later? : ℕ → Bool
later? k = not (first? k)

-- whether the line with number k, from 1, is run
abbrev pub in_place? : ℕ → Line → Bool
in_place? k (Open n) = both (first? k) (leb n most_opened)
in_place? k (Grant n) = later? k
in_place? k (Release m) = later? k
in_place? k (Resize m n) = later? k
in_place? k Settle = later? k
in_place? k Other = false

abbrev pub letter_of : Line → ℕ
letter_of (Open n) = letter_a
letter_of (Grant n) = letter_g
letter_of (Release m) = letter_r
letter_of (Resize m n) = letter_z
letter_of Settle = letter_s
letter_of Other = 63

-- whether the run ends with this line and its answer
abbrev pub refused? : Answered → Bool
refused? (Ok a) = false
refused? (Err x) = true

abbrev pub ends_by? : Line → Answered → Bool
ends_by? (Open n) x = refused? x
ends_by? (Grant n) x = false
ends_by? (Release m) x = false
ends_by? (Resize m n) x = false
ends_by? Settle x = false
ends_by? Other x = false
