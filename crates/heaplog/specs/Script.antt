-- What heaplog prints for a whole script, line by line; and the same byte by byte, and as the code goes, piece by piece. Definitions only; ScriptLaws has their equality.
use Rattle.std.specs.Prelude.{List, [], ◌∷◌, ◌++◌, true, false, ℕ, eqb}
use Rattle.text.specs.Text.{newline}
use Rattle.script_format.specs.Format.{header}
use Rattle.script_run.specs.Run.{Run, run, Step, step, before_all, line_step, byte_step, piece_step, end_step}

-- the lines of a text, after the bytes p of a line: each ends in a newline, which the last may lack if it has a byte
abbrev pub last_line : List ℕ → List (List ℕ)
last_line [] = []
last_line (b ∷ p) = (b ∷ p) ∷ []

unfoldable pub lines_from : List ℕ → List ℕ → List (List ℕ)
lines_from p [] = last_line p
lines_from p (b ∷ t) = elim (eqb b newline) [ true ↦ p ∷ lines_from [] t | false ↦ lines_from (p ++ (b ∷ [])) t ]

-- what a step prints, and then what is printed from its state on
abbrev pub and_then : Step → (Run → List ℕ) → List ℕ
and_then (step s o) f = o ++ f s

-- the lines one by one, until the run ends
unfoldable pub printed : List (List ℕ) → Run → List ℕ
printed [] s = []
printed (l ∷ ls) (run a r t k n true) = []
printed (l ∷ ls) (run a r t k n false) = and_then (line_step (run a r l k n false)) (printed ls)

-- heaplog
unfoldable pub heaplog : List ℕ → List ℕ
heaplog text = header ++ printed (lines_from [] text) before_all

-- ---- the bytes one by one, and the end of the script
unfoldable pub printed_bytes : List ℕ → Run → List ℕ
printed_bytes [] s = and_then (end_step s) (λ _. [])
printed_bytes (b ∷ t) s = and_then (byte_step b s) (printed_bytes t)

-- ---- the same for a script that is read in pieces, whatever their lengths
unfoldable pub whole : List (List ℕ) → List ℕ
whole [] = []
whole (p ∷ ps) = p ++ whole ps

unfoldable pub printed_pieces : List (List ℕ) → Run → List ℕ
printed_pieces [] s = and_then (end_step s) (λ _. [])
printed_pieces (p ∷ ps) s = and_then (piece_step p s) (printed_pieces ps)
