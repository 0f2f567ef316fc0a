-- A run of heaplog: what each line, each byte and the end of the script do to arena, record and counts, and what they print. Definitions only.
use Rattle.std.specs.Prelude.{List, [], ◌∷◌, ◌++◌, Bool, true, false, ◌≡◌, ℕ, ◌+◌, ◌≤◌, eqb, ltb, length, take, drop, replicate, Ok}
use Rattle.le.specs.Number.{number}
use Rattle.sizes.specs.Limits.{plain}
use Rattle.machine.specs.Calls.{After, after, open_call, grant_call, release_call, resize_call, emptying_call, joined_after}
use Rattle.machine.specs.declared.Answer.TheVariants.{Done}
use Rattle.script.specs.Grammar.{line_of, kept, kept_bytes}
use Rattle.script.specs.Rules.{in_place?, letter_of, ends_by?}
use Rattle.script.specs.declared.Line.{Line}
use Rattle.script.specs.declared.Line.TheVariants.{Open, Grant, Release, Resize, Settle, Other}
use Rattle.text.specs.Text.{newline, question_text}
use Rattle.script_format.specs.Format.{answer_text}
use Rattle.script_run.specs.declared.Log.{Log}

-- the bytes that are lent, of which the opened arena is the first part; the record; the line that is being read; how many lines were run, how long the
-- opened arena is, and whether the run has ended
pub data Run : Type 0 where
  run : List ℕ → List ℕ → List ℕ → ℕ → ℕ → Bool → Run

-- what a step leaves, and what it prints
pub data Step : Type 0 where
  step : Run → List ℕ → Step

-- a step with what was printed before it in front; and a step, then another from the state that it leaves
abbrev pub behind : List ℕ → Step → Step
behind p (step s o) = step s (p ++ o)

abbrev pub and_on : Step → (Run → Step) → Step
and_on (step s o) f = behind o (f s)

-- before the first line nothing is open; lent bytes and record are zeros
abbrev pub before_all : Run
before_all = run (replicate 49152 0) (replicate 1584 0) [] 0 0 false

-- ---- the call of a line; an open is with key 0, in edition 1
abbrev pub line_call : List ℕ → List ℕ → Line → After
line_call a r (Open n) = open_call a r 0 plain
line_call a r (Grant n) = grant_call a r n
line_call a r (Release m) = release_call a r m
line_call a r (Resize m n) = resize_call a r m n
line_call a r Settle = joined_after (emptying_call a r)
line_call a r Other = after a r (Ok Done)

-- an open sets the arena's length
abbrev pub length_of : Line → ℕ → ℕ
length_of (Open n) m = n
length_of (Grant n) m = m
length_of (Release n) m = m
length_of (Resize k n) m = m
length_of Settle m = m
length_of Other m = m

-- the first n bytes a' of a are the arena
abbrev pub back_in : List ℕ → ℕ → After → After
back_in a n (after b r x) = after (b ++ drop n a) r x

unfoldable pub called : List ℕ → List ℕ → ℕ → Line → After
called a r n l = back_in a n (line_call (take n a) r l)

-- ---- a line
-- the record's word 1; 0 where the line ended the run
abbrev pub top_after : Bool → List ℕ → ℕ
top_after e r = elim e [ true ↦ 0 | false ↦ number 4 r 4 ]

abbrev pub ran_step : Line → ℕ → ℕ → After → Step
ran_step l k n (after a r x) =
    step (run a r [] k n (ends_by? l x)) (answer_text (letter_of l) x (top_after (ends_by? l x) r))

-- the number of the next line; it stays at the largest 64-bit number
abbrev pub counted : ℕ → ℕ
counted k = elim (ltb k 18446744073709551615) [ true ↦ k + 1 | false ↦ k ]

-- a line in its place is run; any other prints `? k` and ends the run
unfoldable pub placed_step : Run → ℕ → Line → Step
placed_step (run a r t j n e) k l = elim (in_place? k l) [
  | true ↦ ran_step l k (length_of l n) (called a r (length_of l n) l)
  | false ↦ step (run a r [] k n true) (question_text k)
]

unfoldable pub line_step : Run → Step
line_step (run a r t k n e) = placed_step (run a r t k n e) (counted k) (line_of t)

-- ---- a byte, and the end of the script; nothing follows the end of the run
unfoldable pub byte_step : ℕ → Run → Step
byte_step b (run a r t k n true) = step (run a r t k n true) []
byte_step b (run a r t k n false) = elim (eqb b newline) [
  | true ↦ line_step (run a r t k n false)
  | false ↦ step (run a r (take kept_bytes (t ++ (b ∷ []))) k n false) []
]

-- the bytes of a piece of the script, one after the other
unfoldable pub piece_step : List ℕ → Run → Step
piece_step [] s = step s []
piece_step (b ∷ t) s = and_on (byte_step b s) (piece_step t)

-- a last line without its newline has at least one byte
unfoldable pub end_step : Run → Step
end_step (run a r t k n true) = step (run a r t k n true) []
end_step (run a r [] k n false) = step (run a r [] k n false) []
end_step (run a r (b ∷ t) k n false) = line_step (run a r (b ∷ t) k n false)

-- ---- the code's state with the two buffers
abbrev pub run_of : List ℕ → List ℕ → Log → Run
run_of a r s = run a r (kept s.text) s.lines s.opened s.ended

-- ---- what the steps ask of the lent bytes: room for the longest arena, and a record
pub record Buffers (a r : List ℕ) : Type 0 where
  pub arena_room : length a ≡ 49152
  pub record_room : length r ≡ 1584

-- a state whose arena fits, and that has printed at most so many bytes
pub record Within (s : Log) (n : ℕ) : Type 0 where
  pub opens : s.opened ≤ 49152
  pub prints : s.printed ≤ n
