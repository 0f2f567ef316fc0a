-- The text that heaplog prints, as lists of bytes: the header, and a line for each call. Definitions only.
use Rattle.std.specs.Prelude.{List, [], ◌∷◌, ◌++◌, ℕ}
use Rattle.machine.specs.Calls.{answer_numbers, Answered}
use Rattle.machine.specs.declared.{HeapAnswer.HeapAnswer}
use Rattle.text.specs.Text.{newline, field}

-- letter, refusal number or 0, mem, usable, top
unfoldable pub call_text : ℕ → HeapAnswer → ℕ → List ℕ
call_text letter x top = letter ∷ (field x.no ++ (field x.mem ++ (field x.usable ++ (field top ++ (newline ∷ [])))))

abbrev pub answer_text : ℕ → Answered → ℕ → List ℕ
answer_text letter x top = call_text letter (answer_numbers x) top

-- call no at usable top
unfoldable pub header : List ℕ
header = 99 ∷ 97 ∷ 108 ∷ 108 ∷ 32 ∷ 110 ∷ 111 ∷ 32 ∷ 97 ∷ 116 ∷ 32 ∷ 117 ∷ 115 ∷ 97 ∷ 98 ∷ 108 ∷ 101 ∷ 32 ∷ 116 ∷ 111 ∷ 112 ∷ 10 ∷ []
