-- What heapmend prints of a repair: a line for each number that changed, the record's of 32 bits first, then the arena's of 64, by rising place. Definitions only.
use Rattle.std.specs.Prelude.{List, [], ◌∷◌, ◌++◌, true, false, ℕ, ◌+◌, eqb}
use Rattle.le.specs.Arena.{arena_words}
use Rattle.machine.specs.Calls.{words_of}
use Rattle.text.specs.Text.{newline, field}

-- ---- the letters: r, a
abbrev pub record_letter : ℕ
record_letter = 114

abbrev pub arena_letter : ℕ
arena_letter = 97

-- ---- LETTER PLACE OLD NEW; nothing for a number that is the same
unfoldable pub line_text : ℕ → ℕ → ℕ → ℕ → List ℕ
line_text x p o n = x ∷ (field p ++ (field o ++ (field n ++ (newline ∷ []))))

unfoldable pub change_text : ℕ → ℕ → ℕ → ℕ → List ℕ
change_text x p o n = elim (eqb o n) [ true ↦ [] | false ↦ line_text x p o n ]

-- of two lists of numbers of k bytes each, from byte place p on
unfoldable pub changes_text : ℕ → ℕ → ℕ → List ℕ → List ℕ → List ℕ
changes_text x k p [] ns = []
changes_text x k p (o ∷ os) [] = []
changes_text x k p (o ∷ os) (n ∷ ns) = change_text x p o n ++ changes_text x k (p + k) os ns

-- ---- from arena bytes a and record bytes r to arena bytes b and record bytes q
abbrev pub all_changes : List ℕ → List ℕ → List ℕ → List ℕ → List ℕ
all_changes a r b q = changes_text record_letter 4 0 (words_of r) (words_of q) ++ changes_text arena_letter 8 0 (arena_words a) (arena_words b)
