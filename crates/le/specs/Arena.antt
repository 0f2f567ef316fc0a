-- The arena as a list of words of 8 bytes. A definition only; its laws stand in ArenaLaws.
use Rattle.std.specs.Prelude.{List, ℕ, ◌/◌, length}
use Rattle.le.specs.Number.{words}

-- as many words as the arena has whole
unfoldable pub arena_words : List ℕ → List ℕ
arena_words a = words 8 (length a / 8) a
