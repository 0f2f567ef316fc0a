-- Whether a word can be the size word of a tile. A definition only.
use Rattle.std.specs.Prelude.{Bool, ℕ, ltb, leb}
use Rattle.sizes.specs.Limits.{least_chunk}
use Rattle.sizes.specs.SizeWord.{size_of_word, low_of_word}
use Rattle.machine.specs.Lists.{both}

abbrev pub word_ok : ℕ → Bool
word_ok x = both (ltb (low_of_word x) 2) (leb least_chunk (size_of_word x))
