-- `le::word` meets its contract: the number at a multiple of 8 is the word of that place. Assumes nothing.
use mathlib.Core.Path.{sym, ◌∙◌}
use Rattle.le.specs.ArenaLaws.{get_d-arena_words}
use Rattle.le.proofs.word.Goals as goal

pub returns : goal.returns
returns c = c.read.ensures ∙ sym (get_d-arena_words _ _ c.requires.0 c.requires.1)
