-- `le::set_word` meets its contract: a number written at a multiple of 8 sets the word of that place. Assumes nothing.
use mathlib.Core.Path.{ap, ◌∙◌}
use Rattle.le.specs.Arena.{arena_words}
use Rattle.le.specs.ArenaLaws.{arena_words-set}
use Rattle.le.proofs.set_word.Goals as goal

pub returns : goal.returns
returns c = ap arena_words c.write.ensures ∙ arena_words-set _ _ _ c.requires.0 c.requires.1 c.ranges.v.fits
