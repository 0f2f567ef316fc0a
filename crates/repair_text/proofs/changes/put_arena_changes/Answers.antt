-- `put_arena_changes` meets its contract: the arena's words are its numbers of 8 bytes. Assumes nothing.
use Rattle.le.specs.Arena.{arena_words}
use Rattle.repair_text.proofs.changes.put_arena_changes.Goals as goal

pub returns : goal.returns
unfolding arena_words
returns c = rw c.requires.1 c.put_numbers.ensures
