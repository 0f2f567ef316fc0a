-- `grant_steps_6_7::second_equal` meets its contract: the walk has the run of c's equals behind it (`Running`). The measure is how many chunks it may still come to. Assumes nothing.
use Rattle.le.specs.Arena.{arena_words}
use Rattle.grant_steps_6_7.specs.Finds.{Walking, left}
use Rattle.grant_steps_6_7.proofs.step_6.second_equal.Given as goal

abbrev pub invariant-loop-second : goal.invariant-loop-second
invariant-loop-second l = Walking (arena_words l.a) l.initial.second.0 l.second.0 l.first.0 l.before.0

abbrev pub decreases-loop-second : goal.decreases-loop-second
decreases-loop-second l = left (arena_words l.a) l.before.0
