-- `grant_step_5::place` meets its contract: the loop walks the bin (`Walking`), and each way out is a law of the walk. The measure is what is ahead. Assumes nothing.
use Rattle.le.specs.Arena.{arena_words}
use Rattle.grant_step_5.specs.Newcomer.{Walking, ahead}
use Rattle.grant_step_5.proofs.sort.place.Given as goal

abbrev pub invariant-loop-n : goal.invariant-loop-n
invariant-loop-n l = Walking l.j l.z l.p.0 l.n.0 (arena_words l.a) l.r

abbrev pub decreases-loop-n : goal.decreases-loop-n
decreases-loop-n l = ahead (arena_words l.a) l.n.0
