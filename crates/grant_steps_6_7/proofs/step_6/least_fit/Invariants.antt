-- `grant_steps_6_7::least_fit` meets its contract: the walk is `Back` from the bin's last chunk on. The measure is how many chunks it may still come to. Assumes nothing.
use Rattle.le.specs.Arena.{arena_words}
use Rattle.machine.specs.Heap.{Heap}
use Rattle.primitives.specs.Follow.{Ok}
use Rattle.grant_steps_6_7.specs.Finds.{Back, left}
use Rattle.grant_steps_6_7.proofs.step_6.least_fit.Given as goal

abbrev pub invariant-loop-c : goal.invariant-loop-c
invariant-loop-c l = (h : Heap) → Ok h (arena_words l.a) l.r → Back h l.j l.b.bytes l.c.0

abbrev pub decreases-loop-c : goal.decreases-loop-c
decreases-loop-c l = left (arena_words l.a) l.c.0
