-- `grant_step_5::step5` meets its contract: on the way, what is left of the step from here is what was left of it from the start (`Reach`), and each answer of a turn
-- is one way on or out. The measure is how many turns are left: one for each unsorted chunk, read along the links, and one that finds none. Assumes nothing.
use mathlib.Core.Bool.{true}
use Rattle.le.specs.Arena.{arena_words}
use Rattle.grant_step_5.specs.Loop.{Sweeping, turns_left}
use Rattle.grant_step_5.proofs.step5.Given as goal

abbrev pub invariant-loop-c : goal.invariant-loop-c
invariant-loop-c l = Sweeping l.b.bytes true l.got (arena_words l.initial.a) l.initial.r (arena_words l.a) l.r

abbrev pub decreases-loop-c : goal.decreases-loop-c
decreases-loop-c l = turns_left true (arena_words l.a) l.r
