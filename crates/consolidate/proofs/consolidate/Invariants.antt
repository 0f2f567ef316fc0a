-- `consolidate::consolidate` meets its contract. The invariant: consolidate from the start is what was done so far and then the rest of it, from list k on.
-- Assumes nothing.
use Rattle.le.specs.Arena.{arena_words}
use Rattle.machine.specs.Release.{consolidate}
use Rattle.primitives.specs.Reach.{Way}
use Rattle.consolidate.specs.Drain.{from_fast}
use Rattle.consolidate.proofs.consolidate.Given as goal

abbrev pub invariant-loop-k : goal.invariant-loop-k
invariant-loop-k l = Way (Unit {0}) consolidate (from_fast l.k) (arena_words l.initial.a) l.initial.r (arena_words l.a) l.r
