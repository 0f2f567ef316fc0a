-- `consolidate::drain_fast` meets its contract. The invariant: the drain from the start is what was done so far and then the drain from here. The measure is the
-- list's length by the words. Assumes nothing.
use mathlib.Core.Path.{◌≡◌}
use lib.ListN.{length}
use Rattle.le.specs.Arena.{arena_words}
use Rattle.machine.specs.Heap.{fast_at}
use Rattle.machine.specs.Primitives.{pop}
use Rattle.machine.specs.Release.{join}
use Rattle.primitives.specs.Reach.{Way}
use Rattle.consolidate.specs.Drain.{left, drain_of}
use Rattle.consolidate.proofs.drain_fast.Given as goal

abbrev pub invariant-loop-r : goal.invariant-loop-r
invariant-loop-r l = (length l.a ≡ length l.initial.a) × (length l.r ≡ length l.initial.r) × Way (Unit {0}) (drain_of pop join (fast_at l.k)) (drain_of pop join (fast_at l.k)) (arena_words l.initial.a) l.initial.r
    (arena_words l.a) l.r

abbrev pub decreases-loop-r : goal.decreases-loop-r
decreases-loop-r l = left (arena_words l.a) l.r l.k
