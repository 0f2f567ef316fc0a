-- `image_skips::write_rings` meets its contract. The invariant: with the rings of the bins from j on the words are those at the end. Assumes nothing.
use Rattle.le.specs.Arena.{arena_words}
use Rattle.machine.specs.Heap.{Heap}
use Rattle.machine.specs.Writes.{apply}
use Rattle.primitives.specs.Linked.{Linked}
use Rattle.image_skips.specs.Skips.{rings_from}
use Rattle.image_skips.specs.SkipTurns.{RingsTo}
use Rattle.image_skips.proofs.write_rings.Given as goal

abbrev pub invariant-loop-j : goal.invariant-loop-j
invariant-loop-j l = (h : Heap) → Linked h (arena_words l.initial.a) l.r → RingsTo l.j h l.r (apply (rings_from 63 64 h) (arena_words l.initial.a)) (arena_words l.a)
