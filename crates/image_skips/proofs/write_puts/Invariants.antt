-- `image_skips::write_puts` meets its contract. The invariant: with all ones for the large chunks from x on the words are those at the end. The measure is how
-- many chunks these are. Assumes nothing.
use mathlib.Core.Path.{◌≡◌}
use lib.ListN.{length}
use Rattle.le.specs.Arena.{arena_words}
use Rattle.sizes.specs.Limits.{unsorted}
use Rattle.machine.specs.Heap.{Heap, bin, size_of}
use Rattle.machine.specs.Writes.{apply}
use Rattle.machine.specs.Skips.{all_put}
use Rattle.skip_links.specs.WalkTurn.{left}
use Rattle.primitives.specs.Linked.{Linked}
use Rattle.image_skips.specs.SkipTurns.{Putting}
use Rattle.image_skips.proofs.write_puts.Given as goal

abbrev pub invariant-loop-x : goal.invariant-loop-x
invariant-loop-x l =
    (length l.a ≡ length l.initial.a) × ((h : Heap) → Linked h (arena_words l.initial.a) l.r → Putting h l.r (apply (all_put (λ y. size_of h y) (bin h unsorted)) (arena_words l.initial.a)) (arena_words l.a) l.x.0)

abbrev pub decreases-loop-x : goal.decreases-loop-x
decreases-loop-x l = left (arena_words l.a) l.x.0
