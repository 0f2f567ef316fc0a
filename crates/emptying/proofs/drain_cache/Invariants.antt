-- `emptying::drain_cache` meets its contract. The invariant: the drain from the start is what was done so far and then the drain from here. The measure is the
-- list's count. Assumes nothing.
use mathlib.Core.Path.{◌≡◌}
use lib.ListN.{length, get_or}
use Rattle.le.specs.Arena.{arena_words}
use Rattle.sizes.specs.Layout.{cache_count}
use Rattle.machine.specs.Primitives.{take_cache}
use Rattle.machine.specs.Release.{release_past}
use Rattle.primitives.specs.Reach.{Way}
use Rattle.consolidate.specs.Drain.{drain_of}
use Rattle.emptying.proofs.drain_cache.Given as goal

abbrev pub invariant-loop-r : goal.invariant-loop-r
invariant-loop-r l = (length l.a ≡ length l.initial.a) × (length l.r ≡ length l.initial.r) × Way (Unit {0}) (drain_of take_cache release_past l.k) (drain_of take_cache release_past l.k) (arena_words l.initial.a) l.initial.r
    (arena_words l.a) l.r

abbrev pub decreases-loop-r : goal.decreases-loop-r
decreases-loop-r l = get_or l.r (cache_count l.k) 0
