-- Document 02, (ii), "a bigger arena changes nothing": what is asked of the events. What then agrees is Agrees, of the records but for the length and what was chosen.
-- Definitions only; that it holds stands in BiggerHolds.
use Rattle.std.specs.Prelude.{◌≡◌, true, false, ◌-◌, ◌≤◌, ◌<◌, leb}
use Rattle.sizes.specs.Limits.{most_request, consolidate_from}
use Rattle.sizes.specs.Sizes.{need}
use Rattle.machine.specs.Lists.{both}
use Rattle.machine.specs.Heap.{Heap, live?}
use Rattle.machine.specs.Release.{release}
use Rattle.history.specs.Histories.{Event, Grant, Release, Resize, Emptying, Joining, Store}
use Rattle.history.specs.Like.{answer, up_to9, short?, Few}

-- ---- the premises, of an event and the heaps before it, h of the smaller arena and g of the larger: it is no resize; a grant does not find the smaller arena's
-- top short in step 9 (also not if consolidating would then help it); and no release in either arena, inside an emptying or not, yields 65,536 or more
abbrev pub Premise : Event → Heap → Heap → Type 0
Premise (Grant n) h g = n ≤ most_request → short? (need n) (up_to9 (need n) h) ≡ false
Premise (Release m) h g = both (leb 16 m) (live? h (m - 16)) ≡ true → (answer (release (m - 16) h) < consolidate_from) × (answer (release (m - 16) g) < consolidate_from)
Premise (Resize m n) h g = ⊥
Premise Emptying h g = Few h × Few g
Premise Joining h g = Unit {0}
Premise (Store p v) h g = Unit {0}
