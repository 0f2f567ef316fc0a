-- `put::put_all` meets its contract. The invariant: from the start on all is put as what was done so far and then what is free from o on (`Walked`).
-- The measure is what is left before the top. Assumes nothing.
use mathlib.Core.Path.{◌≡◌}
use Prim.Native.Nat.{◌-◌}
use lib.ListN.{length}
use Rattle.le.specs.Arena.{arena_words}
use Rattle.machine.specs.Heap.{Heap}
use Rattle.primitives.specs.Follow.{Ok}
use Rattle.repair.specs.Told.{Unlisted}
use Rattle.repair.proofs.PutTurn.{Walked}
use Rattle.repair.proofs.put.put_all.Given as goal

abbrev pub invariant-loop-o : goal.invariant-loop-o
invariant-loop-o l = (length l.a ≡ length l.initial.a) × (length l.r ≡ length l.initial.r)
    × ((h : Heap) → Ok h (arena_words l.initial.a) l.initial.r → Unlisted h l.top.0 → Walked h (arena_words l.initial.a) l.top.0 l.o l.p.0 (arena_words l.a) l.r)

abbrev pub decreases-loop-o : goal.decreases-loop-o
decreases-loop-o l = l.top.0 - l.o
