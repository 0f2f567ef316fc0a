-- `anew::write_tiles` meets its contract: the loop keeps AnewIn, a turn is one of the two of AnewTurn, and the top's size word ends it. The measure is what is left before
-- the top. Assumes nothing.
use mathlib.Core.Path.{◌≡◌}
use Prim.Native.Nat.{◌-◌}
use lib.ListN.{length}
use Rattle.le.specs.Arena.{arena_words}
use Rattle.repair.proofs.AnewTurn.{AnewIn}
use Rattle.repair.proofs.anew.write_tiles.Given as goal

abbrev pub invariant-loop-o : goal.invariant-loop-o
invariant-loop-o l = (length l.a ≡ length l.initial.a) × AnewIn (arena_words l.initial.a) l.m l.top.0 l.o l.g (arena_words l.a)

abbrev pub decreases-loop-o : goal.decreases-loop-o
decreases-loop-o l = l.top.0 - l.o
