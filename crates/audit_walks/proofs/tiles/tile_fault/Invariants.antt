-- `tiles::tile_fault` meets its contract: the loop keeps TileIn, and each way out is a lemma of TileTurn. The measure is what is left of the arena.
-- Assumes nothing.
use mathlib.Core.Path.{◌≡◌}
use Prim.Native.Nat.{◌+◌}
use lib.ListN.{length}
use Rattle.le.specs.Arena.{arena_words}
use Rattle.audit_walks.specs.TileTurn.{TileIn}
use Rattle.audit_walks.proofs.tiles.tile_fault.Given as goal

abbrev pub invariant-loop-top : goal.invariant-loop-top
invariant-loop-top l = (length l.m ≡ length l.initial.m) × (l.room + l.o ≡ length l.a) × TileIn (arena_words l.a) l.m l.top.0 l.o

abbrev pub decreases-loop-top : goal.decreases-loop-top
decreases-loop-top l = l.room
