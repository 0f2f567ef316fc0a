-- `skip_links::write_ring` meets its contract. The invariant: with what is to come for the chunks from n on the words are those at the end. The measure is
-- how many they are. Assumes nothing.
use mathlib.Core.Path.{◌≡◌}
use mathlib.Core.List.{List}
use Prim.Native.Nat.{ℕ}
use lib.ListN.{length}
use Rattle.le.specs.Arena.{arena_words}
use Rattle.skip_links.specs.Walk.{LargeWalk}
use Rattle.skip_links.specs.WalkTurn.{left}
use Rattle.skip_links.specs.RingTurn.{Writing}
use Rattle.skip_links.proofs.write_ring.Given as goal

abbrev pub invariant-loop-n : goal.invariant-loop-n
invariant-loop-n it =
    (length it.a ≡ length it.initial.a) × ((l : List ℕ) → LargeWalk (arena_words it.initial.a) it.f.0 l → Writing (arena_words it.initial.a) it.f.0 l (arena_words it.a) it.q.0 it.n.0)

abbrev pub decreases-loop-n : goal.decreases-loop-n
decreases-loop-n l = left (arena_words l.initial.a) l.n.0
