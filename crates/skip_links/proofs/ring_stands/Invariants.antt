-- `skip_links::ring_stands` meets its contract. The invariant: the ring stands if it does from n on. The measure is how many chunks these are. Assumes
-- nothing.
use mathlib.Core.List.{List}
use Prim.Native.Nat.{ℕ}
use Rattle.le.specs.Arena.{arena_words}
use Rattle.skip_links.specs.Walk.{LargeWalk}
use Rattle.skip_links.specs.WalkTurn.{left}
use Rattle.skip_links.specs.RingTurn.{Reading}
use Rattle.skip_links.proofs.ring_stands.Given as goal

abbrev pub invariant-loop-n : goal.invariant-loop-n
invariant-loop-n it = (l : List ℕ) → LargeWalk (arena_words it.a) it.f.0 l → Reading (arena_words it.a) it.f.0 l it.q.0 it.n.0

abbrev pub decreases-loop-n : goal.decreases-loop-n
decreases-loop-n l = left (arena_words l.a) l.n.0
