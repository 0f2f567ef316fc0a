-- `skip_links::puts_stand` meets its contract. The invariant: the list stands if it does from u on. The measure is how many chunks these are. Assumes
-- nothing.
use mathlib.Core.List.{List}
use Prim.Native.Nat.{ℕ}
use Rattle.le.specs.Arena.{arena_words}
use Rattle.skip_links.specs.Walk.{Walk}
use Rattle.skip_links.specs.WalkTurn.{left}
use Rattle.skip_links.specs.RingTurn.{Putting}
use Rattle.skip_links.proofs.puts_stand.Given as goal

abbrev pub invariant-loop-u : goal.invariant-loop-u
invariant-loop-u it = (l : List ℕ) → Walk (arena_words it.a) it.initial.u.0 l → Putting (arena_words it.a) l it.u.0

abbrev pub decreases-loop-u : goal.decreases-loop-u
decreases-loop-u l = left (arena_words l.a) l.u.0
