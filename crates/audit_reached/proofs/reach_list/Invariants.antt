-- `reach_list` meets its contract: the loop keeps Within, and each way out is a lemma of ReachTurn. The measure is the room for chunks to come. Assumes
-- nothing.
use mathlib.Core.Path.{◌≡◌}
use Prim.Native.Nat.{◌-◌}
use lib.ListN.{length}
use Rattle.le.specs.Arena.{arena_words}
use Rattle.audit_reached.specs.ReachTurn.{Within}
use Rattle.audit_reached.proofs.reach_list.Given as goal

abbrev pub invariant-loop-c : goal.invariant-loop-c
invariant-loop-c l = (length l.m ≡ length l.initial.m) × Within l.v (arena_words l.a) l.r l.m l.k l.i l.p.0 l.q l.n l.c.0

abbrev pub decreases-loop-c : goal.decreases-loop-c
decreases-loop-c l = length (arena_words l.a) - l.n
