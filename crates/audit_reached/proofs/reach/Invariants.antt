-- `reach` meets its contract: the loop keeps Before, from the marks of the tile walk on. Assumes nothing.
use Rattle.le.specs.Arena.{arena_words}
use Rattle.audit_reached.specs.ReachTurn.{Before}
use Rattle.audit_reached.proofs.reach.Given as goal

abbrev pub invariant-loop-i : goal.invariant-loop-i
invariant-loop-i l = Before l.v (arena_words l.a) l.r l.m l.i
