-- `flags::flag_fault` meets its contract: the loop keeps FlagIn, and each way out is a lemma of FlagTurn. The measure is what is left before the top.
-- Assumes nothing.
use Prim.Native.Nat.{◌-◌}
use Rattle.le.specs.Arena.{arena_words}
use Rattle.audit_walks.specs.Marks.{binned_by}
use Rattle.audit_walks.specs.FlagTurn.{FlagIn}
use Rattle.audit_walks.proofs.flags.flag_fault.Given as goal

abbrev pub invariant-loop-o : goal.invariant-loop-o
invariant-loop-o l = FlagIn (arena_words l.a) l.m l.top.0 l.o (binned_by l.u) l.s

abbrev pub decreases-loop-o : goal.decreases-loop-o
decreases-loop-o l = l.top.0 - l.o
