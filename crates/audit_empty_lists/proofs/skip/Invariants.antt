-- `audit_empty_lists::skip` meets its contract: from a bin on bins alone, else eight cache lists at a time, and then one by one. Assumes nothing.
use Prim.Native.Nat.{◌-◌}
use Rattle.audit_empty_lists.specs.Skips.{Skipped}
use Rattle.audit_empty_lists.proofs.skip.Given as goal

abbrev pub invariant-loop-j : goal.invariant-loop-j
invariant-loop-j l = Skipped l.r l.i l.j

abbrev pub decreases-loop-j : goal.decreases-loop-j
decreases-loop-j l = 200 - l.j
