-- `audit_empty_lists::skip_bins` meets its contract: four bins at a time, and then one by one. Assumes nothing.
use Prim.Native.Nat.{◌+◌, ◌-◌}
use Rattle.audit_empty_lists.specs.Skips.{Skipped}
use Rattle.audit_empty_lists.proofs.skip_bins.Given as goal

abbrev pub invariant-loop-b : goal.invariant-loop-b
invariant-loop-b l = Skipped l.r l.i (l.b + 73)

abbrev pub decreases-loop-b : goal.decreases-loop-b
decreases-loop-b l = 127 - l.b
