-- `audit_empty_lists::skip_one_by_one` meets its contract: the bins passed are empty by their two words. Assumes nothing.
use Prim.Native.Nat.{◌+◌}
use Rattle.audit_empty_lists.specs.Skips.{Skipped}
use Rattle.audit_empty_lists.proofs.skip_one_by_one.Given as goal

abbrev pub invariant-loop-b : goal.invariant-loop-b
invariant-loop-b l = Skipped l.r (l.i + 73) (l.b + 73)
