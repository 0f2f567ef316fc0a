-- `audit_empty_lists::skip_fast` meets its contract: the fast lists passed are empty by their heads. Assumes nothing.
use Rattle.audit_empty_lists.specs.Skips.{Skipped}
use Rattle.audit_empty_lists.proofs.skip_fast.Given as goal

abbrev pub invariant-loop-j : goal.invariant-loop-j
invariant-loop-j l = Skipped l.r l.i l.j
