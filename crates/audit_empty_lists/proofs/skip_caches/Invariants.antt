-- `audit_empty_lists::skip_caches` meets its contract: the cache lists passed are empty by their heads and counts. Assumes nothing.
use Rattle.audit_empty_lists.specs.Skips.{Skipped}
use Rattle.audit_empty_lists.proofs.skip_caches.Given as goal

abbrev pub invariant-loop-j : goal.invariant-loop-j
invariant-loop-j l = Skipped l.r l.i l.j
