-- `owns::owned_by_fast` meets its contract: one size, or none where that is above 128. Assumes nothing.
use Rattle.audit_lists.specs.OwnsLaws.{fast-owns, fast-owns-none}
use Rattle.audit_lists.proofs.owns.owned_by_fast.Goals as goal

pub returns-then-s-gt-MOST_FAST : goal.returns-then-s-gt-MOST_FAST
returns-then-s-gt-MOST_FAST c = fast-owns-none _ _ c.stack_size-s.ensures c.if-s-gt-MOST_FAST.true

pub returns : goal.returns
returns c = fast-owns _ _ c.stack_size-s.ensures c.if-s-gt-MOST_FAST.false
