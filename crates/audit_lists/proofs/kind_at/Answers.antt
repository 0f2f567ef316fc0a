-- `audit_lists::kind_at` meets its contract, test by test. Assumes nothing.
use mathlib.Core.Path.{ap}
use borrow.Author.Tests.{lt-ltb, le-ltb}
use Rattle.machine.specs.View.{kind_at}
use Rattle.machine.specs.declared.ListKind.TheVariants.{Bin}
use Rattle.audit_lists.proofs.kind_at.Goals as goal

pub returns-then-i-lt-FAST_FROM : goal.returns-then-i-lt-FAST_FROM
returns-then-i-lt-FAST_FROM c = rw (lt-ltb _ _ c.if-i-lt-FAST_FROM.true, kind_at)

pub returns-then-i-lt-BINS_FROM : goal.returns-then-i-lt-BINS_FROM
returns-then-i-lt-BINS_FROM c = rw (le-ltb _ _ c.if-i-lt-FAST_FROM.false, kind_at) (rw (lt-ltb _ _ c.if-i-lt-BINS_FROM.true))

pub returns : goal.returns
returns c = rw (le-ltb _ _ c.if-i-lt-FAST_FROM.false, kind_at) (rw (le-ltb _ _ c.if-i-lt-BINS_FROM.false) (ap Bin c.bin_of_list.ensures))
