-- `sizes::bins::bin_on` meets its contract: the test opens the definition. Assumes nothing.
use borrow.Author.Tests.{le-leb, lt-leb}
use Rattle.sizes.specs.Rows.{bin_on}
use Rattle.sizes.proofs.bins.bin_on.Goals as goal

pub returns-then-row-q : goal.returns-then-row-q
returns-then-row-q c = simp (bin_on, lt-leb _ _ c.if-row-q.true)

pub returns : goal.returns
returns c = simp (bin_on, le-leb _ _ c.if-row-q.false)
