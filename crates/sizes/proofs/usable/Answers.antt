-- `usable` meets its contract: linear arithmetic. Assumes nothing.
use borrow.Author.Rules.{rules}
use Rattle.sizes.specs.Sizes.{usable}
use Rattle.sizes.proofs.usable.Goals as goal

pub returns : goal.returns
unfolding usable
returns c = search rules
