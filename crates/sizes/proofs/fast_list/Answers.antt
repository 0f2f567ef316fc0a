-- `fast_list` meets its contract: linear arithmetic. Assumes nothing.
use borrow.Author.Rules.{rules}
use Rattle.sizes.specs.Sizes.{fast_of}
use Rattle.sizes.proofs.fast_list.Goals as goal

pub returns : goal.returns
unfolding fast_of
returns c = search rules
