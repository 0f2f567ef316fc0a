-- `cache_list` meets its contract: linear arithmetic. Assumes nothing.
use borrow.Author.Rules.{rules}
use Rattle.sizes.specs.Sizes.{cache_of}
use Rattle.sizes.proofs.cache_list.Goals as goal

pub returns : goal.returns
unfolding cache_of
returns c = search rules
