-- `rounded` meets its contract: linear arithmetic. Assumes nothing.
use borrow.Author.Rules.{rules}
use Rattle.sizes.specs.Sizes.{need}
use Rattle.sizes.proofs.rounded.Goals as goal

pub returns-then-size-lt-LEAST_CHUNK : goal.returns-then-size-lt-LEAST_CHUNK
unfolding need
returns-then-size-lt-LEAST_CHUNK c = search rules

pub returns : goal.returns
unfolding need
returns c = search rules
