-- `consolidate::any_fast` meets its contract: some fast list has a chunk where its head in the record is one. Assumes nothing.
use Rattle.consolidate.specs.AnyFast.{told}
use Rattle.consolidate.proofs.any_fast.Goals as goal

pub returns : goal.returns
returns c = told _ c.requires _ c.any_some.ensures
