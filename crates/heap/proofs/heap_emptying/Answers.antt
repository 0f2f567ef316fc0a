-- `heap_emptying`: the call, its answer as numbers. Assumes nothing.
use Rattle.heap.specs.Exported.{back_is}
use Rattle.heap.proofs.heap_emptying.Goals as goal

pub returns : goal.returns
returns c = back_is _ _ _ _ c.emptying-x.ensures c.answer_numbers.ensures
