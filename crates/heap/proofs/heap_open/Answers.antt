-- `heap_open`: the call, its answer as numbers. Assumes nothing.
use Rattle.heap.specs.Exported.{back_is}
use Rattle.heap.proofs.heap_open.Goals as goal

pub returns : goal.returns
returns c = back_is _ _ _ _ c.open-x.ensures c.answer_numbers.ensures
