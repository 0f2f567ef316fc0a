-- `heap_release`: the call, its answer as numbers. Assumes nothing.
use Rattle.heap.specs.Exported.{back_is}
use Rattle.heap.proofs.heap_release.Goals as goal

pub returns : goal.returns
returns c = back_is _ _ _ _ c.release-x.ensures c.answer_numbers.ensures
