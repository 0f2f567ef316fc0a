-- `heap_repair`: the repair, its answer as numbers. Assumes nothing.
use Rattle.heap.specs.Exported.{repair-back-is}
use Rattle.heap.proofs.repair_call.heap_repair.Goals as goal

pub returns : goal.returns
returns c = repair-back-is _ _ _ _ c.repair-x.ensures c.repair_numbers.ensures
