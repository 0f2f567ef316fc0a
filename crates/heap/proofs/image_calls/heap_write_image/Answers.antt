-- `heap_write_image`: the writing, its answer as numbers. Assumes nothing.
use Rattle.heap.specs.Exported.{written-back-is}
use Rattle.heap.proofs.image_calls.heap_write_image.Goals as goal

pub returns : goal.returns
returns c = written-back-is _ _ _ c.write_image-x.ensures c.answer_numbers.ensures
