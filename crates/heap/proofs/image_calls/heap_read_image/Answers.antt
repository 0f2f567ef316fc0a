-- `heap_read_image`: the reading, its answer as numbers. Assumes nothing.
use Rattle.heap.specs.Exported.{read-back-is}
use Rattle.heap.proofs.image_calls.heap_read_image.Goals as goal

pub returns : goal.returns
returns c = read-back-is _ _ _ _ c.read_image-x.ensures c.reading_numbers.ensures
