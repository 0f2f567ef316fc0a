-- `image_room` meets its contract. The check finds this alone; written out, it is where a room of ones is refused. Assumes nothing.
use mathlib.Core.Path.{refl}
use Rattle.image_file.proofs.image_room.Goals as goal

pub returns : goal.returns
returns c = refl
