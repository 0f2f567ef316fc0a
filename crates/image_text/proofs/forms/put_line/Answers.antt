-- `forms::put_line` meets its contract: the place, the state and the line's end. Assumes nothing.
use Rattle.std.proofs.Common.{arith, append_assoc}
use Rattle.text.proofs.Pages.{◌▹◌, adds-as}
use Rattle.image_text.specs.ImageText.{tile_text}
use Rattle.image_text.proofs.forms.put_line.Goals as goal

pub returns : goal.returns
unfolding tile_text
returns c = adds-as (omega arith) (simp append_assoc) (c.put_place.ensures ▹ c.put_state.ensures ▹ c.byte.ensures.adds)
