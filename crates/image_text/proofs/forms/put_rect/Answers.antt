-- `forms::put_rect` meets its contract: five texts, one behind the other, two of them the state. Assumes nothing.
use Rattle.std.proofs.Common.{arith, append_assoc}
use Rattle.text.proofs.Pages.{◌▹◌, adds-as}
use Rattle.image_text.specs.ImageText.{rect_text}
use Rattle.image_text.proofs.forms.put_rect.Goals as goal

pub returns : goal.returns
unfolding rect_text
returns c = adds-as (omega arith) (simp append_assoc) (c.bytes.ensures.adds ▹ c.put_state.ensures ▹ c.put_measures.ensures ▹ c.put_state-2.ensures ▹ c.bytes-2.ensures.adds)
