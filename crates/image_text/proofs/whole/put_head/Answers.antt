-- `whole::put_head` meets its contract: four texts, one behind the other. Assumes nothing.
use Rattle.text.proofs.Pages.{◌▹◌}
use Rattle.image_text.specs.ImageText.{head_text}
use Rattle.image_text.proofs.whole.put_head.Goals as goal

pub returns : goal.returns
unfolding head_text
returns c = c.bytes.ensures.adds ▹ c.field.ensures ▹ c.field-2.ensures ▹ c.byte.ensures.adds
