-- `forms::put_place` meets its contract: three texts, one behind the other. Assumes nothing.
use Rattle.text.proofs.Pages.{◌▹◌}
use Rattle.image_text.proofs.forms.put_place.Goals as goal

pub returns : goal.returns
returns c = c.decimal.ensures ▹ c.field.ensures ▹ c.byte.ensures.adds
