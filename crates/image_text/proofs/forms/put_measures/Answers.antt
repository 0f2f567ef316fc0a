-- `forms::put_measures` meets its contract: six texts, one behind the other. Assumes nothing.
use Rattle.text.proofs.Pages.{◌▹◌}
use Rattle.image_text.proofs.forms.put_measures.Goals as goal

pub returns : goal.returns
returns c = c.bytes.ensures.adds ▹ c.decimal.ensures ▹ c.bytes-2.ensures.adds ▹ c.decimal-2.ensures ▹ c.bytes-3.ensures.adds ▹ c.put_place.ensures
