-- `Page::field` meets its contract: a blank, and the digits behind it. Assumes nothing.
use Rattle.text.proofs.Pages.{◌▹◌}
use Rattle.text.specs.Text.{field}
use Rattle.text.proofs.Page.field.Goals as goal

pub returns : goal.returns
unfolding field
returns c = c.byte.ensures.adds ▹ c.decimal.ensures
