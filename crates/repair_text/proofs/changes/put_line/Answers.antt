-- `put_line` meets its contract: five texts, one behind the other. Assumes nothing.
use Rattle.text.proofs.Pages.{◌▹◌}
use Rattle.repair_text.specs.Changes.{line_text}
use Rattle.repair_text.proofs.changes.put_line.Goals as goal

pub returns : goal.returns
unfolding line_text
returns c = c.byte.ensures.adds ▹ c.field.ensures ▹ c.field-2.ensures ▹ c.field-3.ensures ▹ c.byte-2.ensures.adds
