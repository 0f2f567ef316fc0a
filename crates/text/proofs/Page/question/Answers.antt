-- `Page::question` meets its contract: three texts, one behind the other. Assumes nothing.
use Rattle.text.proofs.Pages.{◌▹◌}
use Rattle.text.specs.Text.{question_text}
use Rattle.text.proofs.Page.question.Goals as goal

pub returns : goal.returns
unfolding question_text
returns c = c.byte.ensures.adds ▹ c.field.ensures ▹ c.byte-2.ensures.adds
