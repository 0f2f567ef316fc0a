-- `script_format::put_answer` meets its contract: six texts, one behind the other. Assumes nothing.
use Rattle.std.proofs.Common.{arith}
use Rattle.text.proofs.Pages.{◌▹◌, adds-as}
use Rattle.script_format.specs.Format.{call_text}
use Rattle.script_format.proofs.put_answer.Goals as goal

pub returns : goal.returns
unfolding call_text
returns c = adds-as (omega arith) (rw (c.from.ensures, c.from-2.ensures, c.from-3.ensures, c.from-4.ensures, c.answer_numbers-n.ensures))
    (c.byte.ensures.adds ▹ c.field.ensures ▹ c.field-2.ensures ▹ c.field-3.ensures ▹ c.field-4.ensures ▹ c.byte-2.ensures.adds)
