-- `words::put_state` meets its contract: top, or by the mark. Assumes nothing.
use Rattle.std.proofs.Common.{arith, sym, ap}
use Rattle.text.proofs.Pages.{adds-as}
use Rattle.image_text.specs.ImageText.{told_text}
use Rattle.image_text.proofs.words.put_state.Goals as goal

pub returns-in-Top : goal.returns-in-Top
returns-in-Top c = adds-as (omega arith) (sym (ap told_text c.in-Top.is)) c.bytes.ensures.adds

pub returns-in-Marked : goal.returns-in-Marked
returns-in-Marked c = adds-as (omega arith) (sym (ap told_text c.in-Marked.is)) c.put_mark.ensures
