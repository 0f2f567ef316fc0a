-- `words::put_audit` meets its contract: sound, or the fault. Assumes nothing.
use Rattle.std.proofs.Common.{arith, sym, ap}
use Rattle.text.proofs.Pages.{adds-as}
use Rattle.image_text.specs.ImageText.{audit_text}
use Rattle.image_text.proofs.words.put_audit.Goals as goal

pub returns-in-Ok : goal.returns-in-Ok
unfolding audit_text
returns-in-Ok c = adds-as (omega arith) (sym (ap audit_text c.in-Ok.is)) c.bytes.ensures.adds

pub returns-in-Err : goal.returns-in-Err
returns-in-Err c = adds-as (omega arith) (sym (ap audit_text c.in-Err.is)) c.put_fault.ensures
