-- `whole::put_reading` meets its contract: a line for each refusal, or the heap. Assumes nothing.
use mathlib.Core.Path.{refl, ap, ◌∙◌}
use native.Mathlib.Omega.{arith}
use Rattle.text.proofs.Pages.{adds-as}
use Rattle.text.specs.Text.{question_text}
use Rattle.image.specs.Image.{version_in}
use Rattle.image_text.proofs.Lent.{text_of, heap-of}
use Rattle.image_text.proofs.whole.put_reading.Goals as goal

pub returns-in-Err : goal.returns-in-Err
returns-in-Err c =
    let n = c.from.ensures ∙ c.no.ensures in
    adds-as (omega arith) (text_of c.args.edition (version_in c.args.file.now) c.args.arena.now c.args.control.now c.in-Err.is (ap question_text n)) c.question.ensures

pub version_in-requires : goal.version_in-requires
version_in-requires c =
    (c.requires.in_bounds _ c.in-Ok.is).0

pub put_heap-requires : goal.put_heap-requires
put_heap-requires c =
    let k = (c.requires.in_bounds _ c.in-Ok.is).1 in
    record { audited_by = rw c.version_in.ensures k; room = c.requires.room }

pub returns-in-Ok : goal.returns-in-Ok
returns-in-Ok c =
    adds-as (omega arith) (heap-of c.args.edition c.args.file.now c.args.arena.now c.args.control.now c.in-Ok.is c.version_in.ensures refl) c.put_heap.ensures
