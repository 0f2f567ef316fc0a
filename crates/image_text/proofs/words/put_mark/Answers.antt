-- `words::put_mark` meets its contract: a mark below the first list's is that of no list. Assumes nothing.
use Rattle.std.proofs.Common.{arith}
use borrow.Author.Tests.{le-ltb, lt-ltb}
use Rattle.text.proofs.Pages.{adds-as}
use Rattle.audit_reached.specs.Reached.{first_mark}
use Rattle.image_text.specs.ImageText.{mark_text}
use Rattle.image_text.proofs.words.put_mark.Goals as goal

pub returns-then-mark-lt-FIRST_MARK : goal.returns-then-mark-lt-FIRST_MARK
unfolding mark_text
returns-then-mark-lt-FIRST_MARK c = adds-as (omega arith) (rw (mark_text, lt-ltb c.args.mark first_mark c.if-mark-lt-FIRST_MARK.true)) c.bytes.ensures.adds

pub returns : goal.returns
unfolding mark_text
returns c = adds-as (omega arith) (rw (mark_text, le-ltb c.args.mark first_mark c.if-mark-lt-FIRST_MARK.false, c.kind_at.ensures)) c.put_list.ensures
