-- `shaped` meets its contract: the record's length, then the arena's. Assumes nothing.
use mathlib.Core.Path.{sym, ◌∙◌}
use borrow.Author.Tests.{eq-eqb, ne_eqb}
use lib.ListN.{length}
use Rattle.calls.proofs.shape.shaped.Goals as goal

pub returns-then-control-ne-RECORD_BYTES : goal.returns-then-control-ne-RECORD_BYTES
returns-then-control-ne-RECORD_BYTES c = sym (rw (ne_eqb (length c.args.control.now) 1584 c.if-control-ne-RECORD_BYTES.true))

pub returns : goal.returns
returns c = c.allowed.ensures ∙ sym (rw (eq-eqb (length c.args.control.now) 1584 c.if-control-ne-RECORD_BYTES.false))
