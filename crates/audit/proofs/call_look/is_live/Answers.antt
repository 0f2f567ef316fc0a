-- `is_live`: the mark of the chunk that mem belongs to. Assumes nothing.
use mathlib.Core.Path.{ap, ◌∙◌}
use borrow.Author.Tests.{le-leb, lt-leb}
use Rattle.machine.specs.Lists.{both}
use Rattle.audit_lists.specs.Listed.{unmet}
use Rattle.audit.proofs.call_look.is_live.Goals as goal

pub returns-then-mem-lt16 : goal.returns-then-mem-lt16
returns-then-mem-lt16 c = rw (lt-leb 16 _ c.if-mem-lt16.true, both)

pub returns : goal.returns
returns c = rw (le-leb 16 _ c.if-mem-lt16.false, both) (c.unmet.ensures ∙ ap (unmet c.args.m.now) c.chunk.ensures)
