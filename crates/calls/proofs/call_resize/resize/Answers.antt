-- `resize`: null is the machine's grant, a new length of 0 its release; else a block is resized. Assumes nothing.
use mathlib.Core.Path.{◌∙◌}
use borrow.Author.Tests.{eq-eqb, ne_eqb}
use Rattle.calls.specs.Ways.{resize-null, resize-zero}
use Rattle.calls.proofs.call_resize.resize.Goals as goal

pub returns-then-mem-eq0 : goal.returns-then-mem-eq0
returns-then-mem-eq0 c = c.grant.ensures ∙ resize-null _ _ _ _ (eq-eqb _ _ c.if-mem-eq0.true)

pub returns-then-n-eq0 : goal.returns-then-n-eq0
returns-then-n-eq0 c = c.release.ensures ∙ resize-zero _ _ _ _ (ne_eqb _ _ c.if-mem-eq0.false) (eq-eqb _ _ c.if-n-eq0.true)

pub resize_block-requires : goal.resize_block-requires
resize_block-requires c = (ne_eqb _ _ c.if-mem-eq0.false, ne_eqb _ _ c.if-n-eq0.false)
