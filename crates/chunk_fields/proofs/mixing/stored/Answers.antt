-- `chunk_fields::mixing::stored` meets its contract: by the one test (`stored-mixed`, `stored-plain`). Assumes nothing.
use mathlib.Core.Path.{sym}
use Rattle.machine.specs.MixingLaws.{stored-mixed, stored-plain}
use Rattle.chunk_fields.proofs.mixing.stored.Goals as goal

pub returns-then-d-eq-MIXED : goal.returns-then-d-eq-MIXED
returns-then-d-eq-MIXED c = let a = c.args in sym (stored-mixed a.d a.c.0 a.x.0 c.if-d-eq-MIXED.true)

pub returns : goal.returns
returns c = let a = c.args in sym (stored-plain a.d a.c.0 a.x.0 c.if-d-eq-MIXED.false)
