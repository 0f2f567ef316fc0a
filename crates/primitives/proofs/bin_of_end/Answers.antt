-- `primitives::bin_of_end` meets its contract: by its one test. Assumes nothing.
use mathlib.Core.Path.{sym, ◌∙◌}
use Rattle.primitives.specs.Ends.{bin_by-same, bin_by-other}
use Rattle.primitives.proofs.bin_of_end.Goals as goal

pub returns-then-v-c : goal.returns-then-v-c
returns-then-v-c c = let a = c.args in sym (bin_by-same a.v a.c.0 a.z c.if-v-c.true)

pub returns : goal.returns
returns c = let a = c.args in c.bin_of.ensures.0 ∙ sym (bin_by-other a.v a.c.0 a.z c.if-v-c.false)
