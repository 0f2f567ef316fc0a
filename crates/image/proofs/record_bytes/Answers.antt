-- `record_bytes` meets its contract: version 1 has a record of 1,572 bytes, versions 2 and 3 one of 1,580. Assumes nothing.
use mathlib.Core.Path.{sym}
use Rattle.image.specs.Ways.{by_old, by-keyed, by-new}
use Rattle.image.proofs.record_bytes.Goals as goal

pub returns-then-v-lt2 : goal.returns-then-v-lt2
returns-then-v-lt2 c = sym (by_old c.args.v c.if-v-lt2.true)

pub returns-then-v-lt4 : goal.returns-then-v-lt4
returns-then-v-lt4 c = sym (by-keyed c.args.v c.if-v-lt2.false c.if-v-lt4.true)

pub returns : goal.returns
returns c = sym (by-new c.args.v c.if-v-lt4.false)
