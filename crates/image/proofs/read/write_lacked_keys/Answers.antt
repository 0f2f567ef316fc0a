-- `write_lacked_keys` meets its contract: nothing from version 2 on, else the keys. Assumes nothing.
use Rattle.image.specs.Completed.{old-lacking, keys-written, no-keys-written}
use Rattle.image.proofs.read.write_lacked_keys.Goals as goal

pub returns-then-v-ge2 : goal.returns-then-v-ge2
returns-then-v-ge2 c = λ h o. no-keys-written _ h _ c.if-v-ge2.true

pub write_keys-requires : goal.write_keys-requires
write_keys-requires c = old-lacking c.requires c.if-v-ge2.false

pub returns : goal.returns
returns c = λ h o. keys-written h _ c.requires.first c.if-v-ge2.false o c.write_keys.ensures
