-- `write_lacked_skips` meets its contract: nothing from version 3 on, else the skip links. Assumes nothing.
use Rattle.image_skips.specs.SkipTurns.{sound-links, sound-skips}
use Rattle.image.specs.Completed.{skips-written, no-skips-written}
use Rattle.image.proofs.read.write_lacked_skips.Goals as goal

pub returns-then-v-ge3 : goal.returns-then-v-ge3
returns-then-v-ge3 c = λ h o. no-skips-written _ h _ c.if-v-ge3.true

pub write_skips-requires : goal.write_skips-requires
write_skips-requires c = let p = c.requires in sound-links p.heap _ _ p.sound

pub returns : goal.returns
returns c = λ h o. skips-written _ h _ c.if-v-ge3.false (sound-skips h _ _ o c.write_skips.ensures)
