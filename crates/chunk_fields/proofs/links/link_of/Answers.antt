-- `link_of` is `up`: by the one test. Assumes nothing.
use borrow.Author.Tests.{eq-eqb, ne_eqb}
use Rattle.machine.specs.View.{up}
use Rattle.chunk_fields.proofs.links.link_of.Goals as goal

pub returns-then-v-eq-NONE32 : goal.returns-then-v-eq-NONE32
returns-then-v-eq-NONE32 c = rw (eq-eqb _ _ c.if-v-eq-NONE32.true, up)

pub returns : goal.returns
returns c = rw (ne_eqb _ _ c.if-v-eq-NONE32.false, up) c.from.ensures
