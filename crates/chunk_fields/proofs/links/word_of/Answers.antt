-- `word_of` is `down`: by the one test. Assumes nothing.
use borrow.Author.Tests.{eq-eqb, ne_eqb}
use Rattle.chunk_fields.specs.Links.{down}
use Rattle.chunk_fields.proofs.links.word_of.Goals as goal

pub returns-then-x-eq-NONE64 : goal.returns-then-x-eq-NONE64
returns-then-x-eq-NONE64 c = rw (eq-eqb _ _ c.if-x-eq-NONE64.true, down)

pub overflow_cast-result : goal.overflow_cast-result
overflow_cast-result c = record { fits = rw (ne_eqb _ _ c.if-x-eq-NONE64.false, down) at c.requires }

pub returns : goal.returns
returns c = rw (ne_eqb _ _ c.if-x-eq-NONE64.false, down)
