-- `audit::is_edition` meets its contract, comparison by comparison. Assumes nothing.
use borrow.Author.Tests.{eq-eqb, ne_eqb}
use Rattle.sizes.specs.Limits.{plain}
use Rattle.audit.proofs.is_edition.Goals as goal

pub returns-then-d-eq-PLAIN : goal.returns-then-d-eq-PLAIN
returns-then-d-eq-PLAIN c = rw (eq-eqb c.args.d plain c.if-d-eq-PLAIN.true)

pub returns-else-d-eq-PLAIN : goal.returns-else-d-eq-PLAIN
returns-else-d-eq-PLAIN c = rw (ne_eqb c.args.d plain c.if-d-eq-PLAIN.false)
