-- `grant_steps_6_7::rest_for` meets its contract: by its one test. Assumes nothing.
use mathlib.Core.Path.{sym}
use borrow.Author.Tests.{lt-ltb, le-ltb}
use Rattle.sizes.specs.Limits.{large}
use Rattle.grant_steps_6_7.proofs.step_7.rest_for.Goals as goal

pub returns-then-b-lt-LARGE : goal.returns-then-b-lt-LARGE
returns-then-b-lt-LARGE c = sym (lt-ltb c.args.b large c.if-b-lt-LARGE.true)

pub returns : goal.returns
returns c = sym (le-ltb c.args.b large c.if-b-lt-LARGE.false)
