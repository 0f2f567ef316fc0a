-- `consolidate::step4` meets its contract: by the size and by the fast lists. Assumes nothing.
use Rattle.primitives.specs.Stacks.{ok-length}
use Rattle.grant.specs.Step4.{small4, none4, some4}
use Rattle.grant.proofs.step_4.step4.Goals as goal

pub returns-then-b-lt-LARGE : goal.returns-then-b-lt-LARGE
returns-then-b-lt-LARGE c = small4 c.args.b.bytes _ _ c.if-b-lt-LARGE.true

pub any_fast-requires : goal.any_fast-requires
any_fast-requires c = ok-length _ _ _ c.requires.ok

pub returns-then-any_fast : goal.returns-then-any_fast
returns-then-any_fast c = some4 c.args.b.bytes _ _ _ _ _ c.if-b-lt-LARGE.false c.any_fast.ensures c.if-any_fast.true c.consolidate.ensures

pub returns-else-any_fast : goal.returns-else-any_fast
returns-else-any_fast c = none4 c.args.b.bytes _ _ _ c.if-b-lt-LARGE.false c.any_fast.ensures c.if-any_fast.false
