-- `grant::again` meets its contract: by the fast lists. Assumes nothing.
use Rattle.primitives.specs.Stacks.{ok-length}
use Rattle.grant.specs.Chain.{after}
use Rattle.grant.specs.Ways.{keeps-all, again-over, again-pass}
use Rattle.grant.proofs.again.Goals as goal

pub any_fast-requires : goal.any_fast-requires
any_fast-requires c = ok-length _ _ _ c.requires.ok

pub pass-requires : goal.pass-requires
pass-requires c = after keeps-all c.consolidate.ensures c.requires

pub returns-then-any_fast : goal.returns-then-any_fast
returns-then-any_fast c =
    again-pass c.args.b.bytes c.args.b.whole c.args.b.least _ c.any_fast.ensures c.if-any_fast.true c.consolidate.ensures c.pass.ensures

pub returns : goal.returns
returns c = again-over c.args.b.bytes c.args.b.whole c.args.b.least _ _ _ c.any_fast.ensures c.if-any_fast.false
