-- `grant::from4` meets its contract: each way by the steps that were followed up to it. Assumes nothing.
use Rattle.grant.specs.Chain.{after}
use Rattle.grant.specs.Ways.{keeps4, keeps-pass, from4-pass, from4-again}
use Rattle.grant.proofs.from4.Goals as goal

pub pass-g-requires : goal.pass-g-requires
pass-g-requires c = after (keeps4 c.args.b.bytes) c.step4.ensures c.requires

pub returns-in-Some : goal.returns-in-Some
returns-in-Some c =
    from4-pass c.args.b.bytes c.args.b.whole c.args.b.least c.step4.ensures c.pass-g.ensures c.in-Some.is

pub again-requires : goal.again-requires
again-requires c =
    after (keeps-pass c.args.b.bytes c.args.b.whole c.args.b.least) c.pass-g.ensures (after (keeps4 c.args.b.bytes) c.step4.ensures c.requires)

pub returns : goal.returns
returns c =
    from4-again c.args.b.bytes c.args.b.whole c.args.b.least c.step4.ensures c.pass-g.ensures c.in_default.is c.again.ensures
