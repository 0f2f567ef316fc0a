-- `grant::pass` meets its contract: each way by the steps that were followed up to it. Assumes nothing.
use Rattle.grant.specs.Chain.{after}
use Rattle.grant.specs.Ways.{keeps5, keeps6, keeps7, pass5, pass6, pass7, pass9}
use Rattle.grant.proofs.pass.Goals as goal

pub returns-in-Some : goal.returns-in-Some
returns-in-Some c = pass5 c.args.b.bytes c.args.b.whole c.args.b.least c.step5-g5.ensures c.in-Some.is

pub step6-g6-requires : goal.step6-g6-requires
step6-g6-requires c = after (keeps5 c.args.b.bytes c.args.b.whole c.args.b.least) c.step5-g5.ensures c.requires

pub returns-in-Some-g6 : goal.returns-in-Some-g6
returns-in-Some-g6 c =
    pass6 c.args.b.bytes c.args.b.whole c.args.b.least c.step5-g5.ensures c.in_default.is c.step6-g6.ensures c.in-Some-g6.is

pub step7-g7-requires : goal.step7-g7-requires
step7-g7-requires c =
    after (keeps6 c.args.b.bytes c.args.b.whole c.args.b.least) c.step6-g6.ensures (after (keeps5 c.args.b.bytes c.args.b.whole c.args.b.least) c.step5-g5.ensures c.requires)

pub returns-in-Some-g7 : goal.returns-in-Some-g7
returns-in-Some-g7 c =
    pass7 c.args.b.bytes c.args.b.whole c.args.b.least c.step5-g5.ensures c.in_default.is c.step6-g6.ensures c.in_default-g6.is c.step7-g7.ensures c.in-Some-g7.is

pub step9-requires : goal.step9-requires
step9-requires c =
    after (keeps7 c.args.b.bytes c.args.b.whole c.args.b.least) c.step7-g7.ensures (after (keeps6 c.args.b.bytes c.args.b.whole c.args.b.least) c.step6-g6.ensures (after (keeps5 c.args.b.bytes c.args.b.whole c.args.b.least) c.step5-g5.ensures c.requires))

pub returns : goal.returns
returns c =
    pass9 c.args.b.bytes c.args.b.whole c.args.b.least c.step5-g5.ensures c.in_default.is c.step6-g6.ensures c.in_default-g6.is c.step7-g7.ensures c.in_default-g7.is c.step9.ensures
