-- `grant::seek` meets its contract: each way by the steps that were followed up to it. Assumes nothing.
use Rattle.grant.specs.Chain.{after}
use Rattle.grant.specs.Ways.{keeps2, keeps3, seek2, seek3, seek4}
use Rattle.grant.proofs.seek.Goals as goal

pub returns-in-Some : goal.returns-in-Some
returns-in-Some c = seek2 c.args.b.bytes c.args.b.whole c.args.b.least c.step2-g2.ensures c.in-Some.is

pub step3-g3-requires : goal.step3-g3-requires
step3-g3-requires c = after (keeps2 c.args.b.bytes c.args.b.whole c.args.b.least) c.step2-g2.ensures c.requires

pub returns-in-Some-g3 : goal.returns-in-Some-g3
returns-in-Some-g3 c =
    seek3 c.args.b.bytes c.args.b.whole c.args.b.least c.step2-g2.ensures c.in_default.is c.step3-g3.ensures c.in-Some-g3.is

pub from4-requires : goal.from4-requires
from4-requires c =
    after (keeps3 c.args.b.bytes c.args.b.whole c.args.b.least) c.step3-g3.ensures (after (keeps2 c.args.b.bytes c.args.b.whole c.args.b.least) c.step2-g2.ensures c.requires)

pub returns : goal.returns
returns c =
    seek4 c.args.b.bytes c.args.b.whole c.args.b.least c.step2-g2.ensures c.in_default.is c.step3-g3.ensures c.in_default-g3.is c.from4.ensures
