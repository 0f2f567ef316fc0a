-- `grant::grant` meets its contract: a chunk from the cache, and the record but for its list's two words as it was; or the steps behind, and the whole record. Assumes nothing.
use native.Mathlib.Omega.{arith}
use Rattle.primitives.specs.Stacks.{ok-length}
use Rattle.grant.specs.Chain.{after}
use Rattle.grant.specs.Ways.{keeps1, grant1, grant2}
use Rattle.grant.specs.FromCache.{found-small, found-only}
use Rattle.grant.proofs.grant.Goals as goal

pub cache_list-requires : goal.cache_list-requires
cache_list-requires c = (c.args.b.least, found-small c.args.b.bytes _ _ _ _ _ _ c.requires.0 c.step1-g1.ensures c.in-Some.is)

pub write_changed-requires : goal.write_changed-requires
write_changed-requires c =
    let k = c.cache_list.ensures in (
      c.requires.1,
      omega (arith, c.step1-g1.auto.r, ok-length _ _ _ c.requires.0.ok),
      (k.1, found-only c.args.b.bytes _ _ _ _ _ _ c.requires.0 c.step1-g1.ensures c.in-Some.is c.args.control.now _ c.requires.2 k.0 k.1),
    )

pub returns-in-Some : goal.returns-in-Some
returns-in-Some c =
    (grant1 c.args.b.bytes c.args.b.whole c.args.b.least c.step1-g1.ensures c.in-Some.is, c.write_changed.ensures)

pub seek-g-requires : goal.seek-g-requires
seek-g-requires c =
    after (keeps1 c.args.b.bytes c.args.b.whole c.args.b.least) c.step1-g1.ensures c.requires.0

pub write_changed-requires-2 : goal.write_changed-requires-2
write_changed-requires-2 c =
    (c.requires.1, omega (arith, c.seek-g.auto.r, c.step1-g1.auto.r, ok-length _ _ _ c.requires.0.ok), tt)

pub returns : goal.returns
returns c =
    (grant2 c.args.b.bytes c.args.b.whole c.args.b.least c.step1-g1.ensures c.in_default.is c.seek-g.ensures, c.write_changed-2.ensures)
