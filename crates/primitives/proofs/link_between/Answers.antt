-- `primitives::link_between` meets its contract: `link-in-gave` says what the four calls come to. Assumes nothing.
use mathlib.Core.Path.{◌∙◌}
use native.Mathlib.Omega.{arith}
use lib.ListN.{length}
use Rattle.primitives.specs.Chunks.{Inside}
use Rattle.primitives.specs.Ends.{leads-kept}
use Rattle.primitives.specs.Stacks.{ok-length, loose-inside}
use Rattle.primitives.specs.Bins.{Ready, gap-ready, loose-narrow, link-in-gave}
use Rattle.primitives.proofs.link_between.Goals as goal

pub set_fwd-requires : goal.set_fwd-requires
set_fwd-requires c =
    let inside : Inside (length c.args.a.now) c.args.c.0 = loose-inside _ _ _ c.requires.2.ok c.args.c.0 c.requires.2.holds.0 in
    let i = inside in (omega arith, omega arith)

pub set_back-requires : goal.set_back-requires
set_back-requires c =
    let inside : Inside (length c.args.a.now) c.args.c.0 = loose-inside _ _ _ c.requires.2.ok c.args.c.0 c.requires.2.holds.0 in
    let i = inside in (omega arith, omega (arith, c.set_fwd.auto.a))

pub link_fwd-requires : goal.link_fwd-requires
link_fwd-requires c =
    let ends : Ready (length c.args.a.now) c.args.p.0 c.args.n.0 = gap-ready _ _ _ _ _ _ _ _ c.requires.2.ok c.requires.2.holds.1.gap in (
      c.requires.1,
      ok-length _ _ _ c.requires.2.ok,
      leads-kept _ _ _ (c.set_back.auto.a ∙ c.set_fwd.auto.a) (ends).pin,
      loose-narrow _ _ _ c.requires.2.ok _ c.requires.2.holds.0,
    )

pub link_back-requires : goal.link_back-requires
link_back-requires c =
    let ends : Ready (length c.args.a.now) c.args.p.0 c.args.n.0 = gap-ready _ _ _ _ _ _ _ _ c.requires.2.ok c.requires.2.holds.1.gap in (
      c.requires.1,
      c.link_fwd.auto.r ∙ ok-length _ _ _ c.requires.2.ok,
      leads-kept _ _ _ (c.link_fwd.auto.a ∙ c.set_back.auto.a ∙ c.set_fwd.auto.a) (ends).nin,
      loose-narrow _ _ _ c.requires.2.ok _ c.requires.2.holds.0,
    )

pub returns : goal.returns
returns c =
    λ h xs ys o lo g. link-in-gave h _ _ o c.args.j c.args.c.0 _ _ xs ys _ _ _ _ _ _ c.requires.0 c.requires.1 lo g c.set_fwd.ensures c.set_back.ensures
    c.link_fwd.ensures.0 c.link_fwd.ensures.1 c.link_back.ensures.0 c.link_back.ensures.1
