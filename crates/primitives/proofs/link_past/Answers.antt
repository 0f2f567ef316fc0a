-- `primitives::link_past` meets its contract: `unlink-gave` says what the two calls on the ends of the parts come to. Assumes nothing.
use mathlib.Core.Path.{◌∙◌}
use native.Mathlib.Omega.{arith}
use lib.ListN.{length}
use Rattle.primitives.specs.Chunks.{Inside}
use Rattle.primitives.specs.Ends.{leads-kept}
use Rattle.primitives.specs.Stacks.{ok-length}
use Rattle.primitives.specs.Bins.{bin-below, home-ready, home-inside, unlink-gave}
use Rattle.primitives.proofs.link_past.Goals as goal

pub fwd_at-n-requires : goal.fwd_at-n-requires
fwd_at-n-requires c =
    let inside : Inside (length c.args.a.now) c.args.c.0 = home-inside _ _ _ _ _ c.requires.ok c.requires.holds.here in
    let i = inside in (omega arith, omega arith)

pub back_at-p-requires : goal.back_at-p-requires
back_at-p-requires c =
    let inside : Inside (length c.args.a.now) c.args.c.0 = home-inside _ _ _ _ _ c.requires.ok c.requires.holds.here in
    let i = inside in (omega arith, omega arith)

pub link_fwd-requires : goal.link_fwd-requires
link_fwd-requires c =
    let e = home-ready _ _ _ _ _ _ _ c.requires.ok c.requires.holds.here c.fwd_at-n.ensures c.back_at-p.ensures in
    (bin-below _ _ _ c.requires.ok _ _ c.requires.holds.here, ok-length _ _ _ c.requires.ok, e.pin, e.nnarrow)

pub link_back-requires : goal.link_back-requires
link_back-requires c =
    let e = home-ready _ _ _ _ _ _ _ c.requires.ok c.requires.holds.here c.fwd_at-n.ensures c.back_at-p.ensures in
    (bin-below _ _ _ c.requires.ok _ _ c.requires.holds.here, c.link_fwd.auto.r ∙ ok-length _ _ _ c.requires.ok, leads-kept _ _ _ c.link_fwd.auto.a e.nin, e.pnarrow)

pub returns : goal.returns
returns c =
    record {
      does = λ h o m.
          unlink-gave h _ _ o _ _ _ _ _ _ _ _ m c.fwd_at-n.ensures c.back_at-p.ensures c.link_fwd.ensures.0 c.link_fwd.ensures.1 c.link_back.ensures.0 c.link_back.ensures.1;
    }
