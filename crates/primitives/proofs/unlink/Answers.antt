-- `primitives::unlink` meets its contract: the links, and the skip links that follow them. Assumes nothing.
use Rattle.primitives.specs.Bins.{bin-below}
use Rattle.primitives.specs.Rings.{left-linked, unlink-follows}
use Rattle.primitives.proofs.unlink.Goals as goal

pub skips_out-requires : goal.skips_out-requires
skips_out-requires c =
    let h = c.requires.heap in
    let o = c.requires.ok in (
      bin-below h _ _ o _ _ c.requires.holds.here,
      record { heap = _; linked = left-linked h _ _ o c.args.j c.args.c.0 c.requires.holds.here (c.link_past.ensures.does h o c.requires.holds); holds = tt },
    )

pub returns : goal.returns
returns c =
    record {
      does = λ h o i.
          let m = c.link_past.ensures.does h o i in
          unlink-follows h _ _ o c.args.j c.args.c.0 i.here m
          (c.skips_out.ensures _ (left-linked h _ _ o c.args.j c.args.c.0 i.here m));
    }
