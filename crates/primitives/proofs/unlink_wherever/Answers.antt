-- `primitives::unlink_wherever` meets its contract: the links, and the ring of the size's bin where the chunk is large. Assumes nothing.
use native.Mathlib.Omega.{arith}
use Rattle.sizes.specs.BinLaws.{bin_of-large}
use Rattle.primitives.specs.Rings.{left-linked, wherever-small, wherever-large}
use Rattle.primitives.proofs.unlink_wherever.Goals as goal

pub returns-then-z-lt-LARGE : goal.returns-then-z-lt-LARGE
returns-then-z-lt-LARGE c =
    λ h j o m. wherever-small h _ _ o j c.args.c.0 c.args.z m c.if-z-lt-LARGE.true (c.link_past_wherever.ensures h j o m)

pub renew_ring-requires : goal.renew_ring-requires
renew_ring-requires c =
    let h = c.requires.heap in
    let o = c.requires.ok in
    let b = c.requires.holds in
    let e = c.bin_of.ensures in (
      omega (arith, e.0, bin_of-large c.args.z c.if-z-lt-LARGE.false),
      e.1,
      record { heap = _; linked = left-linked h _ _ o b.bin-no c.args.c.0 b.home.here (c.link_past_wherever.ensures h b.bin-no o b.home); holds = tt },
    )

pub returns : goal.returns
returns c =
    λ h j o m.
    let g = c.link_past_wherever.ensures h j o m in
    wherever-large h _ _ o j c.args.c.0 c.args.z _ m c.if-z-lt-LARGE.false c.bin_of.ensures.0 g
    (c.renew_ring.ensures _ (left-linked h _ _ o j c.args.c.0 m.here g))
