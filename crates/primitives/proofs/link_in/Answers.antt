-- `primitives::link_in` meets its contract: the links, and the skip links that follow them. Assumes nothing.
use Rattle.primitives.specs.Rings.{came-linked, came-has, link-in-whole}
use Rattle.primitives.proofs.link_in.Goals as goal

pub link_between-requires : goal.link_between-requires
link_between-requires c =
    (c.requires.0, c.requires.1, record { heap = c.requires.2.heap; ok = c.requires.2.ok; holds = (c.requires.2.holds.0, c.requires.2.holds.1) })

pub skips_in-requires : goal.skips_in-requires
skips_in-requires c =
    let h = c.requires.2.heap in
    let o = c.requires.2.ok in
    let lo = c.requires.2.holds.0 in
    let b = c.requires.2.holds.1 in
    let m = c.link_between.ensures h b.xs b.ys o lo b.gap in (
      c.requires.1,
      record {
        heap = _;
        linked = came-linked h _ _ o c.args.j c.args.c.0 _ _ b.xs b.ys c.requires.0 c.requires.1 lo b.gap c.requires.2.holds.2 m;
        holds = came-has h _ _ o c.args.j c.args.c.0 b.xs b.ys c.requires.0 c.requires.1;
      },
    )

pub returns : goal.returns
returns c =
    λ h xs ys o lo g f.
    let m = c.link_between.ensures h xs ys o lo g in
    link-in-whole h _ _ o c.args.j c.args.c.0 xs ys c.requires.0 c.requires.1 m
    (c.skips_in.ensures _ (came-linked h _ _ o c.args.j c.args.c.0 _ _ xs ys c.requires.0 c.requires.1 lo g f m)
    (came-has h _ _ o c.args.j c.args.c.0 xs ys c.requires.0 c.requires.1))
