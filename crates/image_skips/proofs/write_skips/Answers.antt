-- `image_skips::write_skips` meets its contract: unsorted, then the rings. Assumes nothing.
use Rattle.image_skips.specs.SkipTurns.{puts-linked, skips-both}
use Rattle.image_skips.proofs.write_skips.Goals as goal

pub write_rings-requires : goal.write_rings-requires
write_rings-requires c =
    let o = c.requires.linked in
    record { heap = c.requires.heap; linked = puts-linked c.requires.heap _ _ o (c.write_puts.ensures c.requires.heap o); holds = tt }

pub returns : goal.returns
returns c = λ h o. skips-both h _ _ o (c.write_puts.ensures h o) (c.write_rings.ensures h)
