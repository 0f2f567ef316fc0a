-- `figures::figures_of` meets its contract: the walk over the tiles finds no fault, so its marks are those that the lists' walk begins with, and the top lies
-- within the arena. Assumes nothing.
use Rattle.std.proofs.Common.{◌∙◌, arith}
use Rattle.le.specs.Arena.{arena_words}
use Rattle.audit.specs.Zeros.{zeros-ask}
use Rattle.audit.specs.Whole.{flagging}
use Rattle.image_text.proofs.Shown.{words-shown}
use Rattle.image_svg.proofs.Tops.{top-inside}
use Rattle.image_svg.proofs.figures.figures_of.Goals as goal

pub tile_fault-requires : goal.tile_fault-requires
tile_fault-requires c =
    let z = zeros-ask 16384 c.args.a.now c.args.r.now c.requires.0 c.requires.0.small c.requires.1 in
    (z.0, z.2)

pub reach-requires : goal.reach-requires
reach-requires c =
    let f = c.tile_fault in
    let ok = f.ensures.is ∙ words-shown _ (arena_words c.args.a.now) c.args.r.now c.requires.2 in
    (record { arena = c.requires.0; room = omega (arith, f.auto.m, c.requires.0.small) }, c.requires.1, f.ensures.marks ok)

pub size_at-requires : goal.size_at-requires
size_at-requires c =
    let w = arena_words c.args.a.now in
    let ok = c.tile_fault.ensures.is ∙ words-shown _ w c.args.r.now c.requires.2 in
    top-inside c.args.a.now _ c.requires.0 (flagging w c.args.r.now _ _ c.tile_fault.ensures ok)
