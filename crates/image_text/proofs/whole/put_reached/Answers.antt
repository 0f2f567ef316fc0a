-- `whole::put_reached` meets its contract: the walk over the tiles finds no fault, so its marks are those that the lists' walk begins with, and the tiles are
-- good. Assumes nothing.
use mathlib.Core.Path.{◌∙◌}
use native.Mathlib.Omega.{arith}
use Rattle.le.specs.Arena.{arena_words}
use Rattle.audit.specs.Zeros.{zeros-ask}
use Rattle.audit.specs.Whole.{flagging}
use Rattle.image_text.proofs.Shown.{words-shown}
use Rattle.image_text.proofs.whole.put_reached.Goals as goal

pub tile_fault-requires : goal.tile_fault-requires
tile_fault-requires c =
    let z = zeros-ask 16384 c.args.a.now c.args.r.now c.requires.arena_bytes.0 c.requires.arena_bytes.0.small c.requires.arena_bytes.1 in
    (z.0, z.2)

pub reach-requires : goal.reach-requires
reach-requires c =
    let f = c.tile_fault in
    let ok = f.ensures.is ∙ words-shown _ (arena_words c.args.a.now) c.args.r.now c.requires.arena_bytes.2 in
    (record { arena = c.requires.arena_bytes.0; room = omega (arith, f.auto.m, c.requires.arena_bytes.0.small) }, c.requires.arena_bytes.1, f.ensures.marks ok)

pub put_tiles-requires : goal.put_tiles-requires
put_tiles-requires c =
    let w = arena_words c.args.a.now in
    let f = c.tile_fault in
    let ok = f.ensures.is ∙ words-shown _ w c.args.r.now c.requires.arena_bytes.2 in
    let g = flagging w c.args.r.now _ _ f.ensures ok in
    record { bytes = (record { arena = c.requires.arena_bytes.0; room = omega (arith, f.auto.m, c.reach.auto.m, c.requires.arena_bytes.0.small) }, g); a_in_bounds = c.requires.a_in_bounds }

pub returns : goal.returns
returns c =
    c.put_tiles.ensures.by_index _ _ c.reach.ensures
