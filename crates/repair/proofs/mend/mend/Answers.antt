-- `mend` meets its contract: `mended-by` says what the walk, the tiles, the record and the free chunks come to. Assumes nothing.
use mathlib.Core.Path.{◌∙◌}
use native.Mathlib.Omega.{arith}
use Prim.Native.Nat.{ℕ, ◌*◌, ◌^◌, ◌≤◌, ◌<◌}
use lib.ListN.{length, get_or}
use Rattle.le.specs.Arena.{arena_words}
use Rattle.le.specs.ArenaLaws.{length-arena_words}
use Rattle.audit.specs.Whole.{flagging}
use Rattle.repair.specs.Repair.{free?}
use Rattle.audit_reached.specs.Tiled.{Tiled, tiled-good}
use Rattle.repair.proofs.Whole.{reached-told, anew-low, anew-has, mended-by}
use Rattle.repair.proofs.mend.mend.Goals as goal

pub overflow_cast-top : goal.overflow_cast-top
overflow_cast-top c = omega (arith, c.slice_known-4-1.given 1)

pub tile_fault-requires : goal.tile_fault-requires
tile_fault-requires c = (c.requires.0, c.requires.3)

pub reach-requires : goal.reach-requires
reach-requires c =
    let good : Tiled (arena_words c.args.a.now) c.args.r.now = tiled-good c.args.v _ _ c.requires.2 in
    let f = c.tile_fault in
    (record { arena = c.requires.0.arena; room = omega (arith, f.auto.m, c.requires.0.room) }, c.requires.1, f.ensures.marks (f.ensures.is ∙ (good).tiles))

pub write_tiles-t-requires : goal.write_tiles-t-requires
write_tiles-t-requires c =
    let good : Tiled (arena_words c.args.a.now) c.args.r.now = tiled-good c.args.v _ _ c.requires.2 in
    let f = c.tile_fault in
    (record { arena = c.requires.0.arena; room = omega (arith, f.auto.m, c.reach.auto.m, c.requires.0.room) }, flagging (arena_words c.args.a.now) c.args.r.now _ _ f.ensures (f.ensures.is ∙ (good).tiles))

pub clear_lists-requires : goal.clear_lists-requires
clear_lists-requires c =
    let good : Tiled (arena_words c.args.a.now) c.args.r.now = tiled-good c.args.v _ _ c.requires.2 in
    let w = arena_words c.args.a.now in
    let small : 8 * length w ≤ 262144 = omega (arith, length-arena_words c.args.a.now, c.requires.0.arena.small) in
    let halves : (i : ℕ) → i < 396 → get_or c.args.r.now i 0 < 2 ^ 32 = λ i l. omega (arith, c.slice_known-4-1.given i) in
    let anew = c.write_tiles-t.ensures (free? c.args.v w c.args.r.now) (reached-told c.args.v w c.args.r.now _ c.reach.ensures) in
    (c.requires.1, anew-low c.args.v w c.args.r.now (good) small halves _ _ anew)

pub put_all-requires : goal.put_all-requires
put_all-requires c =
    let good : Tiled (arena_words c.args.a.now) c.args.r.now = tiled-good c.args.v _ _ c.requires.2 in
    let w = arena_words c.args.a.now in
    let small : 8 * length w ≤ 262144 = omega (arith, length-arena_words c.args.a.now, c.requires.0.arena.small) in
    let halves : (i : ℕ) → i < 396 → get_or c.args.r.now i 0 < 2 ^ 32 = λ i l. omega (arith, c.slice_known-4-1.given i) in
    let anew = c.write_tiles-t.ensures (free? c.args.v w c.args.r.now) (reached-told c.args.v w c.args.r.now _ c.reach.ensures) in
    anew-has c.args.v w c.args.r.now (good) small halves _ _ _ anew c.clear_lists.ensures

pub returns : goal.returns
returns c =
    let good : Tiled (arena_words c.args.a.now) c.args.r.now = tiled-good c.args.v _ _ c.requires.2 in
    let w = arena_words c.args.a.now in
    let small : 8 * length w ≤ 262144 = omega (arith, length-arena_words c.args.a.now, c.requires.0.arena.small) in
    let halves : (i : ℕ) → i < 396 → get_or c.args.r.now i 0 < 2 ^ 32 = λ i l. omega (arith, c.slice_known-4-1.given i) in
    let anew = c.write_tiles-t.ensures (free? c.args.v w c.args.r.now) (reached-told c.args.v w c.args.r.now _ c.reach.ensures) in
    mended-by c.args.v w c.args.r.now (good) small halves _ _ _ anew c.clear_lists.ensures _ _ c.put_all.ensures
