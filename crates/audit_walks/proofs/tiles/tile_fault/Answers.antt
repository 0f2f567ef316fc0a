-- `tiles::tile_fault` meets its contract: the loop keeps TileIn, and each way out is a lemma of TileTurn. The measure is what is left of the arena.
-- Assumes nothing.
use mathlib.Core.Path.{refl, ◌∙◌}
use Prim.Native.Nat.{ℕ, ◌/◌}
use native.Mathlib.Omega.{arith}
use lib.ListN.{length-set}
use Rattle.le.specs.Arena.{arena_words}
use Rattle.audit_walks.specs.TileTurn.{arena-length, seen, tile-big, tile-enter, tile-turn, tile-bad, tile-large, tile-top, tile-sound}
use Rattle.audit_walks.proofs.tiles.tile_fault.Goals as goal

pub loop-top-init : goal.loop-top-init
loop-top-init c =
    let len = arena-length c.args.a.now c.requires.0.arena in
    (refl, omega arith, tile-enter (arena_words c.args.a.now) c.args.m.now c.args.top.0 (omega (arith, len, c.requires.0.arena.least)) c.requires.1)

pub size_word_at-x-requires : goal.size_word_at-x-requires
size_word_at-x-requires c =
    let l = c.loop-top in
    let len = arena-length c.args.a.now c.requires.0.arena in
    (omega (arith, l.invariant.2.even), omega (arith, l.invariant.2.even, l.invariant.2.before, len, c.requires.0.arena.even))

pub overflow_cast-result : goal.overflow_cast-result
overflow_cast-result c =
    let l = c.loop-top in
    let len = arena-length c.args.a.now c.requires.0.arena in
    omega (arith, l.invariant.2.before, len, c.requires.0.arena.small)

pub shape_of-m-then-not-tile_ok : goal.shape_of-m-then-not-tile_ok
shape_of-m-then-not-tile_ok c = c.loop-top.invariant.0

pub returns-then-not-tile_ok : goal.returns-then-not-tile_ok
returns-then-not-tile_ok c =
    let l = c.loop-top in
    let w = arena_words c.args.a.now in
    let v = seen w l.o _ _ _ c.size_word_at-x.ensures c.tile_ok.ensures refl in
    tile-bad w _ _ _ _ l.invariant.2 (v.ok ∙ c.if-not-tile_ok.true)

pub overflow_cast-result-then-room-s-2 : goal.overflow_cast-result-then-room-s-2
overflow_cast-result-then-room-s-2 c =
    let l = c.loop-top in
    let len = arena-length c.args.a.now c.requires.0.arena in
    omega (arith, l.invariant.2.before, len, c.requires.0.arena.small)

pub shape_of-m-then-room-s-2 : goal.shape_of-m-then-room-s-2
shape_of-m-then-room-s-2 c = c.loop-top.invariant.0

pub returns-then-room-s-2 : goal.returns-then-room-s-2
returns-then-room-s-2 c =
    let l = c.loop-top in
    let w = arena_words c.args.a.now in
    let len = arena-length c.args.a.now c.requires.0.arena in
    let v = seen w l.o _ _ _ c.size_word_at-x.ensures c.tile_ok.ensures c.size-s.ensures in
    tile-large w _ _ _ _ l.invariant.2 (v.ok ∙ c.if-not-tile_ok.false) (omega (arith, v.size, len, l.invariant.2.before, l.invariant.1, c.if-room-s-2.true))

pub overflow_cast-result-then-top-o : goal.overflow_cast-result-then-top-o
overflow_cast-result-then-top-o c =
    let l = c.loop-top in
    let len = arena-length c.args.a.now c.requires.0.arena in
    omega (arith, l.invariant.2.before, len, c.requires.0.arena.small)

pub shape_of-m-then-top-o : goal.shape_of-m-then-top-o
shape_of-m-then-top-o c = c.loop-top.invariant.0

pub returns-then-top-o : goal.returns-then-top-o
returns-then-top-o c =
    let l = c.loop-top in
    let w = arena_words c.args.a.now in
    let len = arena-length c.args.a.now c.requires.0.arena in
    let v = seen w l.o _ _ _ c.size_word_at-x.ensures c.tile_ok.ensures c.size-s.ensures in
    tile-top w _ _ _ _ l.invariant.2 (v.ok ∙ c.if-not-tile_ok.false) (omega (arith, v.size, len, l.invariant.2.before, l.invariant.1, c.if-room-s-2.false, c.if-room-s.true)) c.if-top-o.true

pub shape_of-m-then-room-s : goal.shape_of-m-then-room-s
shape_of-m-then-room-s c = c.loop-top.invariant.0

pub returns-then-room-s : goal.returns-then-room-s
returns-then-room-s c =
    let l = c.loop-top in
    let w = arena_words c.args.a.now in
    let len = arena-length c.args.a.now c.requires.0.arena in
    let v = seen w l.o _ _ _ c.size_word_at-x.ensures c.tile_ok.ensures c.size-s.ensures in
    tile-sound w _ _ _ l.invariant.2 (v.ok ∙ c.if-not-tile_ok.false) (omega (arith, v.size, len, l.invariant.2.before, l.invariant.1, c.if-room-s-2.false, c.if-room-s.true)) c.if-top-o.false

pub bounds-m-o : goal.bounds-m-o
bounds-m-o c =
    let l = c.loop-top in
    let len = arena-length c.args.a.now c.requires.0.arena in
    omega (arith, l.invariant.2.before, len, c.requires.0.room, l.invariant.0)

pub overflow_add-o : goal.overflow_add-o
overflow_add-o c =
    let len = arena-length c.args.a.now c.requires.0.arena in
    omega (arith, len, c.requires.0.arena.small)

pub loop-top-smaller : goal.loop-top-smaller
loop-top-smaller c =
    let l = c.loop-top in
    let w = arena_words c.args.a.now in
    let len = arena-length c.args.a.now c.requires.0.arena in
    let v = seen w l.o _ _ _ c.size_word_at-x.ensures c.tile_ok.ensures c.size-s.ensures in
    omega (arith, v.size, len, l.invariant.2.before, l.invariant.1, c.if-room-s.false, tile-big w l.o (v.ok ∙ c.if-not-tile_ok.false))

pub loop-top-preserved : goal.loop-top-preserved
loop-top-preserved c =
    let l = c.loop-top in
    let w = arena_words c.args.a.now in
    let len = arena-length c.args.a.now c.requires.0.arena in
    let v = seen w l.o _ _ _ c.size_word_at-x.ensures c.tile_ok.ensures c.size-s.ensures in (
      length-set {A = ℕ} l.m (l.o / 16) 1 ∙ l.invariant.0,
      omega (arith, l.invariant.1, c.if-room-s.false),
      rw v.size (tile-turn w _ _ _ l.invariant.2 (v.ok ∙ c.if-not-tile_ok.false) (omega (arith, v.size, len, l.invariant.2.before, l.invariant.1, c.if-room-s.false)) (omega (arith, l.invariant.2.before, len, c.requires.0.room, l.invariant.0))),
    )
