-- `anew::write_tiles` meets its contract: the loop keeps AnewIn, a turn is one of the two of AnewTurn, and the top's size word ends it. The measure is what is left before
-- the top. Assumes nothing.
use mathlib.Core.Path.{◌≡◌, ap, ◌∙◌}
use native.Mathlib.Omega.{arith}
use lib.ListN.{length}
use borrow.Author.Rules.{rules}
use Rattle.le.specs.Arena.{arena_words}
use Rattle.machine.specs.View.{size_at}
use Rattle.audit_walks.specs.TileTurn.{arena-length}
use Rattle.repair.proofs.AnewTurn.{anew-enter, anew-low, anew-read, anew-size, anew-turn-free, anew-turn-held, anew-last}
use Rattle.repair.proofs.anew.write_tiles.Goals as goal
use Rattle.repair.proofs.anew.write_tiles.Goals.{then-m-o-eq-UNMET, else-m-o-eq-UNMET}

pub loop-o-init : goal.loop-o-init
loop-o-init c =
    (search rules, anew-enter (arena_words c.args.a.now) c.args.m.now c.args.top.0 c.requires.1)

pub size_at-s-requires : goal.size_at-s-requires
size_at-s-requires c =
    let l = c.loop-o in
    let w = arena_words c.args.a.now in
    let len = arena-length c.args.a.now c.requires.0.arena in
    let low = anew-low w c.args.m.now _ _ _ _ l.invariant.1 in
    (omega (arith, l.invariant.1.even), omega (arith, low.0, low.1, len, l.invariant.0))

pub bounds-m-o : goal.bounds-m-o
bounds-m-o c =
    let l = c.loop-o in
    let w = arena_words c.args.a.now in
    let len = arena-length c.args.a.now c.requires.0.arena in
    let low = anew-low w c.args.m.now _ _ _ _ l.invariant.1 in
    omega (arith, low.0, low.1, len, c.requires.0.room)

pub end_stretch-requires : goal.end_stretch-requires
end_stretch-requires c =
    let l = c.loop-o in
    let w = arena_words c.args.a.now in
    let len = arena-length c.args.a.now c.requires.0.arena in
    let low = anew-low w c.args.m.now _ _ _ _ l.invariant.1 in
    let z = anew-size w c.args.m.now _ _ _ _ l.invariant.1 c.loop-o-test.true in
    let r = c.size_at-s in
    let e : r.result ≡ size_at w l.o = r.ensures ∙ anew-read w c.args.m.now _ _ _ _ l.invariant.1 in (
      l.invariant.1.even,
      l.invariant.1.whole,
      l.invariant.1.less,
      omega (arith, z.1, e, low.1, len, l.invariant.0),
      omega (arith, c.requires.0.arena.small, l.invariant.0),
      omega (arith, z.0, e),
    )

pub overflow_add-g : goal.overflow_add-g
overflow_add-g c =
    let l = c.loop-o in
    let w = arena_words c.args.a.now in
    let len = arena-length c.args.a.now c.requires.0.arena in
    let low = anew-low w c.args.m.now _ _ _ _ l.invariant.1 in
    let z = anew-size w c.args.m.now _ _ _ _ l.invariant.1 c.loop-o-test.true in
    let r = c.size_at-s in
    let e : r.result ≡ size_at w l.o = r.ensures ∙ anew-read w c.args.m.now _ _ _ _ l.invariant.1 in
    omega (arith, z.1, e, low.1, len, c.requires.0.arena.small, l.invariant.1.less)

pub overflow_add-o : goal.overflow_add-o
overflow_add-o c =
    let l = c.loop-o in
    let w = arena_words c.args.a.now in
    let len = arena-length c.args.a.now c.requires.0.arena in
    let low = anew-low w c.args.m.now _ _ _ _ l.invariant.1 in
    let z = anew-size w c.args.m.now _ _ _ _ l.invariant.1 c.loop-o-test.true in
    let r = c.size_at-s in
    let e : r.result ≡ size_at w l.o = r.ensures ∙ anew-read w c.args.m.now _ _ _ _ l.invariant.1 in
    omega (arith, z.1, e, low.1, len, c.requires.0.arena.small)

pub loop-o-smaller : goal.loop-o-smaller
loop-o-smaller c =
    let l = c.loop-o in
    let w = arena_words c.args.a.now in
    let z = anew-size w c.args.m.now _ _ _ _ l.invariant.1 c.loop-o-test.true in
    let r = c.size_at-s in
    let e : r.result ≡ size_at w l.o = r.ensures ∙ anew-read w c.args.m.now _ _ _ _ l.invariant.1 in
    omega (arith, z.0, z.1, e, c.loop-o-test.true)

pub overflow_sub-t : goal.overflow_sub-t
overflow_sub-t c =
    omega (arith, c.loop-o.invariant.1.less)

pub overflow_sub-n : goal.overflow_sub-n
overflow_sub-n c =
    let l = c.loop-o in
    let w = arena_words c.args.a.now in
    let len = arena-length c.args.a.now c.requires.0.arena in
    let low = anew-low w c.args.m.now _ _ _ _ l.invariant.1 in
    omega (arith, low.0, low.1, len, l.invariant.0)

pub set_size-requires : goal.set_size-requires
set_size-requires c =
    let l = c.loop-o in
    let w = arena_words c.args.a.now in
    let len = arena-length c.args.a.now c.requires.0.arena in
    let low = anew-low w c.args.m.now _ _ _ _ l.invariant.1 in
    (omega (arith, l.invariant.1.even, l.invariant.1.whole, l.invariant.1.less), omega (arith, low.0, low.1, len, l.invariant.0), omega (arith, l.invariant.0, c.requires.0.arena.small))

pub shape_of-a : goal.shape_of-a
shape_of-a c =
    omega (arith, c.set_size.auto.a, c.loop-o.invariant.0)

pub returns : goal.returns
returns c =
    let l = c.loop-o in
    let len = arena-length c.args.a.now c.requires.0.arena in
    anew-last (arena_words c.args.a.now) c.args.m.now _ _ _ _ l.invariant.1 (length l.a) _ (omega (arith, len, l.invariant.0)) c.loop-o-test.false
    c.set_size.ensures

pub loop-o-preserved : goal.loop-o-preserved
loop-o-preserved c =
    let l = c.loop-o in
    let w = arena_words c.args.a.now in
    let r = c.size_at-s in
    let e : r.result ≡ size_at w l.o = r.ensures ∙ anew-read w c.args.m.now _ _ _ _ l.invariant.1 in
    let lt = c.loop-o-test.true in
    elim c.if-m-o-eq-UNMET.branch [
      | then-m-o-eq-UNMET h ↦ (
        omega (arith, ap length h.a-is, h.end_stretch.auto.a, l.invariant.0),
        rw (h.a-is, h.g-is) (anew-turn-held w c.args.m.now _ _ _ _ l.invariant.1 _ _ e lt h.if-m-o-eq-UNMET.true h.end_stretch.ensures),
      )
      | else-m-o-eq-UNMET h ↦ (
        omega (arith, ap length h.a-is, l.invariant.0),
        rw (h.a-is, h.g-is) (anew-turn-free w c.args.m.now _ _ _ _ l.invariant.1 _ e lt h.if-m-o-eq-UNMET.false),
      )
    ]
