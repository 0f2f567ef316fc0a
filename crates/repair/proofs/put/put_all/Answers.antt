-- `put::put_all` meets its contract. The invariant: from the start on all is put as what was done so far and then what is free from o on (`Walked`).
-- The measure is what is left before the top. Assumes nothing.
use mathlib.Core.Path.{refl, ◌∙◌}
use native.Mathlib.Omega.{arith}
use Rattle.repair.proofs.PutTurn.{walk_start, walk_end, walk-loose, walk-gap, walk-fits, turn-held, turn-free, room}
use Rattle.repair.proofs.put.put_all.Goals as goal
use Rattle.repair.proofs.put.put_all.Goals.{then-not-has_p, else-not-has_p}

pub loop-o-init : goal.loop-o-init
loop-o-init c = (refl, refl, λ h o u. walk_start h _ _ _ o u)

pub size_at-s-requires : goal.size_at-s-requires
size_at-s-requires c =
    let R = c.loop-o.invariant.2 c.requires.heap c.requires.ok c.requires.holds in
    let m = room _ R c.loop-o-test.true in
    (omega (arith, m.even), omega (arith, m.inside))

pub overflow_add-o : goal.overflow_add-o
overflow_add-o c =
    let R = c.loop-o.invariant.2 c.requires.heap c.requires.ok c.requires.holds in
    let m = room _ R c.loop-o-test.true in
    omega (arith, m.small, c.size_at-s.ensures)

pub size_word_at-x-requires : goal.size_word_at-x-requires
size_word_at-x-requires c =
    let R = c.loop-o.invariant.2 c.requires.heap c.requires.ok c.requires.holds in
    let m = room _ R c.loop-o-test.true in
    (omega (arith, m.next, c.size_at-s.ensures), omega (arith, m.inside, c.size_at-s.ensures))

pub link_in-requires : goal.link_in-requires
link_in-requires c =
    let R = c.loop-o.invariant.2 c.requires.heap c.requires.ok c.requires.holds in
    let lt = c.loop-o-test.true in
    (omega arith, omega arith, record { heap = R.heap; ok = R.ok; holds = (walk-loose R lt, record { xs = _; ys = _; gap = walk-gap R lt }, walk-fits R lt) })

pub overflow_add-o-in-loop-o : goal.overflow_add-o-in-loop-o
overflow_add-o-in-loop-o c =
    let R = c.loop-o.invariant.2 c.requires.heap c.requires.ok c.requires.holds in
    omega (arith, (room _ R c.loop-o-test.true).small, c.size_at-s.ensures)

pub loop-o-smaller : goal.loop-o-smaller
loop-o-smaller c =
    let R = c.loop-o.invariant.2 c.requires.heap c.requires.ok c.requires.holds in
    omega (arith, (room _ R c.loop-o-test.true).wide, c.loop-o-test.true, c.size_at-s.ensures)

pub shape_of-a : goal.shape_of-a
shape_of-a c = c.loop-o.invariant.0

pub shape_of-r : goal.shape_of-r
shape_of-r c = c.loop-o.invariant.1

pub returns : goal.returns
returns c = λ h o u. walk_end (c.loop-o.invariant.2 h o u) c.loop-o-test.false

pub loop-o-preserved : goal.loop-o-preserved
loop-o-preserved c =
    let z = c.size_at-s.ensures in
    let x = c.size_word_at-x.ensures in
    let b = c.has_p.ensures in
    elim c.if-not-has_p.branch [
      | then-not-has_p t ↦ rw (t.a-is, t.r-is, t.p-is) (
        t.link_in.auto.a ∙ c.loop-o.invariant.0,
        t.link_in.auto.r ∙ c.loop-o.invariant.1,
        λ h o u. turn-free (c.loop-o.invariant.2 h o u) c.loop-o-test.true _ z x b t.if-not-has_p.true t.link_in.ensures,
      )
      | else-not-has_p t ↦ rw (t.a-is, t.r-is, t.p-is) (
        c.loop-o.invariant.0,
        c.loop-o.invariant.1,
        λ h o u. turn-held (c.loop-o.invariant.2 h o u) c.loop-o-test.true _ z x b t.if-not-has_p.false,
      )
    ]
