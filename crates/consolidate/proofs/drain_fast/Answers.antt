-- `consolidate::drain_fast` meets its contract. The invariant: the drain from the start is what was done so far and then the drain from here. The measure is the
-- list's length by the words. Assumes nothing.
use native.Mathlib.Omega.{arith}
use mathlib.Core.Path.{refl, ◌∙◌}
use Rattle.machine.specs.Heap.{fast_at}
use Rattle.machine.specs.Primitives.{pop}
use Rattle.machine.specs.Release.{join}
use Rattle.sound.specs.JoinLeaves.{Every, join-leaves}
use Rattle.primitives.specs.Stacks.{ok-length}
use Rattle.primitives.specs.Heads.{fast-some, fast-empty}
use Rattle.primitives.specs.Reach.{way-here}
use Rattle.consolidate.specs.Drain.{drain_of, taken-has, pop-head, pop-takes, drain-next, drain-done, fast-less}
use Rattle.consolidate.proofs.drain_fast.Goals as goal

pub loop-r-init : goal.loop-r-init
loop-r-init c = (refl, refl, way-here (drain_of pop join (fast_at c.args.k)) _ _)

pub overflow_add-k : goal.overflow_add-k
overflow_add-k c = omega arith

pub offset_bounds-r-k : goal.offset_bounds-r-k
offset_bounds-r-k c = omega arith

pub bounds-r-k : goal.bounds-r-k
bounds-r-k c = omega (arith, c.loop-r.invariant.1, ok-length _ _ _ c.requires.1.ok)

pub take_fast-c-requires : goal.take_fast-c-requires
take_fast-c-requires c =
    let R = c.loop-r.invariant.2.reach c.requires.1.heap c.requires.1.ok c.requires.1.holds in
    (c.requires.0, record { heap = R.heap; ok = R.ok; holds = fast-some _ _ _ R.ok _ c.requires.0 c.loop-r-test.true })

pub join-requires : goal.join-requires
join-requires c =
    let R = c.loop-r.invariant.2.reach c.requires.1.heap c.requires.1.ok c.requires.1.holds in
    taken-has pop join Every pop-head pop-takes join-leaves (fast_at c.args.k) (omega (arith, c.requires.0)) tt _ _ _ R.ok R.good
    (fast-some _ _ _ R.ok _ c.requires.0 c.loop-r-test.true) c.take_fast-c.ensures

pub loop-r-smaller : goal.loop-r-smaller
loop-r-smaller c =
    let R = c.loop-r.invariant.2.reach c.requires.1.heap c.requires.1.ok c.requires.1.holds in
    fast-less c.args.k c.requires.0 R (fast-some _ _ _ R.ok _ c.requires.0 c.loop-r-test.true) c.take_fast-c.ensures
    c.join.ensures

pub loop-r-preserved : goal.loop-r-preserved
loop-r-preserved c = (
  c.join.auto.a ∙ c.loop-r.invariant.0,
  c.join.auto.r ∙ c.take_fast-c.auto.r ∙ c.loop-r.invariant.1,
  record {
    reach = λ h o g.
        let R = c.loop-r.invariant.2.reach h o g in
        drain-next pop join Every pop-head pop-takes join-leaves (fast_at c.args.k) (omega (arith, c.requires.0)) tt R (fast-some _ _ _ R.ok _ c.requires.0 c.loop-r-test.true)
        c.take_fast-c.ensures c.join.ensures;
  },
)

pub shape_of-a : goal.shape_of-a
shape_of-a c = c.loop-r.invariant.0

pub shape_of-r : goal.shape_of-r
shape_of-r c = c.loop-r.invariant.1

pub returns : goal.returns
returns c =
    record {
      does = λ h o g.
          let R = c.loop-r.invariant.2.reach h o g in
          drain-done pop join Every pop-head pop-takes join-leaves (fast_at c.args.k) (omega (arith, c.requires.0)) tt R (fast-empty _ _ _ R.ok _ c.requires.0 c.loop-r-test.false);
    }
