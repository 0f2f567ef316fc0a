-- `emptying::drain_cache` meets its contract. The invariant: the drain from the start is what was done so far and then the drain from here. The measure is the
-- list's count. Assumes nothing.
use native.Mathlib.Omega.{arith}
use mathlib.Core.Path.{refl, ◌∙◌}
use Rattle.machine.specs.Primitives.{take_cache}
use Rattle.machine.specs.Release.{release_past}
use Rattle.sound.specs.Leaves.{Cached}
use Rattle.sound.specs.Release.{release_past-leaves}
use Rattle.primitives.specs.Stacks.{ok-length}
use Rattle.primitives.specs.Heads.{cache-some, cache-empty}
use Rattle.primitives.specs.Reach.{way-here}
use Rattle.consolidate.specs.Drain.{drain_of, taken-has, drain-next, drain-done}
use Rattle.emptying.specs.Emptying.{take_head, take-takes, cache-less}
use Rattle.emptying.proofs.drain_cache.Goals as goal

pub loop-r-init : goal.loop-r-init
loop-r-init c = (refl, refl, way-here (drain_of take_cache release_past c.args.k) _ _)

pub overflow_add-k : goal.overflow_add-k
overflow_add-k c = omega arith

pub offset_bounds-r-k : goal.offset_bounds-r-k
offset_bounds-r-k c = omega arith

pub bounds-r-k : goal.bounds-r-k
bounds-r-k c = omega (arith, c.loop-r.invariant.1, ok-length _ _ _ c.requires.1.ok)

pub take_cache-c-requires : goal.take_cache-c-requires
take_cache-c-requires c =
    let R = c.loop-r.invariant.2.reach c.requires.1.heap c.requires.1.ok c.requires.1.holds in
    (c.requires.0, record { heap = R.heap; ok = R.ok; holds = cache-some _ _ _ R.ok _ c.requires.0 c.loop-r-test.true })

pub release_past-requires : goal.release_past-requires
release_past-requires c =
    let R = c.loop-r.invariant.2.reach c.requires.1.heap c.requires.1.ok c.requires.1.holds in
    taken-has take_cache release_past Cached take_head take-takes release_past-leaves c.args.k (omega (arith, c.requires.0)) c.requires.0 _ _ _ R.ok R.good
    (cache-some _ _ _ R.ok _ c.requires.0 c.loop-r-test.true) c.take_cache-c.ensures

pub loop-r-smaller : goal.loop-r-smaller
loop-r-smaller c =
    let R = c.loop-r.invariant.2.reach c.requires.1.heap c.requires.1.ok c.requires.1.holds in
    cache-less c.args.k c.requires.0 R (cache-some _ _ _ R.ok _ c.requires.0 c.loop-r-test.true) c.take_cache-c.ensures
    c.release_past.ensures

pub loop-r-preserved : goal.loop-r-preserved
loop-r-preserved c = (
  c.release_past.auto.a ∙ c.take_cache-c.auto.a ∙ c.loop-r.invariant.0,
  c.release_past.auto.r ∙ c.take_cache-c.auto.r ∙ c.loop-r.invariant.1,
  record {
    reach = λ h o g.
        let R = c.loop-r.invariant.2.reach h o g in
        drain-next take_cache release_past Cached take_head take-takes release_past-leaves c.args.k (omega (arith, c.requires.0)) c.requires.0 R
        (cache-some _ _ _ R.ok _ c.requires.0 c.loop-r-test.true) c.take_cache-c.ensures c.release_past.ensures;
  },
)

pub shape_of-a : goal.shape_of-a
shape_of-a c = c.loop-r.invariant.0

pub shape_of-r : goal.shape_of-r
shape_of-r c = c.loop-r.invariant.1

pub returns : goal.returns
returns c =
    record {
      does = λ h o g.
          let R = c.loop-r.invariant.2.reach h o g in
          drain-done take_cache release_past Cached take_head take-takes release_past-leaves c.args.k (omega (arith, c.requires.0)) c.requires.0 R
          (cache-empty _ _ _ R.ok _ c.requires.0 c.loop-r-test.false);
    }
