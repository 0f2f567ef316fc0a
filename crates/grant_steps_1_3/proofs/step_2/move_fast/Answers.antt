-- `grant_steps_1_3::move_fast` meets its contract: from every turn on the machine does what is left. A turn fills the cache by one. Assumes nothing.
use mathlib.Core.Path.{refl, ◌∙◌}
use native.Mathlib.Omega.{arith}
use Rattle.primitives.specs.Stacks.{ok-length}
use Rattle.primitives.specs.Reach.{way-here}
use Rattle.grant_steps_1_3.specs.Moves.{move_heads}
use Rattle.grant_steps_1_3.specs.Heads.{heads-end, heads-stop, heads-has, heads-push, heads-again, heads-less}
use Rattle.grant_steps_1_3.proofs.step_2.move_fast.Goals as goal

pub loop-r-init : goal.loop-r-init
loop-r-init c = (refl, refl, way-here (move_heads _) _ _)

pub bounds-r-f : goal.bounds-r-f
bounds-r-f c = omega (arith, c.loop-r.invariant.1, c.fast_list-f.ensures.1, ok-length _ _ _ c.requires.1.ok)

pub bounds-r-k : goal.bounds-r-k
bounds-r-k c = omega (arith, c.loop-r.invariant.1, c.cache_list-k.ensures.1, ok-length _ _ _ c.requires.1.ok)

pub shape_of-a-then-r-k-ge-CACHE_ROOM : goal.shape_of-a-then-r-k-ge-CACHE_ROOM
shape_of-a-then-r-k-ge-CACHE_ROOM c = c.loop-r.invariant.0

pub shape_of-r-then-r-k-ge-CACHE_ROOM : goal.shape_of-r-then-r-k-ge-CACHE_ROOM
shape_of-r-then-r-k-ge-CACHE_ROOM c = c.loop-r.invariant.1

pub returns-then-r-k-ge-CACHE_ROOM : goal.returns-then-r-k-ge-CACHE_ROOM
returns-then-r-k-ge-CACHE_ROOM c =
    heads-stop c.args.b.bytes _ c.args.b.whole c.args.b.least c.requires.0 c.fast_list-f.ensures.0 _ _ _ _ c.loop-r.invariant.2 _ c.cache_list-k.ensures.0 c.if-r-k-ge-CACHE_ROOM.true

pub take_fast-c-requires : goal.take_fast-c-requires
take_fast-c-requires c =
    (omega (arith, c.fast_list-f.ensures.1), heads-has c.args.b.bytes _ c.args.b.whole c.args.b.least c.requires.0 c.fast_list-f.ensures.0 _ _ _ _ c.loop-r.invariant.2 c.loop-r-test.true c.requires.1)

pub push_cache-requires : goal.push_cache-requires
push_cache-requires c = (
  c.cache_list-k.ensures.1,
  heads-push c.args.b.bytes _ c.args.b.whole c.args.b.least c.requires.0 c.fast_list-f.ensures.0 _ _ _ _ c.loop-r.invariant.2 c.loop-r-test.true _ _ c.take_fast-c.ensures
      _ c.cache_list-k.ensures.0 c.if-r-k-ge-CACHE_ROOM.false c.requires.1,
)

pub loop-r-smaller : goal.loop-r-smaller
loop-r-smaller c =
    heads-less c.args.b.bytes _ c.args.b.whole c.args.b.least c.requires.0 c.fast_list-f.ensures.0 _ _ _ _ c.loop-r.invariant.2 c.loop-r-test.true _ _ c.take_fast-c.ensures
    _ c.cache_list-k.ensures.0 c.if-r-k-ge-CACHE_ROOM.false _ _ c.push_cache.ensures c.requires.1

pub loop-r-preserved : goal.loop-r-preserved
loop-r-preserved c = (
  c.push_cache.auto.a ∙ c.loop-r.invariant.0,
  c.push_cache.auto.r ∙ c.take_fast-c.auto.r ∙ c.loop-r.invariant.1,
  heads-again c.args.b.bytes _ c.args.b.whole c.args.b.least c.requires.0 c.fast_list-f.ensures.0 _ _ _ _ c.loop-r.invariant.2 c.loop-r-test.true _ _ c.take_fast-c.ensures
      _ c.cache_list-k.ensures.0 c.if-r-k-ge-CACHE_ROOM.false _ _ c.push_cache.ensures,
)

pub shape_of-a : goal.shape_of-a
shape_of-a c = c.loop-r.invariant.0

pub shape_of-r : goal.shape_of-r
shape_of-r c = c.loop-r.invariant.1

pub returns : goal.returns
returns c =
    heads-end c.args.b.bytes _ c.args.b.whole c.args.b.least c.requires.0 c.fast_list-f.ensures.0 _ _ _ _ c.loop-r.invariant.2 c.loop-r-test.false
