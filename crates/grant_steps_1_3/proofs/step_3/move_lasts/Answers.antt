-- `grant_steps_1_3::move_lasts` meets its contract: from every turn on the machine does what is left. A turn fills the cache by one. Assumes nothing.
use mathlib.Core.Path.{refl, ap, ◌∙◌}
use native.Mathlib.Omega.{arith}
use Rattle.sizes.specs.Layout.{bin_last}
use Rattle.sizes.specs.BinLaws.{bin_of-most}
use Rattle.primitives.specs.Stacks.{ok-length}
use Rattle.primitives.specs.Reach.{way-here}
use Rattle.grant_steps_1_3.specs.Moves.{move_rest}
use Rattle.grant_steps_1_3.specs.Lasts.{rest_end, rest-stop, rest_has, rest-push, rest-again, rest-less}
use borrow.Author.Rules.{rules}
use Rattle.grant_steps_1_3.proofs.step_3.move_lasts.Goals as goal

pub bin_last-at-requires : goal.bin_last-at-requires
bin_last-at-requires c = omega (arith, c.requires.2, bin_of-most c.args.b.bytes)

pub loop-r-init : goal.loop-r-init
loop-r-init c = (refl, refl, way-here (move_rest _) _ _)

pub offset_bounds-r-at : goal.offset_bounds-r-at
offset_bounds-r-at c = omega (arith, c.bin_last-at.ensures, c.requires.2, bin_of-most c.args.b.bytes)

pub bounds-r-at : goal.bounds-r-at
bounds-r-at c = omega (arith, c.loop-r.invariant.1, c.bin_last-at.ensures, c.requires.2, bin_of-most c.args.b.bytes, ok-length _ _ _ c.requires.1.ok)

pub bounds-r-list : goal.bounds-r-list
bounds-r-list c = omega (arith, c.loop-r.invariant.1, c.cache_list-list.ensures.1, ok-length _ _ _ c.requires.1.ok)

pub shape_of-a-then-r-list-ge-CACHE_ROOM : goal.shape_of-a-then-r-list-ge-CACHE_ROOM
shape_of-a-then-r-list-ge-CACHE_ROOM c = c.loop-r.invariant.0

pub shape_of-r-then-r-list-ge-CACHE_ROOM : goal.shape_of-r-then-r-list-ge-CACHE_ROOM
shape_of-r-then-r-list-ge-CACHE_ROOM c = c.loop-r.invariant.1

pub returns-then-r-list-ge-CACHE_ROOM : goal.returns-then-r-list-ge-CACHE_ROOM
returns-then-r-list-ge-CACHE_ROOM c =
    rest-stop c.args.b.bytes c.args.b.whole c.args.b.least c.requires.0 _ _ _ _ c.loop-r.invariant.2 _ (c.bin_last-at.ensures ∙ ap bin_last c.requires.2) _ c.cache_list-list.ensures.0 c.if-r-list-ge-CACHE_ROOM.true

pub offset_bounds-r-at-in-loop-r : goal.offset_bounds-r-at-in-loop-r
offset_bounds-r-at-in-loop-r c = omega (arith, c.bin_last-at.ensures, c.requires.2, bin_of-most c.args.b.bytes)

pub bounds-r-at-in-loop-r : goal.bounds-r-at-in-loop-r
bounds-r-at-in-loop-r c = omega (arith, c.loop-r.invariant.1, c.bin_last-at.ensures, c.requires.2, bin_of-most c.args.b.bytes, ok-length _ _ _ c.requires.1.ok)

pub overflow_cast-c : goal.overflow_cast-c
overflow_cast-c c = let g = c.slice_known-in-loop-r-3-1.given c.bin_last-at.result in search rules

pub take_last-requires : goal.take_last-requires
take_last-requires c =
    (c.requires.0, rest_has c.args.b.bytes c.args.b.whole c.args.b.least c.requires.0 _ _ _ _ c.loop-r.invariant.2 _ (c.bin_last-at.ensures ∙ ap bin_last c.requires.2) c.loop-r-test.true c.requires.1, c.requires.2)

pub push_cache-requires : goal.push_cache-requires
push_cache-requires c = (
  c.cache_list-list.ensures.1,
  rest-push c.args.b.bytes c.args.b.whole c.args.b.least c.requires.0 _ _ _ _ c.loop-r.invariant.2 _ (c.bin_last-at.ensures ∙ ap bin_last c.requires.2) c.loop-r-test.true _ _ c.take_last.ensures _ c.cache_list-list.ensures.0 c.if-r-list-ge-CACHE_ROOM.false c.requires.1,
)

pub loop-r-smaller : goal.loop-r-smaller
loop-r-smaller c =
    rest-less c.args.b.bytes c.args.b.whole c.args.b.least c.requires.0 _ _ _ _ c.loop-r.invariant.2 _ (c.bin_last-at.ensures ∙ ap bin_last c.requires.2) c.loop-r-test.true _ _ c.take_last.ensures _ c.cache_list-list.ensures.0 c.if-r-list-ge-CACHE_ROOM.false _ _ c.push_cache.ensures c.requires.1

pub loop-r-preserved : goal.loop-r-preserved
loop-r-preserved c = (
  c.push_cache.auto.a ∙ c.take_last.auto.a ∙ c.loop-r.invariant.0,
  c.push_cache.auto.r ∙ c.take_last.auto.r ∙ c.loop-r.invariant.1,
  rest-again c.args.b.bytes c.args.b.whole c.args.b.least c.requires.0 _ _ _ _ c.loop-r.invariant.2 _ (c.bin_last-at.ensures ∙ ap bin_last c.requires.2) c.loop-r-test.true _ _ c.take_last.ensures _ c.cache_list-list.ensures.0 c.if-r-list-ge-CACHE_ROOM.false _ _ c.push_cache.ensures,
)

pub shape_of-a : goal.shape_of-a
shape_of-a c = c.loop-r.invariant.0

pub shape_of-r : goal.shape_of-r
shape_of-r c = c.loop-r.invariant.1

pub returns : goal.returns
returns c =
    rest_end c.args.b.bytes c.args.b.whole c.args.b.least c.requires.0 _ _ _ _ c.loop-r.invariant.2 _ (c.bin_last-at.ensures ∙ ap bin_last c.requires.2) c.loop-r-test.false
