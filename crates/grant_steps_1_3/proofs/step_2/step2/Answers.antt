-- `grant_steps_1_3::step2` meets its contract: each way by the lemma of the tests that led there. Assumes nothing.
use native.Mathlib.Omega.{arith}
use Rattle.primitives.specs.Stacks.{ok-length}
use Rattle.grant_steps_1_3.specs.Steps.{over2, none2, has2, left2, small2, took2}
use Rattle.grant_steps_1_3.proofs.step_2.step2.Goals as goal

pub returns-then-b-gt-MOST_FAST : goal.returns-then-b-gt-MOST_FAST
returns-then-b-gt-MOST_FAST c = over2 c.args.b.bytes _ _ c.if-b-gt-MOST_FAST.true

pub bounds-r-f : goal.bounds-r-f
bounds-r-f c = omega (arith, c.fast_list-f.ensures.1, ok-length _ _ _ c.requires.ok)

pub returns-then-r-f : goal.returns-then-r-f
returns-then-r-f c =
    none2 c.args.b.bytes _ c.args.b.whole c.args.b.least c.if-b-gt-MOST_FAST.false c.fast_list-f.ensures.0 _ _ c.if-r-f.true

pub take_fast-c-requires : goal.take_fast-c-requires
take_fast-c-requires c =
    (omega (arith, c.fast_list-f.ensures.1), has2 c.args.b.bytes _ c.args.b.whole c.args.b.least c.if-b-gt-MOST_FAST.false c.fast_list-f.ensures.0 _ _ c.if-r-f.false c.requires)

pub move_fast-requires : goal.move_fast-requires
move_fast-requires c =
    (c.if-b-gt-MOST_FAST.false, left2 c.args.b.bytes _ c.args.b.whole c.args.b.least c.if-b-gt-MOST_FAST.false c.fast_list-f.ensures.0 _ _ c.if-r-f.false _ _ c.take_fast-c.ensures c.requires)

pub overflow_cast-result : goal.overflow_cast-result
overflow_cast-result c =
    record { fits = omega (arith, small2 c.args.b.bytes _ c.args.b.whole c.args.b.least c.if-b-gt-MOST_FAST.false c.fast_list-f.ensures.0 _ _ c.if-r-f.false _ _ c.take_fast-c.ensures c.requires) }

pub returns : goal.returns
returns c =
    took2 c.args.b.bytes _ c.args.b.whole c.args.b.least c.if-b-gt-MOST_FAST.false c.fast_list-f.ensures.0 _ _ c.if-r-f.false _ _ c.take_fast-c.ensures _ _ c.move_fast.ensures
