-- `grant_steps_6_7::second_equal` meets its contract: the walk has the run of c's equals behind it (`Running`). The measure is how many chunks it may still come to. Assumes nothing.
use native.Mathlib.Omega.{arith}
use lib.ListN.{length}
use Rattle.primitives.specs.Chunks.{Inside}
use Rattle.grant_steps_6_7.specs.Following.{equal_at-not-none, tested, stand-inside, stand-leads, run-leads, run-one, run-start, run-next, run_end, run-less}
use Rattle.grant_steps_6_7.proofs.step_6.second_equal.Goals as goal

pub size_at-z-requires : goal.size_at-z-requires
size_at-z-requires c =
    let inside : Inside (length c.args.a.now) c.args.c.0 = let p = c.requires in stand-inside p.heap _ p.shape p.mem p.holds.bin-no _ p.holds.xs p.holds.ys p.holds.stands in
    let i = inside in (omega arith, omega arith)

pub back_at-first-requires : goal.back_at-first-requires
back_at-first-requires c =
    let inside : Inside (length c.args.a.now) c.args.c.0 = let p = c.requires in stand-inside p.heap _ p.shape p.mem p.holds.bin-no _ p.holds.xs p.holds.ys p.holds.stands in
    let i = inside in (omega arith, omega arith)

pub equal_at-requires : goal.equal_at-requires
equal_at-requires c =
    let p = c.requires in
    stand-leads p.heap _ p.shape p.mem p.holds.bin-no _ p.holds.xs p.holds.ys p.holds.stands _ c.back_at-first.ensures

pub returns-then-not-equal_at : goal.returns-then-not-equal_at
returns-then-not-equal_at c =
    λ h j xs ys s m k. run-one h _ s m j _ xs ys k _ c.back_at-first.ensures (tested _ _ _ _ _ _ c.size_at-z.ensures c.equal_at.ensures (c.if-not-equal_at.true))

pub back_at-before-requires : goal.back_at-before-requires
back_at-before-requires c =
    let p = c.requires in
    stand-leads p.heap _ p.shape p.mem p.holds.bin-no _ p.holds.xs p.holds.ys p.holds.stands _ c.back_at-first.ensures
    (equal_at-not-none _ _ _ (tested _ _ _ _ _ _ c.size_at-z.ensures c.equal_at.ensures (c.if-not-equal_at.false)))

pub loop-second-init : goal.loop-second-init
loop-second-init c =
    λ h j xs ys s m k. run-start h _ s m j _ xs ys k _ _ c.back_at-first.ensures c.back_at-before.ensures
    (tested _ _ _ _ _ _ c.size_at-z.ensures c.equal_at.ensures (c.if-not-equal_at.false))

pub equal_at-requires-in-loop-second : goal.equal_at-requires-in-loop-second
equal_at-requires-in-loop-second c =
    let p = c.requires in
    run-leads p.heap _ p.shape p.mem p.holds.bin-no _ p.holds.xs p.holds.ys p.holds.stands _ _ _
    (c.loop-second.invariant p.heap p.holds.bin-no p.holds.xs p.holds.ys p.shape p.mem p.holds.stands)

pub back_at-before-requires-in-loop-second : goal.back_at-before-requires-in-loop-second
back_at-before-requires-in-loop-second c =
    let p = c.requires in
    run-leads p.heap _ p.shape p.mem p.holds.bin-no _ p.holds.xs p.holds.ys p.holds.stands _ _ _
    (c.loop-second.invariant p.heap p.holds.bin-no p.holds.xs p.holds.ys p.shape p.mem p.holds.stands)
    (equal_at-not-none _ _ _ (tested _ _ _ _ _ _ c.size_at-z.ensures c.equal_at-in-loop-second.ensures c.loop-second-test.true))

pub loop-second-smaller : goal.loop-second-smaller
loop-second-smaller c =
    let p = c.requires in
    run-less p.heap _ p.shape p.mem p.holds.bin-no _ p.holds.xs p.holds.ys p.holds.stands _ _ _
    (c.loop-second.invariant p.heap p.holds.bin-no p.holds.xs p.holds.ys p.shape p.mem p.holds.stands)
    (tested _ _ _ _ _ _ c.size_at-z.ensures c.equal_at-in-loop-second.ensures c.loop-second-test.true) _ c.back_at-before-in-loop-second.ensures

pub loop-second-preserved : goal.loop-second-preserved
loop-second-preserved c =
    λ h j xs ys s m k. run-next h _ s m j _ xs ys k _ _ _ (c.loop-second.invariant h j xs ys s m k)
    (tested _ _ _ _ _ _ c.size_at-z.ensures c.equal_at-in-loop-second.ensures c.loop-second-test.true) _ c.back_at-before-in-loop-second.ensures

pub returns : goal.returns
returns c =
    λ h j xs ys s m k. run_end h _ s m j _ xs ys k _ _ _ (c.loop-second.invariant h j xs ys s m k)
    (tested _ _ _ _ _ _ c.size_at-z.ensures c.equal_at-in-loop-second.ensures c.loop-second-test.false)
