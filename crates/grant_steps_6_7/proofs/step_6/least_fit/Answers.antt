-- `grant_steps_6_7::least_fit` meets its contract: the walk is `Back` from the bin's last chunk on. The measure is how many chunks it may still come to. Assumes nothing.
use native.Mathlib.Omega.{arith}
use Rattle.primitives.specs.Chunks.{in_bytes}
use Rattle.primitives.specs.Stacks.{ok-length}
use Rattle.grant_steps_6_7.specs.Following.{back_start, back-chunk, back_found, back-next, back-less, back_end}
use Rattle.grant_steps_6_7.proofs.step_6.least_fit.Goals as goal

pub bounds-r-bin_last : goal.bounds-r-bin_last
bounds-r-bin_last c = omega (arith, ok-length _ _ _ c.requires.2.ok)

pub loop-c-init : goal.loop-c-init
loop-c-init c =
    λ h o. back_start h _ _ c.args.j c.args.b.bytes o _ _ c.requires.0 c.requires.1 c.bin_last.ensures c.link_of-c.ensures

pub size_at-requires : goal.size_at-requires
size_at-requires c =
    let p = c.requires.2 in
    let i = in_bytes _ _ (back-chunk p.heap _ _ c.args.j c.args.b.bytes p.ok _ (c.loop-c.invariant p.heap p.ok) c.loop-c-test.true) in
    (omega arith, omega arith)

pub returns-then-b-size_at : goal.returns-then-b-size_at
returns-then-b-size_at c =
    λ h o. back_found h _ _ c.args.j c.args.b.bytes o _ (c.loop-c.invariant h o) c.loop-c-test.true (omega (arith, c.size_at.ensures, c.if-b-size_at.true))

pub back_at-c-requires : goal.back_at-c-requires
back_at-c-requires c =
    let p = c.requires.2 in
    let i = in_bytes _ _ (back-chunk p.heap _ _ c.args.j c.args.b.bytes p.ok _ (c.loop-c.invariant p.heap p.ok) c.loop-c-test.true) in
    (omega arith, omega arith)

pub loop-c-smaller : goal.loop-c-smaller
loop-c-smaller c =
    let p = c.requires.2 in
    back-less p.heap _ _ c.args.j c.args.b.bytes p.ok _ (c.loop-c.invariant p.heap p.ok) c.loop-c-test.true _ c.back_at-c.ensures

pub loop-c-preserved : goal.loop-c-preserved
loop-c-preserved c =
    λ h o. back-next h _ _ c.args.j c.args.b.bytes o _ (c.loop-c.invariant h o) c.loop-c-test.true _ c.back_at-c.ensures (omega (arith, c.size_at.ensures, c.if-b-size_at.false))

pub returns : goal.returns
returns c =
    λ h o. back_end h _ _ c.args.j c.args.b.bytes o _ (c.loop-c.invariant h o) c.loop-c-test.false
