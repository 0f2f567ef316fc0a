-- `grant_step_5::place` meets its contract: the loop walks the bin (`Walking`), and each way out is a law of the walk. The measure is what is ahead. Assumes nothing.
use native.Mathlib.Omega.{arith}
use Rattle.primitives.specs.Stacks.{ok-length}
use Rattle.grant_step_5.specs.Newcomer.{on-start, here-inside, goes-smaller, goes-equal, goes_end, on-next, ahead-less}
use Rattle.grant_step_5.proofs.sort.place.Goals as goal

pub bounds-r-bin_first : goal.bounds-r-bin_first
bounds-r-bin_first c = omega (arith, ok-length _ _ _ c.requires.2.ok)

pub loop-n-init : goal.loop-n-init
loop-n-init c =
    λ h o. on-start h _ _ c.args.j c.args.z _ _ o c.requires.0 c.requires.1 c.bin_first.ensures c.link_of-n.ensures

pub size_at-s-requires : goal.size_at-s-requires
size_at-s-requires c =
    let i = here-inside c.requires.2.heap _ _ c.args.j c.args.z _ _ c.requires.2.ok (c.loop-n.invariant c.requires.2.heap c.requires.2.ok) c.loop-n-test.true in
    (omega arith, omega arith)

pub returns-then-s-z : goal.returns-then-s-z
returns-then-s-z c =
    λ h o. goes-smaller h _ _ c.args.j c.args.z _ _ o (c.loop-n.invariant h o) c.loop-n-test.true _ c.size_at-s.ensures c.if-s-z.true

pub fwd_at-after-requires : goal.fwd_at-after-requires
fwd_at-after-requires c =
    let i = here-inside c.requires.2.heap _ _ c.args.j c.args.z _ _ c.requires.2.ok (c.loop-n.invariant c.requires.2.heap c.requires.2.ok) c.loop-n-test.true in
    (omega arith, omega arith)

pub returns-then-s-z-2 : goal.returns-then-s-z-2
returns-then-s-z-2 c =
    λ h o. goes-equal h _ _ c.args.j c.args.z _ _ o (c.loop-n.invariant h o) c.loop-n-test.true _ c.size_at-s.ensures _ c.fwd_at-after.ensures c.if-s-z-2.true

pub loop-n-smaller : goal.loop-n-smaller
loop-n-smaller c =
    let p = c.requires.2 in
    ahead-less p.heap _ _ c.args.j c.args.z _ _ p.ok (c.loop-n.invariant p.heap p.ok) c.loop-n-test.true _ c.size_at-s.ensures _ c.fwd_at-after.ensures c.if-s-z.false c.if-s-z-2.false

pub loop-n-preserved : goal.loop-n-preserved
loop-n-preserved c =
    λ h o. on-next h _ _ c.args.j c.args.z _ _ o (c.loop-n.invariant h o) c.loop-n-test.true _ c.size_at-s.ensures _ c.fwd_at-after.ensures c.if-s-z.false c.if-s-z-2.false

pub returns : goal.returns
returns c =
    λ h o. goes_end h _ _ c.args.j c.args.z _ _ o (c.loop-n.invariant h o) c.loop-n-test.false
