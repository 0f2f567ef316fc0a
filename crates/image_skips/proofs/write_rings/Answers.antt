-- `image_skips::write_rings` meets its contract. The invariant: with the rings of the bins from j on the words are those at the end. Assumes nothing.
use native.Mathlib.Omega.{arith}
use Rattle.image_skips.specs.SkipTurns.{rings-start, rings-next, rings-end}
use Rattle.image_skips.proofs.write_rings.Goals as goal

pub loop-j-init : goal.loop-j-init
loop-j-init c = λ h o. rings-start h _ _ o

pub renew_ring-requires : goal.renew_ring-requires
renew_ring-requires c =
    (c.loop-j.auto.j, c.loop-j-test.true, record { heap = c.requires.heap; linked = (c.loop-j.invariant c.requires.heap c.requires.linked).linked; holds = tt })

pub loop-j-preserved : goal.loop-j-preserved
loop-j-preserved c = λ h o.
    let R = c.loop-j.invariant h o in
    rings-next R c.loop-j.auto.j c.loop-j-test.true (c.renew_ring.ensures h R.linked)

pub returns : goal.returns
returns c = λ h o. rings-end (c.loop-j.invariant h o) (omega (arith, c.loop-j-test.false))
