-- `consolidate::consolidate` meets its contract. The invariant: consolidate from the start is what was done so far and then the rest of it, from list k on.
-- Assumes nothing.
use Rattle.primitives.specs.Reach.{reach-has}
use Rattle.consolidate.specs.Drain.{consolidate-start, fast-list, fast-end}
use Rattle.consolidate.proofs.consolidate.Goals as goal

pub loop-k-init : goal.loop-k-init
loop-k-init c = consolidate-start _ _

pub drain_fast-requires : goal.drain_fast-requires
drain_fast-requires c = (c.loop-k-test.true, reach-has (c.loop-k.invariant.reach c.requires.heap c.requires.ok c.requires.holds))

pub loop-k-preserved : goal.loop-k-preserved
loop-k-preserved c = record { reach = λ h o g. fast-list _ c.loop-k-test.true (c.loop-k.invariant.reach h o g) c.drain_fast.ensures }

pub returns : goal.returns
returns c = record { does = λ h o g. fast-end _ c.loop-k-test.false (c.loop-k.invariant.reach h o g) }
