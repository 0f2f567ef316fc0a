-- `emptying::emptying` meets its contract. The invariant: emptying from the start is what was done so far and then the rest of it, from list k on.
-- Assumes nothing.
use Rattle.primitives.specs.Reach.{reach-has}
use Rattle.emptying.specs.Emptying.{emptying-start, cache-list, cache-end}
use Rattle.emptying.proofs.emptying.Goals as goal

pub loop-k-init : goal.loop-k-init
loop-k-init c = emptying-start _ _

pub drain_cache-requires : goal.drain_cache-requires
drain_cache-requires c = (c.loop-k-test.true, reach-has (c.loop-k.invariant.reach c.requires.heap c.requires.ok c.requires.holds))

pub loop-k-preserved : goal.loop-k-preserved
loop-k-preserved c = record { reach = λ h o g. cache-list _ c.loop-k-test.true (c.loop-k.invariant.reach h o g) c.drain_cache.ensures }

pub returns : goal.returns
returns c = record { does = λ h o g. cache-end _ c.loop-k-test.false (c.loop-k.invariant.reach h o g) }
