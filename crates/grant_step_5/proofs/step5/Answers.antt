-- `grant_step_5::step5` meets its contract: on the way, what is left of the step from here is what was left of it from the start (`Reach`), and each answer of a turn
-- is one way on or out. The measure is how many turns are left: one for each unsorted chunk, read along the links, and one that finds none. Assumes nothing.
use mathlib.Core.Path.{refl}
use mathlib.Core.Logic.{inl, inr}
use Rattle.grant_step_5.specs.Loop.{reach-start, reach-does, way-fewer, way-granted, way-cached, way-binned, way-empty}
use Rattle.grant_step_5.proofs.step5.Goals as goal

pub loop-c-init : goal.loop-c-init
loop-c-init c = λ h o g. reach-start c.args.b.bytes h _ _ o g

pub turn-t-requires : goal.turn-t-requires
turn-t-requires c =
    let R = c.loop-c.invariant c.requires.heap c.requires.ok c.requires.holds in
    record { heap = R.heap; ok = R.ok; holds = R.good }

pub returns-in-Granted : goal.returns-in-Granted
returns-in-Granted c =
    record { does = λ h o g. way-granted c.args.b.bytes c.args.b.whole c.args.b.least _ _ h _ _ _ _ _ refl (c.loop-c.invariant h o g) _ c.turn-t.ensures _ c.in-Granted.is }

pub loop-c-smaller-in-Cached : goal.loop-c-smaller-in-Cached
loop-c-smaller-in-Cached c =
    way-fewer c.args.b.bytes c.args.b.whole c.args.b.least _ _ c.requires.heap _ _ _ _ _ refl (c.loop-c.invariant c.requires.heap c.requires.ok c.requires.holds) _ c.turn-t.ensures (inl c.in-Cached.is)

pub loop-c-preserved-in-Cached : goal.loop-c-preserved-in-Cached
loop-c-preserved-in-Cached c =
    λ h o g. way-cached c.args.b.bytes c.args.b.whole c.args.b.least _ _ h _ _ _ _ _ refl (c.loop-c.invariant h o g) _ c.turn-t.ensures c.in-Cached.is

pub loop-c-smaller : goal.loop-c-smaller
loop-c-smaller c =
    way-fewer c.args.b.bytes c.args.b.whole c.args.b.least _ _ c.requires.heap _ _ _ _ _ refl (c.loop-c.invariant c.requires.heap c.requires.ok c.requires.holds) _ c.turn-t.ensures (inr c.in-Binned.is)

pub loop-c-preserved : goal.loop-c-preserved
loop-c-preserved c =
    λ h o g. way-binned c.args.b.bytes c.args.b.whole c.args.b.least _ _ h _ _ _ _ _ refl (c.loop-c.invariant h o g) _ c.turn-t.ensures c.in-Binned.is

pub swept-requires : goal.swept-requires
swept-requires c =
    let R = c.loop-c.invariant c.requires.heap c.requires.ok c.requires.holds in
    let E = way-empty c.args.b.bytes c.args.b.whole c.args.b.least _ _ c.requires.heap _ _ _ _ _ refl R _ c.turn-t.ensures c.in-Empty.is in
    record { heap = E.heap; ok = E.ok; holds = E.full }

pub returns-in-Empty : goal.returns-in-Empty
returns-in-Empty c =
    record {
      does = λ h o g. reach-does (way-empty c.args.b.bytes c.args.b.whole c.args.b.least _ _ h _ _ _ _ _ refl (c.loop-c.invariant h o g) _ c.turn-t.ensures c.in-Empty.is) c.swept.ensures;
    }
