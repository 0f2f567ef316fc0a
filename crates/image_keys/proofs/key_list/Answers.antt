-- `image_keys::key_list` meets its contract. The invariant: with the keys of the chunks from x on the words are those at the end. The measure is how many they are.
-- Assumes nothing.
use native.Mathlib.Omega.{arith}
use mathlib.Core.Path.{refl, ◌∙◌}
use Rattle.image_keys.specs.KeyTurns.{lacking-length, unkeyed-start, unkeyed-end, unkeyed-next, unkeyed-inside}
use Rattle.image_keys.proofs.key_list.Goals as goal

pub edition_in-d-requires : goal.edition_in-d-requires
edition_in-d-requires c = lacking-length _ _ _ c.requires.1.sound

pub bounds-r-k : goal.bounds-r-k
bounds-r-k c = omega (arith, lacking-length _ _ _ c.requires.1.sound)

pub loop-x-init : goal.loop-x-init
loop-x-init c =
    (refl, λ h o. unkeyed-start h _ _ c.args.k _ c.args.q _ o c.requires.0 c.edition_in-d.ensures c.link_of-x.ensures)

pub stack_link_at-n-requires : goal.stack_link_at-n-requires
stack_link_at-n-requires c =
    let p = unkeyed-inside _ (c.loop-x.invariant.1 c.requires.1.heap c.requires.1.sound) c.loop-x-test.true in
    (omega arith, omega arith, omega arith)

pub set_key-requires : goal.set_key-requires
set_key-requires c =
    let p = unkeyed-inside _ (c.loop-x.invariant.1 c.requires.1.heap c.requires.1.sound) c.loop-x-test.true in
    (omega arith, omega arith)

pub loop-x-smaller : goal.loop-x-smaller
loop-x-smaller c =
    (unkeyed-next (c.loop-x.invariant.1 c.requires.1.heap c.requires.1.sound) c.loop-x-test.true c.stack_link_at-n.ensures c.set_key.ensures).fewer

pub loop-x-preserved : goal.loop-x-preserved
loop-x-preserved c =
    (c.set_key.auto.a ∙ c.loop-x.invariant.0, λ h o. (unkeyed-next (c.loop-x.invariant.1 h o) c.loop-x-test.true c.stack_link_at-n.ensures c.set_key.ensures).on)

pub shape_of-a : goal.shape_of-a
shape_of-a c = c.loop-x.invariant.0

pub returns : goal.returns
returns c = λ h o. unkeyed-end (c.loop-x.invariant.1 h o) c.loop-x-test.false
