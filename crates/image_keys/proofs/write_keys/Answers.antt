-- `image_keys::write_keys` meets its contract. The invariant: with the keys of the cache lists from k on the words are those at the end. Assumes nothing.
use Rattle.image_keys.specs.KeyTurns.{lacking-length, from_start, from_next, from_end}
use Rattle.image_keys.proofs.write_keys.Goals as goal

pub key_in-q-requires : goal.key_in-q-requires
key_in-q-requires c = lacking-length _ _ _ c.requires.sound

pub loop-k-init : goal.loop-k-init
loop-k-init c = λ h o. from_start h _ _ o

pub key_list-requires : goal.key_list-requires
key_list-requires c =
    (c.loop-k-test.true, record { heap = c.requires.heap; sound = (c.loop-k.invariant c.requires.heap c.requires.sound).sound })

pub loop-k-preserved : goal.loop-k-preserved
loop-k-preserved c = λ h o.
    let L = c.loop-k.invariant h o in
    from_next L _ c.loop-k-test.true c.key_in-q.ensures (c.key_list.ensures h L.sound)

pub returns : goal.returns
returns c = λ h o. from_end (c.loop-k.invariant h o) c.loop-k-test.false
