-- `image_keys::write_keys` meets its contract. The invariant: with the keys of the cache lists from k on the words are those at the end. Assumes nothing.
use Rattle.le.specs.Arena.{arena_words}
use Rattle.machine.specs.Heap.{Heap}
use Rattle.machine.specs.Writes.{apply}
use Rattle.sound.specs.Relation.{SoundBy}
use Rattle.image_keys.specs.Keys.{keys_of}
use Rattle.image_keys.specs.KeyTurns.{UnkeyedFrom}
use Rattle.image_keys.proofs.write_keys.Given as goal

abbrev pub invariant-loop-k : goal.invariant-loop-k
invariant-loop-k l = (h : Heap) → SoundBy 1 h (arena_words l.initial.a) l.r → UnkeyedFrom l.k h l.r (apply (keys_of h) (arena_words l.initial.a)) (arena_words l.a)
