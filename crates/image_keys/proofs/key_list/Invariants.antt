-- `image_keys::key_list` meets its contract. The invariant: with the keys of the chunks from x on the words are those at the end. The measure is how many they are.
-- Assumes nothing.
use mathlib.Core.Path.{◌≡◌}
use lib.ListN.{length}
use Rattle.le.specs.Arena.{arena_words}
use Rattle.machine.specs.Heap.{Heap, stack}
use Rattle.machine.specs.Writes.{apply}
use Rattle.sound.specs.Relation.{SoundBy}
use Rattle.image_keys.specs.Keys.{keys_for}
use Rattle.image_keys.specs.KeyTurns.{Unkeyed, unkeyed}
use Rattle.image_keys.proofs.key_list.Given as goal

abbrev pub invariant-loop-x : goal.invariant-loop-x
invariant-loop-x l = (length l.a ≡ length l.initial.a) × ((h : Heap) → SoundBy 1 h (arena_words l.initial.a) l.r → Unkeyed l.d l.q (apply (keys_for l.q (stack h l.k)) (arena_words l.initial.a)) (arena_words l.a) l.x.0)

abbrev pub decreases-loop-x : goal.decreases-loop-x
decreases-loop-x l = unkeyed l.d (arena_words l.a) l.x.0
