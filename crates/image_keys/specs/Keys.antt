-- What an image of version 1 lacks: the key in each cached chunk. The writes that put it there. Definitions only.
use Rattle.std.specs.Prelude.{List, [], ◌∷◌, ◌++◌, ℕ, take}
use Rattle.sizes.specs.Limits.{cache_lists}
use Rattle.machine.specs.Heap.{Heap}
use Rattle.machine.specs.Writes.{Write, key}
use Rattle.sound.specs.Relation.{SoundBy}

-- the key q into each chunk of a list; of several lists, one after the other; into each cached chunk of a heap, list after list from its head
abbrev pub keys_for : ℕ → List ℕ → List Write
keys_for q [] = []
keys_for q (c ∷ l) = key c q ∷ keys_for q l

abbrev pub keys_in : ℕ → List (List ℕ) → List Write
keys_in q [] = []
keys_in q (l ∷ ls) = keys_for q l ++ keys_in q ls

abbrev pub keys_of : Heap → List Write
keys_of h = keys_in h.key (take cache_lists h.stacks)

-- a `requires`: words w and record r are those of some heap that is sound by the rules of version 1
pub record Lacking (w r : List ℕ) : Type 0 where
  pub heap : Heap
  pub sound : SoundBy 1 heap w r
