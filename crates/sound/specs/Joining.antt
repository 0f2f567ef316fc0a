-- Joining keeps a sound heap and every loose chunk as it was; every fast list is empty then, there is no last remainder, and the cache lists are as they were.
-- By the laws of consolidate. Assumes nothing.
use Rattle.std.specs.Prelude.{◌≡◌, refl, List, ℕ, ◌<◌}
use Rattle.sizes.specs.Limits.{none32}
use Rattle.machine.specs.Heap.{Heap, cache}
use Rattle.machine.specs.Primitives.{set_remainder}
use Rattle.machine.specs.Release.{joining}
use Rattle.sound.specs.Relation.{Mem, Good}
use Rattle.sound.specs.Carve.{remainder-good, remainder-mem}
use Rattle.sound.specs.Moves.{nil, any, remainder-moved}
use Rattle.sound.specs.Leaves.{Leaves, leaves_of, leaves-then}
use Rattle.sound.specs.Drain.{NoFast, consolidate-leaves}

pub record Merged (h g : Heap) : Type 0 where
  pub good : Good g
  pub cached : (k : ℕ) → k < 64 → cache g k ≡ cache h k
  pub empty : NoFast g
  pub none : g.remainder ≡ none32

pub joining-leaves : (h : Heap) (w : List ℕ) → Good h → Mem h w → Leaves h w (joining h) (λ a g. Merged h g) (any nil) nil
unfolding joining
joining-leaves h w g m =
    leaves-then (λ h. set_remainder none32 h) (consolidate-leaves h w g m)
    (λ j v mj C. leaves_of {Q = λ n. Merged h n}
    (record {
      mem = remainder-mem j v none32 mj;
      now =
          record { good = remainder-good j none32 C.good; cached = C.still.lists; empty = C.empty; none = refl };
    })
    (remainder-moved j none32))
    (λ b x. refl) (λ x lo z. (refl, refl))
