-- Emptying keeps a sound heap and every loose chunk as it was; every cache list is empty then, and the last remainder as it was. By the laws of a drain.
-- Assumes nothing.
use Rattle.std.specs.Prelude.{◌≡◌, List, [], ℕ, ◌<◌}
use Rattle.std.proofs.Common.{arith}
use Rattle.machine.specs.Heap.{Heap, cache}
use Rattle.machine.specs.Primitives.{take_cache}
use Rattle.machine.specs.Release.{release_past, emptying}
use Rattle.sound.specs.Relation.{Mem, Good}
use Rattle.sound.specs.Moves.{nil, any}
use Rattle.sound.specs.Leaves.{Leaves, leaves-weaken, Cached}
use Rattle.sound.specs.Drain.{take_cache-taken, drains-leaves}
use Rattle.sound.specs.Release.{release_past-leaves}

pub record Emptied (h g : Heap) : Type 0 where
  pub good : Good g
  pub empty : (k : ℕ) → k < 64 → cache g k ≡ []
  pub remainder : g.remainder ≡ h.remainder

pub emptying-leaves : (h : Heap) (w : List ℕ) → Good h → Mem h w → Leaves h w (emptying h) (λ a g. Emptied h g) (any nil) nil
unfolding emptying
emptying-leaves h w g m =
    leaves-weaken (drains-leaves take_cache release_past Cached (λ h w k c l g m e hk mk. take_cache-taken h w k c l g m e mk) release_past-leaves 64 0 (omega arith) (λ i l u. omega arith) h w g m)
    (λ a n D. record { good = D.good; empty = λ k l. D.empty k (omega arith) l; remainder = D.others.remainder })
