-- The moves to the cache in steps 2 and 3, as they go on from a heap, and the chunk that step 3 takes. Definitions only.
use Rattle.std.specs.Prelude.{ℕ, ◌≤◌, length}
use Rattle.sizes.specs.Sizes.{fast_of, bin_of}
use Rattle.machine.specs.Lists.{cnt}
use Rattle.machine.specs.Heap.{Heap, fast, bin}
use Rattle.machine.specs.Writes.{Ran}
use Rattle.machine.specs.Grant.{move_fast, move_lasts}
use Rattle.sound.specs.Relation.{Good}

unfoldable pub move_heads : ℕ → Heap → Ran (Unit {0})
move_heads b h = move_fast b (fast h (fast_of b)) h

unfoldable pub move_rest : ℕ → Heap → Ran (Unit {0})
move_rest b h = move_lasts (length (bin h (bin_of b))) b h

-- the bin of b has c, in a sound heap
pub record Last (h : Heap) (b c : ℕ) : Type 0 where
  pub good : Good h
  pub here : 1 ≤ cnt c (bin h (bin_of b))
