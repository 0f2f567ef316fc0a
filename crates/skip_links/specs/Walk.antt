-- A list of chunks that can be walked along its forward links while skip links are read and written. Definitions only.
use Rattle.std.specs.Prelude.{◌≡◌, List, ◌⊎◌, ℕ, ◌+◌, ◌*◌, ◌%◌, ◌≤◌, length}
use Rattle.sizes.specs.Limits.{none64, most_arena, least_chunk, large}
use Rattle.machine.specs.Lists.{hd, cnt}
use Rattle.machine.specs.View.{size_at}
use Rattle.sound.specs.Relation.{chain}

-- the chunks of l stand in the words w, the first of them at x, and lie apart
pub record Walk (w : List ℕ) (x : ℕ) (l : List ℕ) : Type 0 where
  pub leads : x ≡ hd none64 l
  pub chained : chain w l
  pub small : 8 * length w ≤ most_arena
  pub once : (y : ℕ) → cnt y l ≤ 1
  pub even : (y : ℕ) → 1 ≤ cnt y l → y % 16 ≡ 0
  pub least : (y : ℕ) → 1 ≤ cnt y l → least_chunk ≤ size_at w y
  pub inside : (y : ℕ) → 1 ≤ cnt y l → y + size_at w y ≤ 8 * length w
  pub apart : (y z : ℕ) → 1 ≤ cnt y l → 1 ≤ cnt z l → (y ≡ z → ⊥) → (y + size_at w y ≤ z) ⊎ (z + size_at w z ≤ y)

-- the same where all of them are large
pub record LargeWalk (w : List ℕ) (x : ℕ) (l : List ℕ) : Type 0 where
  pub walk : Walk w x l
  pub roomy : (y : ℕ) → 1 ≤ cnt y l → large ≤ size_at w y

-- there is such a list
pub record Walked (w : List ℕ) (x : ℕ) : Type 0 where
  pub list : List ℕ
  pub walk : Walk w x list

pub record LargeWalked (w : List ℕ) (x : ℕ) : Type 0 where
  pub list : List ℕ
  pub walk : LargeWalk w x list
