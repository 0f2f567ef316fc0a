-- Where a chunk stands that is tested. Definitions only.
use Rattle.std.specs.Prelude.{◌≡◌, List, ℕ, ◌+◌, ◌%◌, ◌≤◌, length}
use Rattle.le.specs.Arena.{arena_words}
use Rattle.sizes.specs.Limits.{none64}
use Rattle.machine.specs.View.{size_at}

-- c is within the arena and s its size; q is that of the chunk p before it
pub record Stand (a : List ℕ) (c s p q : ℕ) : Type 0 where
  pub even : c % 16 ≡ 0
  pub inside : c + 32 ≤ length a
  pub size : s ≡ size_at (arena_words a) c
  pub before : (p ≡ none64 → ⊥) → q ≡ size_at (arena_words a) p
