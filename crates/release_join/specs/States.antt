-- The heaps that a join goes through, as its parts require them, and its last parts as one. Definitions only.
use Rattle.std.specs.Prelude.{◌≡◌, List, ◌∷◌, ◌++◌, ℕ, ◌+◌}
use Rattle.machine.specs.Heap.{Tile, Heap, end_from, bin_has}
use Rattle.machine.specs.Writes.{Ran, ◌>>=◌}
use Rattle.machine.specs.Release.{join_next, put_down}
use Rattle.sound.specs.Join.{Opened}
use Rattle.primitives.specs.Places.{Home}

-- x, a binned chunk of size zx, is to leave its bin, and c to take in the chunk after it: s is the whole's size
pub record Taking (h : Heap) (x zx c s : ℕ) : Type 0 where
  pub a : List Tile
  pub t : Tile
  pub u : Tile
  pub z : List Tile
  pub tiles : h.tiles ≡ a ++ t ∷ u ∷ z
  pub at : c ≡ end_from 0 a
  pub whole : s ≡ t.size + u.size
  pub home : Home h (bin_has h x) x zx

-- c is loose, and P and end notes are in order but for what c's end says
pub record Open (h : Heap) (c : ℕ) : Type 0 where
  pub a : List Tile
  pub n : ℕ
  pub at : c ≡ end_from 0 a
  pub now : Opened h a n

-- a join from where c is open: with the chunk after, and put down
abbrev pub join_rest : ℕ → Heap → Ran ℕ
join_rest c h = join_next c h >>= (λ h₂. put_down c h₂)
