-- The heaps that a resize goes through, as its parts require them, and its last parts as one. Definitions only.
use Rattle.std.specs.Prelude.{◌≡◌, Bool, List, ℕ, ◌+◌, ◌-◌, ◌/◌, ◌≤◌, eqb, ltb, leb, get_or, Option}
use Rattle.sizes.specs.Layout.{length_word, top_word}
use Rattle.machine.specs.Lists.{both}
use Rattle.machine.specs.Heap.{Tile, Heap, end_from, top_of, top_size, size_of, next, binned, bin_has}
use Rattle.machine.specs.Writes.{Ran, does, giving, ◌>>=◌}
use Rattle.machine.specs.Primitives.{unlink, widen}
use Rattle.machine.specs.Release.{release}
use Rattle.machine.specs.Grant.{seek}
use Rattle.machine.specs.Resize.{finish, copies, moved}
use Rattle.sound.specs.Relation.{Good, Loose}
use Rattle.sound.specs.Finish.{Held}
use Rattle.sound.specs.Widen.{Beside}

-- c, of size z, is a live block of a sound heap
pub record Live (h : Heap) (c z : ℕ) : Type 0 where
  pub good : Good h
  pub loose : Loose h c
  pub whole : size_of h c ≡ z

-- c, of size z, is to keep its place: it is loose, and all flags hold but those of the chunk after it
pub record Stands (h : Heap) (c z : ℕ) : Type 0 where
  pub a : List Tile
  pub t : Tile
  pub r : List Tile
  pub at : c ≡ end_from 0 a
  pub whole : z ≡ t.size
  pub held : Held h a t r

-- c, of size z, is to take in the chunk behind it, which no list has: together they reach b
pub record Widens (h : Heap) (c z b : ℕ) : Type 0 where
  pub a : List Tile
  pub t : Tile
  pub u : Tile
  pub r : List Tile
  pub at : c ≡ end_from 0 a
  pub whole : z ≡ t.size
  pub beside : Beside h a t u r
  pub enough : b ≤ t.size + u.size

-- c is a live block, and the top behind it leaves 32
pub record Grows (h : Heap) (c b : ℕ) : Type 0 where
  pub good : Good h
  pub loose : Loose h c
  pub top : next h c ≡ top_of h
  pub less : size_of h c ≤ b
  pub enough : b + 32 ≤ size_of h c + top_size h

-- whether the top is next, and both together reach b + 32, as the record has it
abbrev pub top_reaches : List ℕ → ℕ → ℕ → ℕ → Bool
top_reaches r c z b = both (eqb (c + z) (get_or r top_word 0)) (leb (b + 32) (z + (get_or r length_word 0 - get_or r top_word 0)))

-- c, of size z, is a live block, and with the binned chunk behind it it reaches b
pub record Reaches (h : Heap) (c z b : ℕ) : Type 0 where
  pub live : Live h c z
  pub behind : 1 ≤ binned h (c + z)
  pub enough : b ≤ z + size_of h (c + z)

-- whether the chunk behind is binned, and both reach b
abbrev pub behind_reaches : Heap → ℕ → ℕ → Bool
behind_reaches h c b = both (ltb 0 (binned h (next h c))) (leb b (size_of h c + size_of h (next h c)))

-- c, of size z, is a live block, and d another that is no smaller
pub record Moves (h : Heap) (c z d : ℕ) : Type 0 where
  pub live : Live h c z
  pub loose : Loose h d
  pub other : d ≡ c → ⊥
  pub room : z ≤ size_of h d

-- ---- parts of a resize
abbrev pub widen_finish : ℕ → ℕ → Heap → Ran (Unit {0})
widen_finish c b h = widen c h >>= (λ g. finish c b g)

abbrev pub take_in : ℕ → ℕ → Heap → Ran (Unit {0})
take_in c b h = unlink (bin_has h (next h c)) (next h c) h >>= (λ g. widen c g >>= (λ g. finish c b g))

abbrev pub copy_release : ℕ → ℕ → ℕ → Heap → Ran (Unit {0})
copy_release c z d h = does h (copies d c (z / 8 - 1)) >>= (λ g. giving tt (release c g))

abbrev pub sought : ℕ → ℕ → ℕ → Heap → Ran (Option ℕ)
sought c z b h = moved c b z (seek b h)
