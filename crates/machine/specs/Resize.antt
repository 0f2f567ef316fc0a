-- Resize, in document 02's words and order, for a live block c and a chunk size b. Definitions only.
use Rattle.std.specs.Prelude.{List, [], ◌∷◌, true, false, ℕ, zero, suc, ◌+◌, ◌-◌, ◌/◌, eqb, ltb, leb, Option, Some, None}
use Rattle.sizes.specs.Limits.{least_chunk}
use Rattle.machine.specs.Lists.{both}
use Rattle.machine.specs.Heap.{Heap, top_of, top_size, size_of, next, binned, bin_has}
use Rattle.machine.specs.Writes.{Write, copy, Ran, ran, does, giving, more, ◌>>=◌}
use Rattle.machine.specs.Primitives.{unlink, set_p, widen, trim_at, grow_top}
use Rattle.machine.specs.Release.{release}
use Rattle.machine.specs.Grant.{seek}

-- The next P is set. (The top's always is)
unfoldable pub next_p : ℕ → Heap → Ran (Unit {0})
next_p c h = elim (eqb (next h c) (top_of h)) [ true ↦ does h [] | false ↦ set_p (next h c) h ]

-- Except after taking from the top, the next P is set and a rest of 32 or more is cut off and released in the ordinary way.
unfoldable pub finish : ℕ → ℕ → Heap → Ran (Unit {0})
finish c b h = elim (ltb (size_of h c - b) least_chunk) [
  | true ↦ next_p c h
  | false ↦ do
    h ← trim_at c b h
    h ← next_p (c + b) h
    giving tt (release (c + b) h)
]

-- n of c's usable words, from word i on, go to d, rising
abbrev pub copies_from : ℕ → ℕ → ℕ → ℕ → List Write
copies_from i d c zero = []
copies_from i d c (suc n) = copy d c i ∷ copies_from (suc i) d c n

abbrev pub copies : ℕ → ℕ → ℕ → List Write
copies d c n = copies_from 0 d c n

-- A new block right behind the old one, whose size is z, is joined to it, otherwise all usable bytes are copied and the old block released.
abbrev pub moved : ℕ → ℕ → ℕ → Ran (Option ℕ) → Ran (Option ℕ)
moved c b z (ran h ws None) = ran h ws None
moved c b z (ran h ws (Some d)) = more ws (elim (eqb d (c + z)) [
  | true ↦ giving (Some c) do
    h ← widen c h
    finish c b h
  | false ↦ giving (Some d) do
    h ← does h (copies d c (z / 8 - 1))
    release c h
])

-- A block large enough stays; else it takes from the top if both together reach b+32; else it takes in a binned chunk behind it if both reach b;
-- else a new block is sought by steps 2 to 9 (not the cache).
unfoldable pub resize : ℕ → ℕ → Heap → Ran (Option ℕ)
resize c b h = elim (leb b (size_of h c)) [
  | true ↦ giving (Some c) (finish c b h)
  | false ↦ elim (both (eqb (next h c) (top_of h)) (leb (b + 32) (size_of h c + top_size h))) [
    | true ↦ giving (Some c) (grow_top c b h)
    | false ↦ elim (both (ltb 0 (binned h (next h c))) (leb b (size_of h c + size_of h (next h c)))) [
      | true ↦ giving (Some c) do
        h₁ ← unlink (bin_has h (next h c)) (next h c) h
        h₂ ← widen c h₁
        finish c b h₂
      | false ↦ moved c b (size_of h c) (seek b h)
    ]
  ]
]
