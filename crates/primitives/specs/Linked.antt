-- A bin's links without the skip links that follow them: the two steps on a bin up to there, and what words and record say then. Definitions only.
use Rattle.std.specs.Prelude.{◌≡◌, List, ◌∷◌, ◌++◌, ℕ, ◌≤◌}
use Rattle.sizes.specs.Limits.{large, first_large}
use Rattle.machine.specs.Lists.{pre, post}
use Rattle.machine.specs.Heap.{Heap, bin, with_bin, size_of, record_of}
use Rattle.machine.specs.Writes.{Ran, does}
use Rattle.machine.specs.Primitives.{links_in, links_out}
use Rattle.sound.specs.Relation.{Shape, MemBy}

-- c comes into bin j between xs and ys; c leaves bin j
abbrev pub comes : ℕ → ℕ → List ℕ → List ℕ → Heap → Ran (Unit {0})
comes j c xs ys h = does (with_bin j (xs ++ c ∷ ys) h) (links_in c xs ys)

abbrev pub leaves : ℕ → ℕ → Heap → Ran (Unit {0})
leaves j c h = does (with_bin j (pre c (bin h j) ++ post c (bin h j)) h) (links_out (pre c (bin h j)) (post c (bin h j)))

-- words w and record r are those of h but for the skip links
pub record Linked (h : Heap) (w r : List ℕ) : Type 0 where
  pub shape : Shape h
  pub mem : MemBy 2 h w
  pub rec : r ≡ record_of h

-- a `requires`: some heap has these words and this record so far, and P holds of it
pub record HasLinks (P : Heap → Type 0) (w r : List ℕ) : Type 0 where
  pub heap : Heap
  pub linked : Linked heap w r
  pub holds : P heap

-- a chunk that comes into a bin of large chunks is large
abbrev pub Fits : Heap → ℕ → ℕ → Type 0
Fits h j c = first_large ≤ j → large ≤ size_of h c
