-- What the code of a repair is told and asks for: which chunks are free, by the marks; the heap that has no list, by the record; which of its chunks are free, by P.
-- Definitions only.
use Rattle.std.specs.Prelude.{◌≡◌, List, [], ◌∷◌, ◌++◌, Bool, true, false, ℕ, ◌+◌, ◌-◌, ◌*◌, ◌/◌, ◌≤◌, eqb, length, get_or, replicate}
use Rattle.sizes.specs.Limits.{none32}
use Rattle.sizes.specs.Layout.{length_word}
use Rattle.machine.specs.Lists.{cnt}
use Rattle.machine.specs.Heap.{Tile, Heap, top_of, end_from, record_of}
use Rattle.machine.specs.Writes.{size, apply, heap_of, writes}
use Rattle.machine.specs.View.{key_in, edition_in, tiles_of, view}
use Rattle.audit_walks.specs.Marks.{unmet_mark, starts_of}
use Rattle.repair.specs.Repair.{free?, tiles_anew, tiles_on, repair}

-- the marks m tell which chunks of the words w are free: those that a list reached
pub record Told (w m : List ℕ) (f : ℕ → Bool) : Type 0 where
  pub tells : (x : ℕ) → 1 ≤ cnt x (starts_of w) → f x ≡ elim (eqb (get_or m (x / 16) 0) unmet_mark) [ true ↦ false | false ↦ true ]

-- the words v are w with the tiles anew, of which the free ones are told by f, and t is the top
pub record Anew (f : ℕ → Bool) (w : List ℕ) (t : ℕ) (v : List ℕ) : Type 0 where
  pub top : t ≡ end_from 0 (tiles_anew f 0 0 (tiles_of w))
  pub words : v ≡ apply (tiles_on 0 (tiles_anew f 0 0 (tiles_of w)) ++ (size t (8 * length w - t) 1 ∷ [])) w

-- h has no list, its top at t, and the length, key and edition of the record r
pub record Bare (h : Heap) (r : List ℕ) (t : ℕ) : Type 0 where
  pub long : h.len ≡ get_or r length_word 0
  pub top : top_of h ≡ t
  pub stacks : h.stacks ≡ replicate 74 []
  pub bins : h.bins ≡ replicate 127 []
  pub remainder : h.remainder ≡ none32
  pub key : h.key ≡ key_in r
  pub edition : h.edition ≡ edition_in r

-- the chunks whose next one, the top apart, has P clear, by rising offset
unfoldable pub free_from : ℕ → List Tile → List ℕ
free_from o [] = []
free_from o (t ∷ []) = []
free_from o (t ∷ u ∷ ts) = elim (eqb u.p 0) [ true ↦ o ∷ free_from (o + t.size) (u ∷ ts) | false ↦ free_from (o + t.size) (u ∷ ts) ]

abbrev pub free_of : Heap → List ℕ
free_of h = free_from 0 h.tiles

-- h has no list and its top at t
pub record Unlisted (h : Heap) (t : ℕ) : Type 0 where
  pub top : top_of h ≡ t
  pub stacks : h.stacks ≡ replicate 74 []
  pub bins : h.bins ≡ replicate 127 []

-- words w and record r, mended by the rules of version v, are the words u and the record q
pub record Mended (v : ℕ) (w r u q : List ℕ) : Type 0 where
  pub words : u ≡ apply (writes (repair (free? v w r) (view w r))) w
  pub rec : q ≡ record_of (heap_of (repair (free? v w r) (view w r)))
