-- Document 02, (ix): what the audit finds, mended. Each list is walked up to its first bad chunk, in the audit's order and by its rules; those reached are free, every other
-- chunk but the top is held. Free neighbours are joined, and with the top; what remains goes to unsorted, the lowest first. Definitions only.
use Rattle.std.specs.Prelude.{List, [], ◌∷◌, ◌++◌, Bool, true, false, ℕ, ◌+◌, ◌-◌, eqb, ltb, replicate}
use Rattle.sizes.specs.Limits.{none32, unsorted}
use Rattle.machine.specs.Heap.{Tile, tile, Heap, bin, top_of, top_size}
use Rattle.machine.specs.Writes.{Write, size, note, Ran, does, ◌>>=◌}
use Rattle.machine.specs.Primitives.{link_in}
use Rattle.audit_reached.specs.Reached.{reached_in}

-- a list reaches the chunk at o
abbrev pub free? : ℕ → List ℕ → List ℕ → ℕ → Bool
free? v w r o = ltb (reached_in v w r o) 200

-- ---- the tiles anew, from o on; g: how many bytes right before o are free. A held chunk ends the free stretch before it, which is one chunk then; what is free before the
-- top is the top's
abbrev pub ended : ℕ → ℕ → List Tile
ended g s = elim (eqb g 0) [ true ↦ tile s 1 0 ∷ [] | false ↦ tile g 1 0 ∷ tile s 0 g ∷ [] ]

unfoldable pub tiles_anew : (ℕ → Bool) → ℕ → ℕ → List Tile → List Tile
tiles_anew f g o [] = []
tiles_anew f g o (t ∷ ts) =
    elim (f o) [ true ↦ tiles_anew f (g + t.size) (o + t.size) ts | false ↦ ended g t.size ++ tiles_anew f 0 (o + t.size) ts ]

-- the free ones among them, by rising offset
unfoldable pub free_anew : (ℕ → Bool) → ℕ → ℕ → List Tile → List ℕ
free_anew f g o [] = []
free_anew f g o (t ∷ ts) = elim (f o) [
  | true ↦ free_anew f (g + t.size) (o + t.size) ts
  | false ↦ elim (eqb g 0) [ true ↦ free_anew f 0 (o + t.size) ts | false ↦ (o - g) ∷ free_anew f 0 (o + t.size) ts ]
]

-- ---- the heap with these tiles and no list, and the words of its tiles: size words with P, the previous sizes that P asks for, the top's size word
abbrev pub bare : (ℕ → Bool) → Heap → Heap
bare f h = record {
  len = h.len;
  tiles = tiles_anew f 0 0 h.tiles;
  stacks = replicate 74 [];
  bins = replicate 127 [];
  remainder = none32;
  key = h.key;
  edition = h.edition;
}

abbrev pub noted : ℕ → Tile → List Write
noted o t = elim (eqb t.p 0) [ true ↦ note o t.prev ∷ [] | false ↦ [] ]

unfoldable pub tiles_on : ℕ → List Tile → List Write
tiles_on o [] = []
tiles_on o (t ∷ ts) = size o t.size t.p ∷ (noted o t ++ tiles_on (o + t.size) ts)

abbrev pub tile_writes : Heap → List Write
tile_writes h = tiles_on 0 h.tiles ++ (size (top_of h) (top_size h) 1 ∷ [])

-- ---- the free chunks go last in unsorted, one after the other
abbrev pub put_last : ℕ → Heap → Ran (Unit {0})
put_last c h = link_in unsorted c (bin h unsorted) [] h

unfoldable pub put_all : List ℕ → Heap → Ran (Unit {0})
put_all [] h = does h []
put_all (c ∷ l) h = do
  h ← put_last c h
  put_all l h

unfoldable pub repair : (ℕ → Bool) → Heap → Ran (Unit {0})
repair f h = do
  h₁ ← does (bare f h) (tile_writes (bare f h))
  put_all (free_anew f 0 0 h.tiles) h₁
