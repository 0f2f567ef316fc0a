-- The heap that words and record spell, read from any words at all; n bounds how far a reading goes. Definitions only.
use Rattle.std.specs.Prelude.{List, [], ◌∷◌, true, false, ℕ, zero, suc, ◌+◌, ◌-◌, ◌*◌, ◌/◌, ◌%◌, ◌^◌, eqb, ltb, length, get_or}
use Rattle.sizes.specs.Limits.{none64, none32, plain}
use Rattle.sizes.specs.Layout.{remainder_word, cache_head, fast_head, bin_first, key_low, key_high, edition_word, prev_word, size_word, fwd_word}
use Rattle.machine.specs.Lists.{tabulate}
use Rattle.machine.specs.Mixing.{stored}
use Rattle.machine.specs.Heap.{Tile, tile, Heap}
use Rattle.machine.specs.declared.{ListKind.ListKind, ListKind.TheVariants.Cache, ListKind.TheVariants.Fast, ListKind.TheVariants.Bin}

-- the size word is the size with P in bit 0: the size, and the low four bits, of which 1 to 3 must be 0
abbrev pub size_at : List ℕ → ℕ → ℕ
size_at w c = get_or w (size_word c) 0 / 16 * 16

abbrev pub low_at : List ℕ → ℕ → ℕ
low_at w c = get_or w (size_word c) 0 % 16

abbrev pub tile_at : List ℕ → ℕ → Tile
tile_at w o = tile (size_at w o) (low_at w o) (elim (eqb (low_at w o) 0) [ true ↦ get_or w (prev_word o) 0 | false ↦ 0 ])

-- the tiles from o on, without the one that reaches the end
abbrev pub tiles_from : ℕ → List ℕ → ℕ → List Tile
tiles_from zero w o = []
tiles_from (suc n) w o = elim (ltb (o + size_at w o) (8 * length w)) [ true ↦ tile_at w o ∷ tiles_from n w (o + size_at w o) | false ↦ [] ]

-- a word of the record as a link of the arena: none is none
abbrev pub up : ℕ → ℕ
up v = elim (eqb v none32) [ true ↦ none64 | false ↦ v ]

-- the chunks from c on along the forward links, which are stored by edition d; those of a bin are plain
abbrev pub chunks_by : ℕ → ℕ → List ℕ → ℕ → List ℕ
chunks_by d zero w c = []
chunks_by d (suc n) w c = elim (eqb c none64) [ true ↦ [] | false ↦ c ∷ chunks_by d n w (stored d c (get_or w (fwd_word c) 0)) ]

abbrev pub chunks_from : ℕ → List ℕ → ℕ → List ℕ
chunks_from n w c = chunks_by plain n w c

-- the lists in the audit's order, 0 to 199: 64 cache lists, 10 fast lists, bins 1 to 126
abbrev pub kind_at : ℕ → ListKind
kind_at i = elim (ltb i 64) [ true ↦ Cache i | false ↦ elim (ltb i 74) [ true ↦ Fast (i - 64) | false ↦ Bin (i - 73) ] ]

abbrev pub head_word : ListKind → ℕ
head_word (Cache k) = cache_head k
head_word (Fast k) = fast_head k
head_word (Bin j) = bin_first j

-- the record's edition, and how a list's links are stored by it
abbrev pub edition_in : List ℕ → ℕ
edition_in r = get_or r edition_word 0

abbrev pub links_by : ListKind → ℕ → ℕ
links_by (Cache k) d = d
links_by (Fast k) d = d
links_by (Bin j) d = plain

unfoldable pub list_at : List ℕ → List ℕ → ℕ → List ℕ
list_at w r i = chunks_by (links_by (kind_at i) (edition_in r)) (length w) w (up (get_or r (head_word (kind_at i)) 0))

unfoldable pub tiles_of : List ℕ → List Tile
tiles_of w = tiles_from (length w) w 0

unfoldable pub stacks_of : List ℕ → List ℕ → List (List ℕ)
stacks_of w r = tabulate 74 (list_at w r) 0

unfoldable pub bins_of : List ℕ → List ℕ → List (List ℕ)
bins_of w r = tabulate 126 (list_at w r) 74

-- the record's key
abbrev pub key_in : List ℕ → ℕ
key_in r = get_or r key_low 0 + 2 ^ 32 * get_or r key_high 0

abbrev pub view : List ℕ → List ℕ → Heap
view w r = record {
  len = 8 * length w;
  tiles = tiles_of w;
  stacks = stacks_of w r;
  bins = [] ∷ bins_of w r;
  remainder = get_or r remainder_word 0;
  key = key_in r;
  edition = edition_in r;
}
