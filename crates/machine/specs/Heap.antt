-- The abstract heap: tiles, lists, last remainder. What the steps read and change; no memory stands in it. Definitions only.
use Rattle.std.specs.Prelude.{List, [], ◌∷◌, ◌++◌, map, Bool, true, false, ℕ, ◌+◌, ◌-◌, ◌/◌, ◌%◌, ◌^◌, eqb, ltb, length, get_or, set, take, drop, replicate}
use Rattle.sizes.specs.Limits.{none32, cache_lists}
use Rattle.machine.specs.Lists.{both, hd, lst, any?, cnt, cnt_all}

-- a chunk: its size, its P (1: set), and its previous size, which counts only where P is clear and is 0 where it is set
pub record Tile : Type 0 where
  pub size : ℕ
  pub p : ℕ
  pub prev : ℕ

abbrev pub tile : ℕ → ℕ → ℕ → Tile
tile s b n = record { size = s; p = b; prev = n }

-- stacks are the cache lists 0 to 63 and then the fast lists 0 to 9; bins stand at their numbers, and bin 0, which is none, is empty
pub record Heap : Type 0 where
  pub len : ℕ
  pub tiles : List Tile
  pub stacks : List (List ℕ)
  pub bins : List (List ℕ)
  pub remainder : ℕ
  pub key : ℕ
  pub edition : ℕ

abbrev pub stack : Heap → ℕ → List ℕ
stack h k = get_or h.stacks k []

abbrev pub cache : Heap → ℕ → List ℕ
cache h k = stack h k

-- where fast list k stands among the stacks
abbrev pub fast_at : ℕ → ℕ
fast_at k = cache_lists + k

abbrev pub fast : Heap → ℕ → List ℕ
fast h k = stack h (fast_at k)

abbrev pub bin : Heap → ℕ → List ℕ
bin h j = get_or h.bins j []

abbrev pub any_fast? : Heap → Bool
any_fast? h = any? (drop cache_lists h.stacks)

-- ---- the heap with one part changed
abbrev pub with_tiles : List Tile → Heap → Heap
with_tiles ts h = record { len = h.len; tiles = ts; stacks = h.stacks; bins = h.bins; remainder = h.remainder; key = h.key; edition = h.edition }

abbrev pub with_stack : ℕ → List ℕ → Heap → Heap
with_stack k l h = record { len = h.len; tiles = h.tiles; stacks = set h.stacks k l; bins = h.bins; remainder = h.remainder; key = h.key; edition = h.edition }

abbrev pub with_bin : ℕ → List ℕ → Heap → Heap
with_bin j l h = record { len = h.len; tiles = h.tiles; stacks = h.stacks; bins = set h.bins j l; remainder = h.remainder; key = h.key; edition = h.edition }

abbrev pub with_remainder : ℕ → Heap → Heap
with_remainder c h = record { len = h.len; tiles = h.tiles; stacks = h.stacks; bins = h.bins; remainder = c; key = h.key; edition = h.edition }

-- ---- tiles: where they start and end, those before c and those from c on
abbrev pub end_from : ℕ → List Tile → ℕ
end_from o [] = o
end_from o (t ∷ ts) = end_from (o + t.size) ts

abbrev pub starts_from : ℕ → List Tile → List ℕ
starts_from o [] = []
starts_from o (t ∷ ts) = o ∷ starts_from (o + t.size) ts

abbrev pub up_to : ℕ → ℕ → List Tile → List Tile
up_to o c [] = []
up_to o c (t ∷ ts) = elim (eqb o c) [ true ↦ [] | false ↦ t ∷ up_to (o + t.size) c ts ]

abbrev pub since : ℕ → ℕ → List Tile → List Tile
since o c [] = []
since o c (t ∷ ts) = elim (eqb o c) [ true ↦ t ∷ ts | false ↦ since (o + t.size) c ts ]

-- the tiles from c on are changed by f
abbrev pub edit : ℕ → (List Tile → List Tile) → Heap → Heap
edit c f h = with_tiles (up_to 0 c h.tiles ++ f (since 0 c h.tiles)) h

abbrev pub hd_size : List Tile → ℕ
hd_size [] = 0
hd_size (t ∷ ts) = t.size

abbrev pub hd_p : List Tile → ℕ
hd_p [] = 1
hd_p (t ∷ ts) = t.p

-- ---- what a step asks: the top, the chunks but the top, a chunk's size and P, the chunk after it and the one before it
abbrev pub top_of : Heap → ℕ
top_of h = end_from 0 h.tiles

abbrev pub top_size : Heap → ℕ
top_size h = h.len - top_of h

abbrev pub starts : Heap → List ℕ
starts h = starts_from 0 h.tiles

abbrev pub size_of : Heap → ℕ → ℕ
size_of h c = hd_size (since 0 c h.tiles)

abbrev pub p_of : Heap → ℕ → ℕ
p_of h c = hd_p (since 0 c h.tiles)

abbrev pub next : Heap → ℕ → ℕ
next h c = c + size_of h c

abbrev pub before : Heap → ℕ → ℕ
before h c = lst 0 (starts_from 0 (up_to 0 c h.tiles))

-- ---- how often the bins have c, and all lists; live: a chunk that is neither the top nor in a list
abbrev pub binned : Heap → ℕ → ℕ
binned h c = cnt_all c h.bins

abbrev pub total : ℕ → Heap → ℕ
total c h = cnt_all c h.stacks + cnt_all c h.bins

abbrev pub live? : Heap → ℕ → Bool
live? h c = both (ltb 0 (cnt c (starts h))) (eqb (total c h) 0)

-- the number of the bin that has c, the first of them from j on
abbrev pub bin_from : ℕ → ℕ → List (List ℕ) → ℕ
bin_from j c [] = j
bin_from j c (l ∷ ls) = elim (eqb (cnt c l) 0) [ true ↦ bin_from (j + 1) c ls | false ↦ j ]

abbrev pub bin_has : Heap → ℕ → ℕ
bin_has h c = bin_from 0 c h.bins

-- ---- a newly opened arena of n bytes, with the key q, in edition d: one tile, the top
abbrev pub opened : ℕ → ℕ → ℕ → Heap
opened n q d = record { len = n; tiles = []; stacks = replicate 74 []; bins = replicate 127 []; remainder = none32; key = q; edition = d }

-- ---- the record's 396 words
abbrev pub ends : List (List ℕ) → List ℕ
ends [] = []
ends (l ∷ ls) = hd none32 l ∷ lst none32 l ∷ ends ls

-- a 64-bit number as two words, the low one first
abbrev pub halves : ℕ → List ℕ
halves q = q % 2 ^ 32 ∷ q / 2 ^ 32 ∷ []

unfoldable pub record_of : Heap → List ℕ
record_of h =
    (h.len ∷ top_of h ∷ h.remainder ∷ [])
    ++ (map (λ l. hd none32 l) (take cache_lists h.stacks)
    ++ (map (λ l. length l) (take cache_lists h.stacks)
    ++ (map (λ l. hd none32 l) (drop cache_lists h.stacks)
    ++ (ends (drop 1 h.bins) ++ (halves h.key ++ h.edition ∷ [])))))
