-- A sound heap, as a named list of conditions: what memory has to say of an abstract heap (Mem), what holds after every primitive (Shape), what holds
-- between steps (Good), and the whole of it with the record (Sound). Definitions only.
use Rattle.std.specs.Prelude.{◌≡◌, List, [], ◌∷◌, ◌++◌, true, false, ◌⊎◌, ℕ, ◌+◌, ◌-◌, ◌*◌, ◌/◌, ◌%◌, ◌≤◌, ◌<◌, ◌^◌, ltb, length, get_or}
use Rattle.sizes.specs.Limits.{none64, newest, most_arena, least_chunk, cache_lists, cache_room, most_fast, large, first_large, plain, mixed}
use Rattle.sizes.specs.Sizes.{bin_of}
use Rattle.sizes.specs.Layout.{prev_word, size_word, fwd_word, back_word, key_word}
use Rattle.machine.specs.Lists.{hd, cnt}
use Rattle.machine.specs.Mixing.{stored}
use Rattle.machine.specs.Heap.{Tile, tile, Heap, stack, bin, binned, starts, top_size, size_of, total, record_of}
use Rattle.machine.specs.Writes.{Write, who, field, value}
use Rattle.machine.specs.Skips.{skips}

-- ---- tiles, the top as the last of them, P set
abbrev pub all : Heap → List Tile
all h = h.tiles ++ tile (top_size h) 1 0 ∷ []

-- sizes are multiples of 16 and at least 32, P is a bit
abbrev pub tiled : List Tile → Type 0
tiled [] = Unit {0}
tiled (t ∷ ts) = (t.size % 16 ≡ 0) × (least_chunk ≤ t.size) × (t.p ≤ 1) × tiled ts

-- the words of tiles from offset o on: each size word, and the previous size where P is clear
abbrev pub tiles_at : List ℕ → ℕ → List Tile → Type 0
tiles_at w o [] = Unit {0}
tiles_at w o (t ∷ ts) = (get_or w (size_word o) 0 ≡ t.size + t.p) × (t.p ≡ 0 → get_or w (prev_word o) 0 ≡ t.prev) × tiles_at w (o + t.size) ts

-- ---- lists in memory: along the forward links, which are stored by edition d; a bin both ways, after p and before n
abbrev pub chain_by : ℕ → List ℕ → List ℕ → Type 0
chain_by d w [] = Unit {0}
chain_by d w (x ∷ l) = (get_or w (fwd_word x) 0 ≡ stored d x (hd none64 l)) × chain_by d w l

abbrev pub chain : List ℕ → List ℕ → Type 0
chain w l = chain_by plain w l

abbrev pub links : List ℕ → ℕ → List ℕ → ℕ → Type 0
links w p [] n = Unit {0}
links w p (x ∷ l) n = (get_or w (fwd_word x) 0 ≡ hd n l) × (get_or w (back_word x) 0 ≡ p) × links w x l n

-- the words are as writes would leave them
abbrev pub stand : List Write → List ℕ → Type 0
stand [] w = Unit {0}
stand (e ∷ es) w = (get_or w (who e / 8 + field e) 0 ≡ value e w) × stand es w

-- by the rules of version v: since version 2 each cached chunk has the key, since version 3 the bins have skip links
pub record MemBy (v : ℕ) (h : Heap) (w : List ℕ) : Type 0 where
  pub long : 8 * length w ≡ h.len
  pub words : tiles_at w 0 (all h)
  pub chains : (k : ℕ) → chain_by h.edition w (stack h k)
  pub blinks : (j : ℕ) → links w none64 (bin h j) none64
  pub keys : 2 ≤ v → (k x : ℕ) → k < cache_lists → 1 ≤ cnt x (stack h k) → get_or w (key_word x) 0 ≡ h.key
  pub key64 : h.key < 2 ^ 64
  pub edited : (h.edition ≡ plain) ⊎ (h.edition ≡ mixed)
  pub skipped : 3 ≤ v → (j : ℕ) → stand (skips j (λ x. size_of h x) (bin h j)) w

abbrev pub Mem : Heap → List ℕ → Type 0
Mem h w = MemBy newest h w

-- ---- after every primitive: the tiles fill the arena, each listed chunk is a chunk but the top, and in one list once; one of a bin from 64 on is large
pub record Shape (h : Heap) : Type 0 where
  pub small : h.len ≤ most_arena
  pub sizes : tiled (all h)
  pub stacked74 : length h.stacks ≡ 74
  pub binned127 : length h.bins ≡ 127
  pub own : (x : ℕ) → total x h ≤ cnt x (starts h)
  pub roomy : (j x : ℕ) → first_large ≤ j → 1 ≤ cnt x (bin h j) → large ≤ size_of h x

-- c is a chunk but the top that no list has: a live block, or one between two lists
abbrev pub Loose : Heap → ℕ → Type 0
Loose h c = total c h < cnt c (starts h)

-- ---- P and the end notes. q: how often the bins have the tile before; s: its size
abbrev pub flags : (ℕ → ℕ) → ℕ → ℕ → ℕ → List Tile → Type 0
flags b o q s [] = Unit {0}
flags b o q s (t ∷ ts) =
    (t.p + q ≡ 1) × (q + b o ≤ 1) × ((t.p ≡ 0 → t.prev ≡ s) × (t.p ≡ 1 → t.prev ≡ 0)) × flags b (o + t.size) (b o) t.size ts

-- ---- lists: each chunk has a size of its list's own, large bins fall, cache lists are short, bin 0 is none
abbrev pub falls : (ℕ → ℕ) → List ℕ → Type 0
falls sz [] = Unit {0}
falls sz (x ∷ l) = ((y : ℕ) → 1 ≤ cnt y l → sz y ≤ sz x) × falls sz l

-- the size that stack k owns: cache list k, or fast list k - 64
abbrev pub stack_size : ℕ → ℕ
stack_size k = elim (ltb k cache_lists) [ true ↦ 32 + 16 * k | false ↦ 32 + 16 * (k - cache_lists) ]

pub record Homes (h : Heap) : Type 0 where
  pub stacked : (k x : ℕ) → 1 ≤ cnt x (stack h k) → size_of h x ≡ stack_size k
  pub quick : (k x : ℕ) → cache_lists ≤ k → 1 ≤ cnt x (stack h k) → size_of h x ≤ most_fast
  pub short : (k : ℕ) → k < cache_lists → length (stack h k) ≤ cache_room
  pub none : bin h 0 ≡ []
  pub sorted : (j x : ℕ) → 2 ≤ j → 1 ≤ cnt x (bin h j) → bin_of (size_of h x) ≡ j
  pub falling : (j : ℕ) → 64 ≤ j → falls (λ x. size_of h x) (bin h j)

-- ---- between steps
pub record Good (h : Heap) : Type 0 where
  pub shape : Shape h
  pub homes : Homes h
  pub flag : flags (λ x. binned h x) 0 0 0 (all h)

-- ---- words and record are those of the heap h, which is sound
pub record SoundBy (v : ℕ) (h : Heap) (w r : List ℕ) : Type 0 where
  pub good : Good h
  pub mem : MemBy v h w
  pub rec : r ≡ record_of h

abbrev pub Sound : Heap → List ℕ → List ℕ → Type 0
Sound h w r = SoundBy newest h w r
