-- The primitives: one push and one take for stacks, one unlink and one insert for bins, the edits of tiles. Each names every field it writes. Definitions only.
use Rattle.std.specs.Prelude.{List, [], ◌∷◌, ◌++◌, ℕ, ◌+◌, ◌-◌, Option, Some}
use Rattle.sizes.specs.Limits.{none64}
use Rattle.machine.specs.Lists.{hd, lst, tl, pre, post}
use Rattle.machine.specs.Mixing.{stored}
use Rattle.machine.specs.Heap.{Tile, tile, Heap, stack, bin, with_tiles, with_stack, with_bin, with_remainder, up_to, edit, top_of, size_of, p_of, next}
use Rattle.machine.specs.Writes.{Write, size, note, link, fwd, back, key, Ran, ran, does, ◌>>=◌}
use Rattle.machine.specs.Skips.{skips_in, skips_out}

-- ---- stacks: the only place that writes a stack's link
abbrev pub push : ℕ → ℕ → Heap → Ran (Unit {0})
push k c h = does (with_stack k (c ∷ stack h k) h) (link c (stored h.edition c (hd none64 (stack h k))) ∷ [])

abbrev pub pop : ℕ → Heap → Ran (Option ℕ)
pop k h = ran (with_stack k (tl (stack h k)) h) [] (Some (hd none64 (stack h k)))

-- the cache's push and take: a cached chunk has the key in its second word, and 0 there when it is taken (document 02, (viii))
abbrev pub push_cache : ℕ → ℕ → Heap → Ran (Unit {0})
push_cache k c h = do
  h ← push k c h
  does h (key c h.key ∷ [])

abbrev pub take_cache : ℕ → Heap → Ran (Option ℕ)
take_cache k h = do
  h₁ ← pop k h
  ran h₁ (key (hd none64 (stack h k)) 0 ∷ []) (Some (hd none64 (stack h k)))

-- ---- bins: the last of xs gets c as its forward link, the first of ys as its back link; nothing where there is none
abbrev pub fwd_to : List ℕ → ℕ → List Write
fwd_to [] c = []
fwd_to (x ∷ xs) c = fwd (lst x xs) c ∷ []

abbrev pub back_to : List ℕ → ℕ → List Write
back_to [] c = []
back_to (y ∷ ys) c = back y c ∷ []

-- c goes into bin j between xs and ys; c goes first in bin j. The skip links follow the bin's list
abbrev pub links_in : ℕ → List ℕ → List ℕ → List Write
links_in c xs ys = fwd c (hd none64 ys) ∷ back c (lst none64 xs) ∷ fwd_to xs c ++ back_to ys c

abbrev pub link_in : ℕ → ℕ → List ℕ → List ℕ → Heap → Ran (Unit {0})
link_in j c xs ys h = does (with_bin j (xs ++ c ∷ ys) h) (links_in c xs ys ++ skips_in j (λ x. size_of h x) c (xs ++ c ∷ ys))

abbrev pub put_first : ℕ → ℕ → Heap → Ran (Unit {0})
put_first j c h = link_in j c [] (bin h j) h

-- c leaves bin j, from between xs and ys; its own links stay as they are
abbrev pub links_out : List ℕ → List ℕ → List Write
links_out xs ys = fwd_to xs (hd none64 ys) ++ back_to ys (lst none64 xs)

abbrev pub unlink : ℕ → ℕ → Heap → Ran (Unit {0})
unlink j c h =
    does (with_bin j (pre c (bin h j) ++ post c (bin h j)) h)
    (links_out (pre c (bin h j)) (post c (bin h j)) ++ skips_out j (λ x. size_of h x) (pre c (bin h j) ++ post c (bin h j)))

-- ---- tiles, changed from some chunk on
abbrev pub swallow_t : List Tile → List Tile
swallow_t [] = []
swallow_t (t ∷ []) = t ∷ []
swallow_t (t ∷ u ∷ z) = tile (t.size + u.size) 1 0 ∷ z

abbrev pub mark_t : ℕ → ℕ → List Tile → List Tile
mark_t b n [] = []
mark_t b n (t ∷ z) = tile t.size b n ∷ z

abbrev pub note_t : ℕ → List Tile → List Tile
note_t n [] = []
note_t n (t ∷ z) = tile t.size t.p n ∷ z

abbrev pub cut_t : ℕ → List Tile → List Tile
cut_t b [] = []
cut_t b (t ∷ z) = tile b 1 0 ∷ tile (t.size - b) 1 0 ∷ z

-- the same of a block that keeps its own P and its previous size: it takes in the next chunk; it is cut at b; it gets the size b
abbrev pub widen_t : List Tile → List Tile
widen_t [] = []
widen_t (t ∷ []) = t ∷ []
widen_t (t ∷ u ∷ z) = tile (t.size + u.size) t.p t.prev ∷ z

abbrev pub trim_t : ℕ → List Tile → List Tile
trim_t b [] = []
trim_t b (t ∷ z) = tile b t.p t.prev ∷ tile (t.size - b) 1 0 ∷ z

abbrev pub grow_t : ℕ → List Tile → List Tile
grow_t b [] = []
grow_t b (t ∷ z) = tile b t.p t.prev ∷ z

-- c takes in the chunk after it: the whole's size word, P set
abbrev pub swallow : ℕ → Heap → Ran (Unit {0})
swallow c h = does (edit c swallow_t h) (size c (size_of h c + size_of h (next h c)) 1 ∷ [])

-- n's P is cleared, and the size s of the chunk before it is noted; n's P is set; only the note
abbrev pub clear_p : ℕ → ℕ → Heap → Ran (Unit {0})
clear_p n s h = does (edit n (mark_t 0 s) h) (size n (size_of h n) 0 ∷ note n s ∷ [])

abbrev pub set_p : ℕ → Heap → Ran (Unit {0})
set_p n h = does (edit n (mark_t 1 0) h) (size n (size_of h n) 1 ∷ [])

abbrev pub set_note : ℕ → ℕ → Heap → Ran (Unit {0})
set_note n s h = does (edit n (note_t s) h) (note n s ∷ [])

-- c is cut at b: both parts' size words, P set
abbrev pub cut_at : ℕ → ℕ → Heap → Ran (Unit {0})
cut_at c b h = does (edit c (cut_t b) h) (size c b 1 ∷ size (c + b) (size_of h c - b) 1 ∷ [])

-- c, the last chunk before the top, becomes the top; b bytes are cut off the top's front. The top has no end note
abbrev pub to_top : ℕ → Heap → Ran (Unit {0})
to_top c h = does (with_tiles (up_to 0 c h.tiles) h) (size c (h.len - c) 1 ∷ [])

abbrev pub cut_top : ℕ → Heap → Ran (Option ℕ)
cut_top b h =
    ran (with_tiles (h.tiles ++ tile b 1 0 ∷ []) h)
    (size (top_of h) b 1 ∷ size (top_of h + b) (h.len - (top_of h + b)) 1 ∷ [])
    (Some (top_of h))

abbrev pub set_remainder : ℕ → Heap → Ran (Unit {0})
set_remainder c h = does (with_remainder c h) []

-- a block c with its own P as it stands: it takes in the chunk after it; it is cut at b; the last before the top, it takes from the top what it lacks of b
abbrev pub widen : ℕ → Heap → Ran (Unit {0})
widen c h = does (edit c widen_t h) (size c (size_of h c + size_of h (next h c)) (p_of h c) ∷ [])

abbrev pub trim_at : ℕ → ℕ → Heap → Ran (Unit {0})
trim_at c b h = does (edit c (trim_t b) h) (size c b (p_of h c) ∷ size (c + b) (size_of h c - b) 1 ∷ [])

abbrev pub grow_top : ℕ → ℕ → Heap → Ran (Unit {0})
grow_top c b h = does (edit c (grow_t b) h) (size c b (p_of h c) ∷ size (c + b) (h.len - (c + b)) 1 ∷ [])
