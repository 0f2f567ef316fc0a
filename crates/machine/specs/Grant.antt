-- Grant: document 01's steps 1 to 9, in its words and order, for a chunk size b. Definitions only.
use Rattle.std.specs.Prelude.{List, [], ◌∷◌, Bool, true, false, ℕ, zero, suc, ◌+◌, ◌-◌, min, eqb, ltb, leb, length, Option, Some, None}
use Rattle.sizes.specs.Limits.{none64, most_cached, cache_room, most_fast, large, unsorted, last_bin, least_chunk}
use Rattle.sizes.specs.Sizes.{cache_of, fast_of, bin_of}
use Rattle.machine.specs.Lists.{both, hd, lst, some?}
use Rattle.machine.specs.Heap.{Heap, cache, fast_at, fast, bin, any_fast?, top_size, size_of, next}
use Rattle.machine.specs.Writes.{Ran, ran, does, giving, more, ◌>>=◌, nothing, ◌or_else◌}
use Rattle.machine.specs.Primitives.{pop, push_cache, take_cache, link_in, put_first, unlink, set_p, set_note, cut_at, cut_top, set_remainder}
use Rattle.machine.specs.Release.{consolidate}
use Rattle.machine.specs.declared.{Turn.Turn}
use Rattle.machine.specs.declared.Turn.TheVariants as T

-- the cache has fewer than 7 of size b
abbrev pub room_for? : ℕ → Heap → Bool
room_for? b h = ltb (length (cache h (cache_of b))) cache_room

-- 1. Cache list of b non-empty: take its head.
unfoldable pub step1 : ℕ → Heap → Ran (Option ℕ)
step1 b h = elim (both (leb b most_cached) (some? (cache h (cache_of b)))) [ true ↦ take_cache (cache_of b) h | false ↦ nothing h ]

-- 2. b ≤ 128 and the fast list non-empty: take its head, then move heads from there to the cache until the cache has 7 or the list is empty.
unfoldable pub move_fast : ℕ → List ℕ → Heap → Ran (Unit {0})
move_fast b [] h = does h []
move_fast b (c ∷ l) h = elim (room_for? b h) [
  | true ↦ do
    h ← pop (fast_at (fast_of b)) h
    h ← push_cache (cache_of b) c h
    move_fast b l h
  | false ↦ does h []
]

unfoldable pub step2 : ℕ → Heap → Ran (Option ℕ)
step2 b h = elim (both (leb b most_fast) (some? (fast h (fast_of b)))) [
  | true ↦ giving (Some (hd none64 (fast h (fast_of b)))) do
    h ← pop (fast_at (fast_of b)) h
    move_fast b (fast h (fast_of b)) h
  | false ↦ nothing h
]

-- 3. b < 1,024 and bin b/16 non-empty: take the last, setting the next chunk's P; move further lasts to the cache in the same way, each with the
-- next chunk's P set. (n turns at most: the bin's length)
unfoldable pub take_last : ℕ → ℕ → Heap → Ran (Unit {0})
take_last j c h = do
  h ← unlink j c h
  set_p (next h c) h

unfoldable pub move_lasts : ℕ → ℕ → Heap → Ran (Unit {0})
move_lasts zero b h = does h []
move_lasts (suc n) b h = elim (both (room_for? b h) (some? (bin h (bin_of b)))) [
  | true ↦ do
    h₁ ← take_last (bin_of b) (lst none64 (bin h (bin_of b))) h
    h₂ ← push_cache (cache_of b) (lst none64 (bin h (bin_of b))) h₁
    move_lasts n b h₂
  | false ↦ does h []
]

unfoldable pub step3 : ℕ → Heap → Ran (Option ℕ)
step3 b h = elim (both (ltb b large) (some? (bin h (bin_of b)))) [
  | true ↦ giving (Some (lst none64 (bin h (bin_of b)))) do
    h ← take_last (bin_of b) (lst none64 (bin h (bin_of b))) h
    move_lasts (length (bin h (bin_of b))) b h
  | false ↦ nothing h
]

-- 4. b ≥ 1,024 and some fast list non-empty: consolidate.
unfoldable pub step4 : ℕ → Heap → Ran (Unit {0})
step4 b h = elim (both (leb large b) (any_fast? h)) [ true ↦ consolidate h | false ↦ does h [] ]

-- A split: both parts P set, the rest's size at its end. The rest goes first in unsorted.
unfoldable pub split : ℕ → ℕ → Heap → Ran (Unit {0})
split c b h = do
  h₁ ← cut_at c b h
  h₂ ← set_note (next h c) (size_of h c - b) h₁
  put_first unsorted (c + b) h₂

-- In its bin: first in a small bin; large bins fall in size, and a newcomer equal to others goes second among its equals.
-- front and behind: what stands before the newcomer of size z, and what after it
abbrev pub front : (ℕ → ℕ) → ℕ → List ℕ → List ℕ
front sz z [] = []
front sz z (x ∷ l) = elim (ltb (sz x) z) [ true ↦ [] | false ↦ elim (eqb (sz x) z) [ true ↦ x ∷ [] | false ↦ x ∷ front sz z l ] ]

abbrev pub behind : (ℕ → ℕ) → ℕ → List ℕ → List ℕ
behind sz z [] = []
behind sz z (x ∷ l) = elim (ltb (sz x) z) [ true ↦ x ∷ l | false ↦ elim (eqb (sz x) z) [ true ↦ l | false ↦ behind sz z l ] ]

unfoldable pub sort_in : ℕ → Heap → Ran (Unit {0})
sort_in c h = elim (ltb (size_of h c) large) [
  | true ↦ put_first (bin_of (size_of h c)) c h
  | false ↦
      link_in (bin_of (size_of h c)) c
      (front (λ x. size_of h x) (size_of h c) (bin h (bin_of (size_of h c))))
      (behind (λ x. size_of h x) (size_of h c) (bin h (bin_of (size_of h c)))) h
]

-- 5. Go through unsorted from the last. If b < 1,024, the chunk is the only one, is the last remainder, and its size is greater than b+32: split it;
-- the rest stays the one unsorted chunk and becomes last remainder.
abbrev pub lone? : ℕ → ℕ → Heap → Bool
lone? b c h = both (ltb b large) (both (eqb (length (bin h unsorted)) 1) (both (eqb c h.remainder) (ltb (b + 32) (size_of h c))))

unfoldable pub split_lone : ℕ → ℕ → Heap → Ran Turn
split_lone b c h = giving (T.Granted c) do
  h ← unlink unsorted c h
  h ← split c b h
  set_remainder (c + b) h

-- Size equal to b: set the next P; if b is at most 1,040 and its cache list has fewer than 7, put it there and go on, else grant it.
unfoldable pub keep : ℕ → ℕ → Heap → Ran Turn
keep b c h = elim (both (leb b most_cached) (room_for? b h)) [ true ↦ giving T.Cached (push_cache (cache_of b) c h) | false ↦ ran h [] (T.Granted c) ]

-- Otherwise take it out. Any other size: put it in its bin.
unfoldable pub turn_at : ℕ → ℕ → Heap → Ran Turn
turn_at b c h = elim (lone? b c h) [
  | true ↦ split_lone b c h
  | false ↦ elim (eqb (size_of h c) b) [
    | true ↦ do
      h ← unlink unsorted c h
      h ← set_p (next h c) h
      keep b c h
    | false ↦ giving T.Binned do
      h ← unlink unsorted c h
      sort_in c h
  ]
]

unfoldable pub turn : ℕ → Heap → Ran Turn
turn b h = elim (some? (bin h unsorted)) [ true ↦ turn_at b (lst none64 (bin h unsorted)) h | false ↦ ran h [] T.Empty ]

-- If one was cached, grant the cache head.
unfoldable pub swept : ℕ → Bool → Heap → Ran (Option ℕ)
swept b got h = elim got [ true ↦ take_cache (cache_of b) h | false ↦ nothing h ]

-- what follows a turn: its chunk granted, or the sweep goes on with one cached, or with one binned, or is at its end
abbrev pub after_turn : Ran Turn → (Heap → Ran (Option ℕ)) → (Heap → Ran (Option ℕ)) → (Heap → Ran (Option ℕ)) → Ran (Option ℕ)
after_turn (ran h ws (T.Granted c)) kept sorted over = ran h ws (Some c)
after_turn (ran h ws T.Cached) kept sorted over = more ws (kept h)
after_turn (ran h ws T.Binned) kept sorted over = more ws (sorted h)
after_turn (ran h ws T.Empty) kept sorted over = more ws (over h)

-- n turns at most, as each takes a chunk out of unsorted; got: whether one was cached. (Document 02, (xiv), took out "Stop after 10,000 chunks binned".)
unfoldable pub sweep : ℕ → ℕ → Bool → Heap → Ran (Option ℕ)
sweep zero b got h = swept b got h
sweep (suc n) b got h = after_turn (turn b h) (λ g. sweep n b true g) (λ g. sweep n b got g) (λ g. swept b got g)

unfoldable pub step5 : ℕ → Heap → Ran (Option ℕ)
step5 b h = sweep (length (bin h unsorted)) b false h

-- 8. In 6 and 7: a rest under 32 stays with the block and the next P is set; else split, the rest goes first in unsorted,
-- and in 7 with b < 1,024 it becomes last remainder.
unfoldable pub carve : ℕ → ℕ → Bool → Heap → Ran (Unit {0})
carve c b new? h = elim (ltb (size_of h c - b) least_chunk) [
  | true ↦ set_p (next h c) h
  | false ↦ elim new? [ true ↦ split c b h >>= set_remainder (c + b) | false ↦ split c b h ]
]

unfoldable pub step8 : ℕ → ℕ → ℕ → Bool → Heap → Ran (Option ℕ)
step8 j c b new? h = giving (Some c) (unlink j c h >>= carve c b new?)

-- 6. b ≥ 1,024: in its own bin take the smallest that is at least b, the second of its equals if there are several.
-- the smallest size that is at least b, 0 where there is none; the chunks of size z
abbrev pub least_fit : (ℕ → ℕ) → ℕ → List ℕ → ℕ
least_fit sz b [] = 0
least_fit sz b (x ∷ l) = elim (ltb (sz x) b) [ true ↦ least_fit sz b l | false ↦ elim (eqb (least_fit sz b l) 0) [ true ↦ sz x | false ↦ min (sz x) (least_fit sz b l) ] ]

abbrev pub equals : (ℕ → ℕ) → ℕ → List ℕ → List ℕ
equals sz z [] = []
equals sz z (x ∷ l) = elim (eqb (sz x) z) [ true ↦ x ∷ equals sz z l | false ↦ equals sz z l ]

abbrev pub second : List ℕ → Option ℕ
second [] = None
second (x ∷ []) = Some x
second (x ∷ y ∷ l) = Some y

abbrev pub fit : (ℕ → ℕ) → ℕ → List ℕ → Option ℕ
fit sz b l = elim (eqb (least_fit sz b l) 0) [ true ↦ None | false ↦ second (equals sz (least_fit sz b l) l) ]

unfoldable pub step6 : ℕ → Heap → Ran (Option ℕ)
step6 b h = elim (leb large b) [
  | true ↦ elim (fit (λ x. size_of h x) b (bin h (bin_of b))) [ Some c ↦ step8 (bin_of b) c b false h | None ↦ nothing h ]
  | false ↦ nothing h
]

-- 7. Otherwise the last chunk of the first non-empty bin above b's. (n bins from number j on)
abbrev pub first_bin : ℕ → ℕ → Heap → Option ℕ
first_bin zero j h = None
first_bin (suc n) j h = elim (some? (bin h j)) [ true ↦ Some j | false ↦ first_bin n (suc j) h ]

unfoldable pub step7 : ℕ → Heap → Ran (Option ℕ)
step7 b h = elim (first_bin (last_bin - bin_of b) (suc (bin_of b)) h) [ Some j ↦ step8 j (lst none64 (bin h j)) b (ltb b large) h | None ↦ nothing h ]

-- 9. Top of at least b+32: cut b off its front.
unfoldable pub step9 : ℕ → Heap → Ran (Option ℕ)
step9 b h = elim (leb (b + 32) (top_size h)) [ true ↦ cut_top b h | false ↦ nothing h ]

-- 5 to 9 once
unfoldable pub pass : ℕ → Heap → Ran (Option ℕ)
pass b h = step5 b h or_else step6 b or_else step7 b or_else step9 b

-- Else, if a fast list is non-empty, consolidate and go to 5; else refuse. (No fast list holds a chunk then, so this happens once)
unfoldable pub again : ℕ → Heap → Ran (Option ℕ)
again b h = elim (any_fast? h) [ true ↦ consolidate h >>= pass b | false ↦ nothing h ]

-- steps 4 to 9, steps 2 to 9, and all of grant
unfoldable pub from4 : ℕ → Heap → Ran (Option ℕ)
from4 b h = do
  h ← step4 b h
  pass b h or_else again b

unfoldable pub seek : ℕ → Heap → Ran (Option ℕ)
seek b h = step2 b h or_else step3 b or_else from4 b

unfoldable pub grant : ℕ → Heap → Ran (Option ℕ)
grant b h = step1 b h or_else seek b
