-- Release, join, consolidate, and the two jobs emptying and joining (document 02, (vii)), in the documents' words and order. Definitions only.
use Rattle.std.specs.Prelude.{List, [], ◌∷◌, true, false, ℕ, zero, suc, ◌-◌, eqb, ltb, leb, length, Option}
use Rattle.sizes.specs.Limits.{none32, most_cached, cache_room, cache_lists, most_fast, consolidate_from, fast_lists, unsorted}
use Rattle.sizes.specs.Sizes.{cache_of, fast_of}
use Rattle.machine.specs.Lists.{both}
use Rattle.machine.specs.Heap.{Heap, stack, cache, fast_at, any_fast?, binned, bin_has, top_of, size_of, p_of, next, before}
use Rattle.machine.specs.Writes.{Ran, ran, does, giving, more, ◌>>=◌}
use Rattle.machine.specs.Primitives.{push, pop, push_cache, take_cache, put_first, unlink, swallow, clear_p, to_top, set_remainder}

-- x leaves its bin, and c takes in the chunk after it
unfoldable pub absorb : ℕ → ℕ → Heap → Ran (Unit {0})
absorb x c h = unlink (bin_has h x) x h >>= swallow c

-- with the chunk after if it is binned
unfoldable pub join_next : ℕ → Heap → Ran (Unit {0})
join_next c h = elim (eqb (binned h (next h c)) 0) [ true ↦ does h [] | false ↦ absorb (next h c) c h ]

-- touching the top, the whole becomes top; otherwise clear the next P, write the end size, and go first in unsorted. Answers the whole's size
unfoldable pub put_down : ℕ → Heap → Ran ℕ
put_down c h = elim (eqb (next h c) (top_of h)) [
  | true ↦ giving (h.len - c) (to_top c h)
  | false ↦ giving (size_of h c) do
    h ← clear_p (next h c) (size_of h c) h
    put_first unsorted c h
]

-- join: with the chunk before if P is clear, then with the chunk after. A whole's size word is written, P set, with each chunk taken in;
-- where none is, the chunk's own has P set already
unfoldable pub join : ℕ → Heap → Ran ℕ
join c h = elim (eqb (p_of h c) 0) [
  | true ↦ do
    h₁ ← absorb (before h c) (before h c) h
    h₂ ← join_next (before h c) h₁
    put_down (before h c) h₂
  | false ↦ do
    h₁ ← join_next c h
    put_down c h₁
]

-- stack k, whose chunks are l, from its head: take the chunk out, by t, and do f with it
unfoldable pub drain : (ℕ → Heap → Ran (Option ℕ)) → (ℕ → Heap → Ran ℕ) → ℕ → List ℕ → Heap → Ran (Unit {0})
drain t f k [] h = does h []
drain t f k (c ∷ l) h = do
  h ← t k h
  h ← f c h
  drain t f k l h

-- n stacks, from number k on
unfoldable pub drains : (ℕ → Heap → Ran (Option ℕ)) → (ℕ → Heap → Ran ℕ) → ℕ → ℕ → Heap → Ran (Unit {0})
drains t f zero k h = does h []
drains t f (suc n) k h = do
  h ← drain t f k (stack h k) h
  drains t f n (suc k) h

-- consolidate: fast lists 0 to 9, each from its head: take the chunk out, and join
unfoldable pub consolidate : Heap → Ran (Unit {0})
consolidate h = drains pop join fast_lists (fast_at 0) h

-- when the joining yields 65,536 bytes or more, the top included when it was joined, and a fast list is non-empty, it consolidates (document 02, (vi))
abbrev pub joined : Ran ℕ → Ran ℕ
joined (ran h ws s) = elim (both (leb consolidate_from s) (any_fast? h)) [ true ↦ more ws (giving s (consolidate h)) | false ↦ ran h ws s ]

-- past the cache: up to 128 on the fast list, else join. Answers the size that the joining yields, 0 where none is joined
unfoldable pub release_past : ℕ → Heap → Ran ℕ
release_past c h = elim (leb (size_of h c) most_fast) [ true ↦ giving 0 (push (fast_at (fast_of (size_of h c))) c h) | false ↦ joined (join c h) ]

-- size up to 1,040 and its cache list under 7: push; else past the cache
unfoldable pub release : ℕ → Heap → Ran ℕ
release c h = elim (both (leb (size_of h c) most_cached) (ltb (length (cache h (cache_of (size_of h c)))) cache_room)) [
  | true ↦ giving 0 (push_cache (cache_of (size_of h c)) c h)
  | false ↦ release_past c h
]

-- emptying: cache lists 0 to 63, each from its head: taken, and released past the cache, to fast lists or joined
unfoldable pub emptying : Heap → Ran (Unit {0})
emptying h = drains take_cache release_past cache_lists 0 h

-- joining: consolidate, clear the last remainder
unfoldable pub joining : Heap → Ran (Unit {0})
joining h = consolidate h >>= set_remainder none32
