-- The audit: the first fault of the heap that words and record spell, in the order record, tiles, lists, flags. By the rules of version v, which are the
-- newest but for a heap that is read from an older image. Definitions only.
use Rattle.std.specs.Prelude.{List, [], ◌∷◌, ◌++◌, Bool, true, false, ℕ, suc, ◌+◌, ◌*◌, eqb, ltb, leb, length, get_or, drop, Result, Ok, Err}
use Rattle.sizes.specs.Limits.{none64, cache_room, most_fast, unsorted, least_chunk, newest, plain, mixed}
use Rattle.sizes.specs.Sizes.{bin_of}
use Rattle.sizes.specs.Layout.{length_word, top_word, cache_count, bin_last, back_word, key_word}
use Rattle.machine.specs.Lists.{both, either, has?, without, minus}
use Rattle.machine.specs.Heap.{Tile, Heap, starts, end_from, binned}
use Rattle.machine.specs.Writes.{stand?}
use Rattle.machine.specs.Skips.{skips}
use Rattle.machine.specs.View.{size_at, low_at, tile_at, up, kind_at, key_in, edition_in, view}
use Rattle.machine.specs.declared.{ListKind.ListKind, Fault.Fault}
use Rattle.machine.specs.declared.ListKind.TheVariants.{Cache, Fast, Bin}
use Rattle.machine.specs.declared.Fault.TheVariants as A

-- what an audit answers: sound, or the first fault
abbrev pub Audited : Type 0
Audited = Result (Unit {0}) Fault

abbrev pub sound? : Audited → Bool
sound? (Ok u) = true
sound? (Err f) = false

-- the first of two answers that is a fault
abbrev pub first : Audited → Audited → Audited
first x y = elim (sound? x) [ true ↦ y | false ↦ x ]

-- ---- Record: its length is the arena's; its edition is 1 or 2.
abbrev pub edition? : ℕ → Bool
edition? d = either (eqb d plain) (eqb d mixed)

abbrev pub record_fault : List ℕ → List ℕ → Audited
record_fault w r = elim (both (eqb (get_or r length_word 0) (8 * length w)) (edition? (edition_in r))) [ true ↦ Ok tt | false ↦ Err A.Record ]

-- ---- Tiles from 0: size a multiple of 16, at least 32, within what remains, bits 1 to 3 clear; the tile that reaches the end is the record's top.
-- (a multiple of 16 by size_at; all but the last lie within what remains, as tiles_from reads them)
abbrev pub tile_ok : List ℕ → ℕ → Bool
tile_ok w o = both (ltb (low_at w o) 2) (leb least_chunk (size_at w o))

unfoldable pub tile_fault : List ℕ → ℕ → ℕ → List Tile → Audited
tile_fault w top o [] = elim (both (tile_ok w o) (both (eqb (o + size_at w o) (8 * length w)) (eqb top o))) [ true ↦ Ok tt | false ↦ Err (A.Tile o) ]
tile_fault w top o (t ∷ ts) = elim (tile_ok w o) [ true ↦ tile_fault w top (o + t.size) ts | false ↦ Err (A.Tile o) ]

-- ---- Lists. A cached chunk has the key in its second word; version 1 does not ask for it
abbrev pub key_ok : ℕ → List ℕ → List ℕ → ℕ → Bool
key_ok v w r c = either (ltb v 2) (eqb (get_or w (key_word c) 0) (key_in r))

-- Whether the chunk c may stand in a list of this kind after the chunk p (none64: first) and n chunks in all: a size of its own,
-- the back link, the order, not more than 7, the key
abbrev pub may_stand : ℕ → ListKind → List ℕ → List ℕ → ℕ → ℕ → ℕ → Bool
may_stand v (Cache k) w r p n c = both (eqb (size_at w c) (32 + 16 * k)) (both (ltb n cache_room) (key_ok v w r c))
may_stand v (Fast k) w r p n c = both (eqb (size_at w c) (32 + 16 * k)) (leb (size_at w c) most_fast)
may_stand v (Bin j) w r p n c =
    both (either (eqb j unsorted) (eqb (bin_of (size_at w c)) j))
    (both (eqb (get_or w (back_word c) 0) p)
    (either (ltb j 64) (either (eqb p none64) (leb (size_at w c) (size_at w p)))))

-- whether such a list may end after the chunk p and n chunks in all: the count, the last
abbrev pub may_end : ListKind → List ℕ → ℕ → ℕ → Bool
may_end (Cache k) r p n = eqb (get_or r (cache_count k) 0) n
may_end (Fast k) r p n = true
may_end (Bin j) r p n = eqb (up (get_or r (bin_last j) 0)) p

-- left: the chunks, the top not among them, that were not met before
unfoldable pub good_from : ℕ → ListKind → List ℕ → List ℕ → List ℕ → ℕ → ℕ → List ℕ → Bool
good_from v k w r left p n [] = may_end k r p n
good_from v k w r left p n (c ∷ l) = both (both (has? c left) (may_stand v k w r p n c)) (good_from v k w r (without c left) c (suc n) l)

-- whether the skip links of such a list's chunks are right; versions 1 and 2 do not ask for them
abbrev pub skips_ok : ℕ → ListKind → List ℕ → List ℕ → Bool
skips_ok v (Cache k) w l = true
skips_ok v (Fast k) w l = true
skips_ok v (Bin j) w l = either (ltb v 3) (stand? (skips j (λ x. size_at w x) l) w)

-- list after list, from number i on
unfoldable pub list_fault : ℕ → List ℕ → List ℕ → ℕ → List ℕ → List (List ℕ) → Audited
list_fault v w r i left [] = Ok tt
list_fault v w r i left (l ∷ ls) =
    elim (both (good_from v (kind_at i) w r left none64 0 l) (skips_ok v (kind_at i) w l)) [
      | true ↦ list_fault v w r (suc i) (minus left l) ls
      | false ↦ Err (A.List (kind_at i))
    ]

-- ---- Flags, chunk by chunk: P is clear exactly if the chunk before is in a bin, and the previous size is then its size; no binned chunk touches another
-- or the top; chunk 0 has P set. q: how often the bins have the chunk before, s: its size; b: how often they have this one, the top counting as binned
abbrev pub flag_ok : Tile → ℕ → ℕ → ℕ → Bool
flag_ok t q s b = elim (eqb q 0) [ true ↦ eqb t.p 1 | false ↦ both (eqb t.p 0) (both (eqb t.prev s) (eqb b 0)) ]

-- the tiles, and the top after them
unfoldable pub flag_fault : (ℕ → ℕ) → Tile → ℕ → ℕ → ℕ → List Tile → Audited
flag_fault b top o q s [] = elim (flag_ok top q s 1) [ true ↦ Ok tt | false ↦ Err (A.Flag o) ]
flag_fault b top o q s (t ∷ ts) = elim (flag_ok t q s (b o)) [ true ↦ flag_fault b top (o + t.size) (b o) t.size ts | false ↦ Err (A.Flag o) ]

-- ---- the whole
abbrev pub lists : Heap → List (List ℕ)
lists h = h.stacks ++ drop 1 h.bins

abbrev pub fault_in : ℕ → Heap → List ℕ → List ℕ → Audited
fault_in v h w r =
    first (record_fault w r)
    (first (tile_fault w (get_or r top_word 0) 0 h.tiles)
    (first (list_fault v w r 0 (starts h) (lists h))
    (flag_fault (binned h) (tile_at w (end_from 0 h.tiles)) 0 0 0 h.tiles)))

unfoldable pub audit_by : ℕ → List ℕ → List ℕ → Audited
audit_by v w r = fault_in v (view w r) w r

abbrev pub audit_of : List ℕ → List ℕ → Audited
audit_of w r = audit_by newest w r
