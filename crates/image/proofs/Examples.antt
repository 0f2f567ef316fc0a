-- A file's first bytes, each refusal in its order, on short files, and images of versions 2 and 3 that are read. By computation. Assumes nothing.
use Rattle.std.specs.Prelude.{Ok, Err}
use mathlib.Core.Path.{◌≡◌, refl}
use mathlib.Core.List.{List, [], ◌∷◌, ◌++◌}
use Prim.Native.Nat.{ℕ}
use lib.ListN.{take, drop, replicate}
use Rattle.le.specs.Number.{number, number_from, digits, bytes}
use Rattle.sizes.specs.Limits.{none32, none64}
use Rattle.machine.specs.Heap.{tile, Heap, record_of}
use Rattle.image.specs.Image.{image, after_reading, read_call}
use Rattle.image.specs.declared.Unread.TheVariants.{NoMark, NoVersion, WrongLength}
use Rattle.le.specs.Number as L
use Rattle.le.specs.Arena as B
use Rattle.sizes.specs.Sizes as S
use Rattle.machine.specs.Heap as H
use Rattle.machine.specs.View as W
use Rattle.machine.specs.Audit as U

-- ---- the mark HPI, version 4, the arena's length, low bytes first
head-of-32 : take 9 (image (replicate 32 0) (replicate 1584 0)) ≡ 72 ∷ 80 ∷ 73 ∷ 4 ∷ 0 ∷ 32 ∷ 0 ∷ 0 ∷ 0 ∷ []
unfolding image digits
head-of-32 = refl

head-of-288 : take 9 (image (replicate 288 0) (replicate 1584 0)) ≡ 72 ∷ 80 ∷ 73 ∷ 4 ∷ 0 ∷ 32 ∷ 1 ∷ 0 ∷ 0 ∷ []
unfolding image digits
head-of-288 = refl

-- ---- refusals, whatever is lent
module _ (a r : List ℕ) where
  -- 4 bytes: number 6
  four_bytes : read_call (72 ∷ 80 ∷ 73 ∷ 1 ∷ []) a r ≡ after_reading a r (Err NoMark)
  unfolding read_call
  four_bytes = refl

  -- neither mark nor version: number 6 comes before number 7
  wrong-mark : read_call (72 ∷ 80 ∷ 74 ∷ 5 ∷ 0 ∷ []) a r ≡ after_reading a r (Err NoMark)
  unfolding read_call
  wrong-mark = refl

  -- versions 0 and 5, and no length: number 7 comes before number 1
  version-0 : read_call (72 ∷ 80 ∷ 73 ∷ 0 ∷ 0 ∷ []) a r ≡ after_reading a r (Err NoVersion)
  unfolding read_call number number_from
  version-0 = refl

  version-5 : read_call (72 ∷ 80 ∷ 73 ∷ 5 ∷ 0 ∷ []) a r ≡ after_reading a r (Err NoVersion)
  unfolding read_call number number_from
  version-5 = refl

  -- the version's bytes the other way round
  version-256 : read_call (72 ∷ 80 ∷ 73 ∷ 0 ∷ 1 ∷ []) a r ≡ after_reading a r (Err NoVersion)
  unfolding read_call number number_from
  version-256 = refl

  -- a mark, version 1, 2, 3 or 4, and no length: number 1
  no-length-4 : read_call (72 ∷ 80 ∷ 73 ∷ 4 ∷ 0 ∷ []) a r ≡ after_reading a r (Err WrongLength)
  unfolding read_call number number_from
  no-length-4 = refl

  no-length-3 : read_call (72 ∷ 80 ∷ 73 ∷ 3 ∷ 0 ∷ []) a r ≡ after_reading a r (Err WrongLength)
  unfolding read_call number number_from
  no-length-3 = refl

  no-length-2 : read_call (72 ∷ 80 ∷ 73 ∷ 2 ∷ 0 ∷ []) a r ≡ after_reading a r (Err WrongLength)
  unfolding read_call number number_from
  no-length-2 = refl

  no_length : read_call (72 ∷ 80 ∷ 73 ∷ 1 ∷ 0 ∷ []) a r ≡ after_reading a r (Err WrongLength)
  unfolding read_call number number_from
  no_length = refl

-- ---- an image of version 2: a chunk of 1,024 bytes in unsorted, a live one, and the top. Its skip links, which were any words, get all ones, and its record,
-- of 1,580 bytes, edition 1
heap-2 : Heap
heap-2 = record {
  len = 1088;
  tiles = tile 1024 1 0 ∷ tile 32 0 1024 ∷ [];
  stacks = replicate 74 [];
  bins = [] ∷ (0 ∷ []) ∷ replicate 125 [];
  remainder = none32;
  key = 0;
  edition = 1;
}

words-2 : ℕ → List ℕ
words-2 x = 0 ∷ 1025 ∷ none64 ∷ none64 ∷ x ∷ x ∷ (replicate 122 0 ++ 1024 ∷ 32 ∷ 0 ∷ 0 ∷ 0 ∷ 33 ∷ 0 ∷ 0 ∷ [])

file-2 : List ℕ
file-2 = 72 ∷ 80 ∷ 73 ∷ 2 ∷ 0 ∷ 64 ∷ 4 ∷ 0 ∷ 0 ∷ (take 1580 (bytes 4 (record_of heap-2)) ++ bytes 8 (words-2 7))

read-2 : read_call file-2 (replicate 1088 1) (replicate 1584 1) ≡ after_reading (bytes 8 (words-2 none64)) (bytes 4 (record_of heap-2)) (Ok (Ok tt))
unfolding file-2 words-2 heap-2 read_call L.number_from L.number L.words L.digits L.bytes B.arena_words S.large_bin S.bin_of H.record_of W.list_at W.tiles_of W.stacks_of W.bins_of U.tile_fault U.good_from U.list_fault U.flag_fault U.audit_by
read-2 = refl

-- the record that is read ends in key 0 and edition 1
ends-2 : drop 1572 (bytes 4 (record_of heap-2)) ≡ 0 ∷ 0 ∷ 0 ∷ 0 ∷ 0 ∷ 0 ∷ 0 ∷ 0 ∷ 1 ∷ 0 ∷ 0 ∷ 0 ∷ []
unfolding heap-2 L.digits L.bytes H.record_of
ends-2 = refl

-- ---- an image of version 3: the same heap, with its skip links. Its record gets edition 1, and its arena is unchanged
file-3 : List ℕ
file-3 = 72 ∷ 80 ∷ 73 ∷ 3 ∷ 0 ∷ 64 ∷ 4 ∷ 0 ∷ 0 ∷ (take 1580 (bytes 4 (record_of heap-2)) ++ bytes 8 (words-2 none64))

read-3 : read_call file-3 (replicate 1088 1) (replicate 1584 1) ≡ after_reading (bytes 8 (words-2 none64)) (bytes 4 (record_of heap-2)) (Ok (Ok tt))
unfolding file-3 words-2 heap-2 read_call L.number_from L.number L.words L.digits L.bytes B.arena_words S.large_bin S.bin_of H.record_of W.list_at W.tiles_of W.stacks_of W.bins_of U.tile_fault U.good_from U.list_fault U.flag_fault U.audit_by
read-3 = refl
