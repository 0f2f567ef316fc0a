-- The repair computes on bytes: of damaged heaps what is answered, and every number of record and arena that changes, each one theorem by computation. Assumes nothing.
use Rattle.std.specs.Prelude.{◌≡◌, refl, true, false, List, [], ◌∷◌, ◌++◌, ℕ, ◌+◌, eqb, set}
use Rattle.le.specs.Number.{number, number_from, words, digits, bytes}
use Rattle.le.specs.Arena.{arena_words}
use Rattle.sizes.specs.Sizes.{bin_of, large_bin}
use Rattle.machine.specs.Heap.{record_of}
use Rattle.machine.specs.View.{list_at, tiles_of, stacks_of, bins_of}
use Rattle.machine.specs.Audit.{tile_fault, good_from, list_fault, flag_fault, audit_by}
use Rattle.machine.specs.Calls.{words_of}
use Rattle.machine.proofs.Script.{Line, G, R, same?}
use Rattle.machine_examples.specs.Bytes.{Printed, printed, script_bytes}
use Rattle.audit_reached.specs.Reached.{good_part, reached_from, reached_of, reached_in}
use Rattle.repair.specs.Repair.{tiles_anew, free_anew, tiles_on, put_all, repair}
use Rattle.repair.specs.RepairCall.{AfterRepair, after_repair, repair_by, repair_call, repair_numbers}

-- ---- place, old and new of each number that changed, of k bytes each
abbrev pub differences : ℕ → ℕ → List ℕ → List ℕ → List ℕ
differences k p [] ns = []
differences k p (o ∷ os) [] = []
differences k p (o ∷ os) (n ∷ ns) = elim (eqb o n) [ true ↦ differences k (p + k) os ns | false ↦ p ∷ o ∷ n ∷ differences k (p + k) os ns ]

-- the answer's number, the record's changes, the arena's
abbrev pub changes : List ℕ → List ℕ → AfterRepair → List ℕ
changes a r (after_repair b q x) = (repair_numbers x).no ∷ (differences 4 0 (words_of r) (words_of q) ++ differences 8 0 (arena_words a) (arena_words b))

-- a script on 256 bytes, all 170 before; then the damage
unfoldable pub mended_after : (Printed → Printed) → List Line → List ℕ
unfolding number number_from words digits bytes arena_words bin_of large_bin record_of list_at tiles_of stacks_of bins_of tile_fault good_from list_fault flag_fault audit_by good_part reached_from reached_of reached_in tiles_anew free_anew tiles_on put_all repair repair_by
mended_after damage ls = of (damage (script_bytes 170 256 ls))
  where
    of : Printed → List ℕ
    of (printed out a r) = changes a r (repair_call a r)

abbrev arena_byte : ℕ → ℕ → Printed → Printed
arena_byte i x (printed out a r) = printed out (set a i x) r

abbrev record_byte : ℕ → ℕ → Printed → Printed
record_byte i x (printed out a r) = printed out a (set r i x)

-- ---- six blocks of chunks of 32 bytes, 0 to 160; those at 32, 128, 96 and 64 are released: cache list 0 is 64, 96, 128, 32
six : List Line
six = G 24 ∷ G 24 ∷ G 24 ∷ G 24 ∷ G 24 ∷ G 24 ∷ []

four : List Line
four = R 48 ∷ R 144 ∷ R 112 ∷ R 80 ∷ []

-- the link of chunk 128 is 40, which is no chunk: 64, 96 and 128 are reached and become one chunk in unsorted; 32 lies behind the bad one and stays held
bad-link : same? (mended_after (arena_byte 144 40) (six ++ four))
    (0 ∷
    12 ∷ 64 ∷ 4294967295 ∷
    268 ∷ 4 ∷ 0 ∷
    564 ∷ 4294967295 ∷ 64 ∷
    568 ∷ 4294967295 ∷ 64 ∷
    72 ∷ 33 ∷ 97 ∷
    80 ∷ 96 ∷ 18446744073709551615 ∷
    88 ∷ 99 ∷ 18446744073709551615 ∷
    160 ∷ 12297829382473034410 ∷ 96 ∷
    168 ∷ 33 ∷ 32 ∷ []) ≡ true
unfolding six four script_bytes mended_after
bad-link = refl

-- the key of chunk 96 is overwritten: 64 alone is reached, and 96 and what lies behind it stay held
bad-key : same? (mended_after (arena_byte 120 98) (six ++ four))
    (0 ∷
    12 ∷ 64 ∷ 4294967295 ∷
    268 ∷ 4 ∷ 0 ∷
    564 ∷ 4294967295 ∷ 64 ∷
    568 ∷ 4294967295 ∷ 64 ∷
    80 ∷ 96 ∷ 18446744073709551615 ∷
    88 ∷ 99 ∷ 18446744073709551615 ∷
    96 ∷ 12297829382473034410 ∷ 32 ∷
    104 ∷ 33 ∷ 32 ∷ []) ≡ true
unfolding six four script_bytes mended_after
bad-key = refl

-- the chunks at 0, 64, 128 and 160 are released, and the list's count is 1 in place of 4: no chunk is lost. 128 and 160 are the top's; 0 and 64 go to unsorted, the lowest first
bad-count : same? (mended_after (record_byte 268 1) (six ++ (R 16 ∷ R 80 ∷ R 144 ∷ R 176 ∷ [])))
    (0 ∷
    4 ∷ 192 ∷ 128 ∷
    12 ∷ 160 ∷ 4294967295 ∷
    268 ∷ 1 ∷ 0 ∷
    564 ∷ 4294967295 ∷ 0 ∷
    568 ∷ 4294967295 ∷ 64 ∷
    16 ∷ 18446744073709551615 ∷ 64 ∷
    24 ∷ 99 ∷ 18446744073709551615 ∷
    32 ∷ 12297829382473034410 ∷ 32 ∷
    40 ∷ 33 ∷ 32 ∷
    80 ∷ 0 ∷ 18446744073709551615 ∷
    88 ∷ 99 ∷ 0 ∷
    96 ∷ 12297829382473034410 ∷ 32 ∷
    104 ∷ 33 ∷ 32 ∷
    136 ∷ 33 ∷ 129 ∷ []) ≡ true
unfolding six script_bytes mended_after
bad-count = refl

-- ---- nothing changes: a sound heap; a record of another length, and a size word with bit 1, each refused with 11
sound : same? (mended_after (λ p. p) (six ++ four)) (0 ∷ []) ≡ true
unfolding six four script_bytes mended_after
sound = refl

bad-record : same? (mended_after (record_byte 0 16) six) (11 ∷ []) ≡ true
unfolding six script_bytes mended_after
bad-record = refl

bad-tile : same? (mended_after (arena_byte 40 35) six) (11 ∷ []) ≡ true
unfolding six script_bytes mended_after
bad-tile = refl
