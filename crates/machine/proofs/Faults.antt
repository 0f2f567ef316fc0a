-- The audit computes: a sound heap of 256 bytes, and the answer to each of a list of single flaws, kind and number as document 01 orders them. Assumes nothing.
use mathlib.Core.Path.{◌≡◌, refl}
use mathlib.Core.Bool.{true}
use mathlib.Core.List.{List, [], ◌∷◌, ◌++◌}
use Prim.Native.Nat.{ℕ}
use lib.ListN.{set, replicate}
use Rattle.sizes.specs.Limits.{none64, none32}
use Rattle.sizes.specs.Sizes.{bin_of, large_bin}
use Rattle.machine.specs.View.{list_at, tiles_of, stacks_of, bins_of}
use Rattle.machine.specs.Audit.{tile_fault, good_from, list_fault, flag_fault, audit_by, audit_of}
use Rattle.machine.specs.Calls.{fault_numbers}
use Rattle.machine.proofs.Script.{same?}

-- chunk 0 cached (32 bytes, the key in its second word), 32 live (48), 80 unsorted (64), 144 live (32, P clear, previous size 64), 176 the top (80)
arena : List ℕ
arena =
    0 ∷ 33 ∷ none64 ∷ 8589934601 ∷
    0 ∷ 49 ∷ 0 ∷ 0 ∷ 0 ∷ 0 ∷
    0 ∷ 65 ∷ none64 ∷ none64 ∷ 0 ∷ 0 ∷ 0 ∷ 0 ∷
    64 ∷ 32 ∷ 0 ∷ 0 ∷
    0 ∷ 81 ∷ replicate 8 0

kept : List ℕ
kept = 256 ∷ 176 ∷ 7 ∷ (0 ∷ replicate 63 none32) ++ ((1 ∷ replicate 63 0) ++ (replicate 10 none32 ++ (80 ∷ 80 ∷ replicate 250 none32 ++ (9 ∷ 2 ∷ 1 ∷ []))))

-- kind and number of the audit's answer
verdict : List ℕ → List ℕ → List ℕ
verdict w r = (fault_numbers (audit_of w r)).kind ∷ (fault_numbers (audit_of w r)).number ∷ []

faults : List ℕ
faults =
    verdict arena kept
    ++ (verdict arena (set kept 0 240)  -- another length in the record
    ++ (verdict (set arena 5 51) kept  -- bit 1 of a size word
    ++ (verdict (set arena 5 17) kept  -- a size of 16
    ++ (verdict arena (set kept 1 144)  -- the top elsewhere: named at the last tile
    ++ (verdict (set arena 2 0) kept  -- a list that goes round
    ++ (verdict (set arena 2 4294967295) kept  -- 32 ones for a link's end
    ++ (verdict (set arena 3 0) kept  -- a wrong key
    ++ (verdict arena (set kept 394 3)  -- and another one in the record
    ++ (verdict arena (set kept 67 2)  -- a count that is not the length
    ++ (verdict arena (set kept 131 0)  -- a chunk in two lists: the later is bad
    ++ (verdict arena (set kept 138 32)  -- fast list 7 owns no size
    ++ (verdict arena (set kept 142 none32)  -- a wrong last
    ++ (verdict (set arena 13 0) kept  -- a wrong back link
    ++ (verdict arena (set (set kept 3 176) 67 1)  -- the top in a list
    ++ (verdict (set arena 18 48) kept  -- a wrong previous size
    ++ (verdict (set arena 19 33) kept  -- P set after a binned chunk
    ++ verdict (set arena 1 32) kept))))))))))))))))  -- chunk 0 with P clear

first-faults : same? faults
    (0 ∷ 0 ∷ 1 ∷ 0 ∷ 2 ∷ 32 ∷ 2 ∷ 32 ∷ 2 ∷ 176 ∷ 3 ∷ 0 ∷ 3 ∷ 0 ∷ 3 ∷ 0 ∷ 3 ∷ 0 ∷ 3 ∷ 0 ∷ 4 ∷ 0 ∷ 4 ∷ 7 ∷ 5 ∷ 1 ∷ 5 ∷ 1 ∷ 3 ∷ 0 ∷ 6 ∷ 144 ∷ 6 ∷ 144 ∷ 6 ∷ 0 ∷ []) ≡ true
unfolding arena kept verdict faults audit_by tile_fault list_fault flag_fault good_from list_at tiles_of stacks_of bins_of bin_of large_bin
first-faults = refl

-- of two bad lists, the count of cache list 0 and the last of unsorted, the first is told
first-of-two : same? (verdict arena (set (set kept 67 2) 142 none32)) (3 ∷ 0 ∷ []) ≡ true
unfolding arena kept verdict audit_by tile_fault list_fault flag_fault good_from list_at tiles_of stacks_of bins_of bin_of large_bin
first-of-two = refl

-- version 1 does not ask for the key, and for all else
no-key-asked : same?
    ((fault_numbers (audit_by 1 (set arena 3 0) kept)).kind ∷ (fault_numbers (audit_by 1 arena (set kept 394 3))).kind ∷ (fault_numbers (audit_by 1 arena (set kept 67 2))).kind ∷ [])
    (0 ∷ 0 ∷ 3 ∷ []) ≡ true
unfolding arena kept audit_by tile_fault list_fault flag_fault good_from list_at tiles_of stacks_of bins_of bin_of large_bin
no-key-asked = refl
