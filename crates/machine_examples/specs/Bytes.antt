-- The calls compute on bytes, through every refusal: worked examples of document 01 and of the open points, each one theorem by computation. Assumes nothing.
use Rattle.std.specs.Prelude.{◌≡◌, refl, true, List, [], ◌∷◌, ◌++◌, ℕ, replicate}
use Rattle.le.specs.Number.{number, number_from, words, digits, bytes}
use Rattle.le.specs.Arena.{arena_words}
use Rattle.sizes.specs.Sizes.{need, usable, cache_of, fast_of, bin_of, large_bin}
use Rattle.machine.specs.Heap.{record_of}
use Rattle.machine.specs.Release.{absorb, join_next, put_down, join, release_past, release, drain, drains, consolidate, emptying, joining}
use Rattle.machine.specs.Grant.{step1, move_fast, step2, take_last, move_lasts, step3, step4, split, sort_in, split_lone, keep, turn_at, turn, swept, sweep, step5, carve, step8, step6, step7, step9, pass, again, from4, seek, grant}
use Rattle.machine.specs.Resize.{next_p, finish, resize}
use Rattle.machine.specs.View.{list_at, tiles_of, stacks_of, bins_of}
use Rattle.machine.specs.Audit.{tile_fault, good_from, list_fault, flag_fault, audit_by}
use Rattle.machine.specs.Calls.{After, after, answer_numbers, audit_call, closed_record, open_call, grant_call, release_call, job_call, emptying_call, joining_call, joined_after, resize_call, Answered}
use Rattle.machine.proofs.Script.{Line, G, R, S, E, J, Z, same?}

-- ---- scripts: what each line prints behind its letter, and the bytes left
pub data Printed : Type 0 where
  printed : List ℕ → List ℕ → List ℕ → Printed

abbrev pub example_call : Line → List ℕ → List ℕ → After
example_call (G n) a r = grant_call a r n
example_call (R m) a r = release_call a r m
example_call S a r = joined_after (emptying_call a r)
example_call E a r = emptying_call a r
example_call J a r = joining_call a r
example_call (Z m n) a r = resize_call a r m n

abbrev pub line : Answered → List ℕ → List ℕ
line x r = (answer_numbers x).no ∷ (answer_numbers x).mem ∷ (answer_numbers x).usable ∷ number 4 r 4 ∷ []

abbrev pub print : List ℕ → Printed → Printed
print ns (printed out a r) = printed (ns ++ out) a r

abbrev pub go_on : After → (List ℕ → List ℕ → Printed) → Printed
go_on (after a r x) f = print (line x r) (f a r)

abbrev pub run_bytes : List Line → List ℕ → List ℕ → Printed
run_bytes [] a r = printed [] a r
run_bytes (l ∷ ls) a r = go_on (example_call l a r) (λ b s. run_bytes ls b s)

-- opened with a key of 99 on an arena of n bytes, all equal to x, and a record of bytes x
unfoldable pub script_bytes : ℕ → ℕ → List Line → Printed
unfolding number number_from words digits bytes arena_words need usable cache_of fast_of bin_of large_bin record_of absorb join_next put_down join release_past release drain drains consolidate emptying joining step1 move_fast step2 take_last move_lasts step3 step4 split sort_in split_lone keep turn_at turn swept sweep step5 carve step8 step6 step7 step9 pass again from4 seek grant next_p finish resize list_at tiles_of stacks_of bins_of tile_fault good_from list_fault flag_fault audit_by audit_call closed_record open_call grant_call release_call job_call resize_call
script_bytes x n ls = go_on (open_call (replicate n x) (replicate 1584 x) 99 1) (λ b s. run_bytes ls b s)

abbrev pub out_of : Printed → List ℕ
out_of (printed out a r) = out

abbrev pub arena_out : Printed → List ℕ
arena_out (printed out a r) = a

abbrev pub record_out : Printed → List ℕ
record_out (printed out a r) = r

-- ---- examples
-- document 01's heaplog example, line by line: number, mem, usable and top for A 256 and each line after it
example : List Line
example = G 24 ∷ G 25 ∷ R 16 ∷ R 16 ∷ G 0 ∷ G 200 ∷ R 48 ∷ R 16 ∷ S ∷ G 200 ∷ []

heaplog-example : same? (out_of (script_bytes 170 256 example))
    (0 ∷ 0 ∷ 0 ∷ 0 ∷
    0 ∷ 16 ∷ 24 ∷ 32 ∷
    0 ∷ 48 ∷ 40 ∷ 80 ∷
    0 ∷ 0 ∷ 0 ∷ 80 ∷
    4 ∷ 0 ∷ 0 ∷ 80 ∷
    0 ∷ 16 ∷ 24 ∷ 80 ∷
    5 ∷ 0 ∷ 0 ∷ 80 ∷
    0 ∷ 0 ∷ 0 ∷ 80 ∷
    0 ∷ 0 ∷ 0 ∷ 80 ∷
    0 ∷ 0 ∷ 0 ∷ 0 ∷
    0 ∷ 16 ∷ 200 ∷ 208 ∷ []) ≡ true
unfolding example script_bytes
heaplog-example = refl

-- after its emptying and joining no block is held: the record is that of a newly opened arena, byte for byte, though the arena's bytes are not
emptied-record : same? (record_out (script_bytes 170 256 (G 24 ∷ G 25 ∷ R 48 ∷ R 16 ∷ S ∷ []))) (record_out (script_bytes 7 256 [])) ≡ true
unfolding script_bytes
emptied-record = refl

-- arena 32 opens but grants nothing; null is released, the top's mem is not
least-arena : same? (out_of (script_bytes 255 32 (G 0 ∷ R 0 ∷ R 16 ∷ S ∷ [])))
    (0 ∷ 0 ∷ 0 ∷ 0 ∷
    5 ∷ 0 ∷ 0 ∷ 0 ∷
    0 ∷ 0 ∷ 0 ∷ 0 ∷
    4 ∷ 0 ∷ 0 ∷ 0 ∷
    0 ∷ 0 ∷ 0 ∷ 0 ∷ []) ≡ true
unfolding script_bytes
least-arena = refl

-- an arena of 16 bytes is refused with 1, and every later call on it; the record is left with top none, so that its top reads 4,294,967,295
refused-open : same? (out_of (script_bytes 9 16 (G 0 ∷ [])))
    (1 ∷ 0 ∷ 0 ∷ 4294967295 ∷
    1 ∷ 0 ∷ 0 ∷ 4294967295 ∷ []) ≡ true
unfolding script_bytes
refused-open = refl

-- a request above 262,144 is refused with 2, 262,144 itself with 5
large-requests : same? (out_of (script_bytes 0 64 (G 262145 ∷ G 262144 ∷ G 18446744073709551615 ∷ [])))
    (0 ∷ 0 ∷ 0 ∷ 0 ∷
    2 ∷ 0 ∷ 0 ∷ 0 ∷
    5 ∷ 0 ∷ 0 ∷ 0 ∷
    2 ∷ 0 ∷ 0 ∷ 0 ∷ []) ≡ true
unfolding script_bytes
large-requests = refl

-- open writes bytes 8 to 15 only
open-writes : same? (arena_out (script_bytes 170 32 [])) (replicate 8 170 ++ (33 ∷ replicate 7 0) ++ replicate 16 170) ≡ true
unfolding script_bytes
open-writes = refl

-- a resize is refused with 2 before it is looked at, with 4 whatever its length; null is a grant, and a length of 0 a release
resize-refusals : same? (out_of (script_bytes 0 64 (Z 0 262145 ∷ Z 16 262145 ∷ Z 16 0 ∷ Z 0 0 ∷ Z 32 0 ∷ Z 16 25 ∷ Z 16 24 ∷ Z 16 0 ∷ [])))
    (0 ∷ 0 ∷ 0 ∷ 0 ∷
    2 ∷ 0 ∷ 0 ∷ 0 ∷
    2 ∷ 0 ∷ 0 ∷ 0 ∷
    4 ∷ 0 ∷ 0 ∷ 0 ∷
    0 ∷ 16 ∷ 24 ∷ 32 ∷
    4 ∷ 0 ∷ 0 ∷ 32 ∷
    5 ∷ 0 ∷ 0 ∷ 32 ∷
    0 ∷ 16 ∷ 24 ∷ 32 ∷
    0 ∷ 0 ∷ 0 ∷ 32 ∷ []) ≡ true
unfolding script_bytes
resize-refusals = refl
