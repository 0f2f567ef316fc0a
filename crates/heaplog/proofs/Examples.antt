-- Document 01's worked example and one with resizes, from the bytes of a script to the bytes of its output, by computation. Assumes nothing.
use mathlib.Core.Path.{◌≡◌, refl}
use mathlib.Core.List.{List, [], ◌∷◌}
use mathlib.Core.Bool.{true, false}
use Prim.Native.Nat.{ℕ}
use lib.ListN.{replicate}
use Rattle.le.specs.Number.{number, number_from, words, digits, bytes}
use Rattle.le.specs.Arena.{arena_words}
use Rattle.sizes.specs.Sizes.{need, usable, cache_of, fast_of, bin_of, large_bin}
use Rattle.machine.specs.Heap.{record_of}
use Rattle.machine.specs.Release.{absorb, join_next, put_down, join, release_past, release, drain, drains, consolidate, emptying, joining}
use Rattle.machine.specs.Grant.{step1, move_fast, step2, take_last, move_lasts, step3, step4, split, sort_in, split_lone, keep, turn_at, turn, swept, sweep, step5, carve, step8, step6, step7, step9, pass, again, from4, seek, grant}
use Rattle.machine.specs.Resize.{next_p, finish, resize}
use Rattle.machine.specs.View.{list_at, tiles_of, stacks_of, bins_of}
use Rattle.machine.specs.Audit.{tile_fault, good_from, list_fault, flag_fault, audit_by}
use Rattle.machine.specs.Calls.{audit_call, closed_record, open_call, grant_call, release_call, resize_call, job_call}
use Rattle.machine.proofs.Script.{same?}
use Rattle.script.specs.Grammar.{digits_from, number_of, before_blank, behind_blank, line_of}
use Rattle.text.specs.Text.{decimal, field, question_text}
use Rattle.script_format.specs.Format.{call_text}
use Rattle.script_run.specs.Run.{run, called, placed_step, line_step}
use Rattle.heaplog.specs.Script.{lines_from, printed}

-- A 256, G 24, G 25, R 16, R 16, G 0, G 200, R 48, R 16, S, G 200
script : List ℕ
script =
    65 ∷ 32 ∷ 50 ∷ 53 ∷ 54 ∷ 10 ∷
    71 ∷ 32 ∷ 50 ∷ 52 ∷ 10 ∷
    71 ∷ 32 ∷ 50 ∷ 53 ∷ 10 ∷
    82 ∷ 32 ∷ 49 ∷ 54 ∷ 10 ∷
    82 ∷ 32 ∷ 49 ∷ 54 ∷ 10 ∷
    71 ∷ 32 ∷ 48 ∷ 10 ∷
    71 ∷ 32 ∷ 50 ∷ 48 ∷ 48 ∷ 10 ∷
    82 ∷ 32 ∷ 52 ∷ 56 ∷ 10 ∷
    82 ∷ 32 ∷ 49 ∷ 54 ∷ 10 ∷
    83 ∷ 10 ∷
    71 ∷ 32 ∷ 50 ∷ 48 ∷ 48 ∷ 10 ∷ []

output : List ℕ
output =
    65 ∷ 32 ∷ 48 ∷ 32 ∷ 48 ∷ 32 ∷ 48 ∷ 32 ∷ 48 ∷ 10 ∷
    71 ∷ 32 ∷ 48 ∷ 32 ∷ 49 ∷ 54 ∷ 32 ∷ 50 ∷ 52 ∷ 32 ∷ 51 ∷ 50 ∷ 10 ∷
    71 ∷ 32 ∷ 48 ∷ 32 ∷ 52 ∷ 56 ∷ 32 ∷ 52 ∷ 48 ∷ 32 ∷ 56 ∷ 48 ∷ 10 ∷
    82 ∷ 32 ∷ 48 ∷ 32 ∷ 48 ∷ 32 ∷ 48 ∷ 32 ∷ 56 ∷ 48 ∷ 10 ∷
    82 ∷ 32 ∷ 52 ∷ 32 ∷ 48 ∷ 32 ∷ 48 ∷ 32 ∷ 56 ∷ 48 ∷ 10 ∷
    71 ∷ 32 ∷ 48 ∷ 32 ∷ 49 ∷ 54 ∷ 32 ∷ 50 ∷ 52 ∷ 32 ∷ 56 ∷ 48 ∷ 10 ∷
    71 ∷ 32 ∷ 53 ∷ 32 ∷ 48 ∷ 32 ∷ 48 ∷ 32 ∷ 56 ∷ 48 ∷ 10 ∷
    82 ∷ 32 ∷ 48 ∷ 32 ∷ 48 ∷ 32 ∷ 48 ∷ 32 ∷ 56 ∷ 48 ∷ 10 ∷
    82 ∷ 32 ∷ 48 ∷ 32 ∷ 48 ∷ 32 ∷ 48 ∷ 32 ∷ 56 ∷ 48 ∷ 10 ∷
    83 ∷ 32 ∷ 48 ∷ 32 ∷ 48 ∷ 32 ∷ 48 ∷ 32 ∷ 48 ∷ 10 ∷
    71 ∷ 32 ∷ 48 ∷ 32 ∷ 49 ∷ 54 ∷ 32 ∷ 50 ∷ 48 ∷ 48 ∷ 32 ∷ 50 ∷ 48 ∷ 56 ∷ 10 ∷ []

worked-example : same? (printed (lines_from [] script) (run (replicate 256 0) (replicate 1584 0) [] 0 0 false)) output ≡ true
unfolding script output lines_from printed line_step placed_step called line_of number_of digits_from decimal field call_text question_text number number_from words digits bytes arena_words need usable cache_of fast_of bin_of large_bin record_of absorb join_next put_down join release_past release drain drains consolidate emptying joining step1 move_fast step2 take_last move_lasts step3 step4 split sort_in split_lone keep turn_at turn swept sweep step5 carve step8 step6 step7 step9 pass again from4 seek grant list_at tiles_of stacks_of bins_of tile_fault good_from list_fault flag_fault audit_by audit_call closed_record open_call grant_call release_call job_call
worked-example = refl

-- A 256, Z 0 24 (null: a grant), G 24, Z 16 40 (moved), Z 80 56 (in place, from the top), Z 80 0 (a release), Z 80 24 (no live block), Z 48 262145, Z 48 262144
resizes : List ℕ
resizes =
    65 ∷ 32 ∷ 50 ∷ 53 ∷ 54 ∷ 10 ∷
    90 ∷ 32 ∷ 48 ∷ 32 ∷ 50 ∷ 52 ∷ 10 ∷
    71 ∷ 32 ∷ 50 ∷ 52 ∷ 10 ∷
    90 ∷ 32 ∷ 49 ∷ 54 ∷ 32 ∷ 52 ∷ 48 ∷ 10 ∷
    90 ∷ 32 ∷ 56 ∷ 48 ∷ 32 ∷ 53 ∷ 54 ∷ 10 ∷
    90 ∷ 32 ∷ 56 ∷ 48 ∷ 32 ∷ 48 ∷ 10 ∷
    90 ∷ 32 ∷ 56 ∷ 48 ∷ 32 ∷ 50 ∷ 52 ∷ 10 ∷
    90 ∷ 32 ∷ 52 ∷ 56 ∷ 32 ∷ 50 ∷ 54 ∷ 50 ∷ 49 ∷ 52 ∷ 53 ∷ 10 ∷
    90 ∷ 32 ∷ 52 ∷ 56 ∷ 32 ∷ 50 ∷ 54 ∷ 50 ∷ 49 ∷ 52 ∷ 52 ∷ 10 ∷ []

resizes-printed : List ℕ
resizes-printed =
    65 ∷ 32 ∷ 48 ∷ 32 ∷ 48 ∷ 32 ∷ 48 ∷ 32 ∷ 48 ∷ 10 ∷
    90 ∷ 32 ∷ 48 ∷ 32 ∷ 49 ∷ 54 ∷ 32 ∷ 50 ∷ 52 ∷ 32 ∷ 51 ∷ 50 ∷ 10 ∷
    71 ∷ 32 ∷ 48 ∷ 32 ∷ 52 ∷ 56 ∷ 32 ∷ 50 ∷ 52 ∷ 32 ∷ 54 ∷ 52 ∷ 10 ∷
    90 ∷ 32 ∷ 48 ∷ 32 ∷ 56 ∷ 48 ∷ 32 ∷ 52 ∷ 48 ∷ 32 ∷ 49 ∷ 49 ∷ 50 ∷ 10 ∷
    90 ∷ 32 ∷ 48 ∷ 32 ∷ 56 ∷ 48 ∷ 32 ∷ 53 ∷ 54 ∷ 32 ∷ 49 ∷ 50 ∷ 56 ∷ 10 ∷
    90 ∷ 32 ∷ 48 ∷ 32 ∷ 48 ∷ 32 ∷ 48 ∷ 32 ∷ 49 ∷ 50 ∷ 56 ∷ 10 ∷
    90 ∷ 32 ∷ 52 ∷ 32 ∷ 48 ∷ 32 ∷ 48 ∷ 32 ∷ 49 ∷ 50 ∷ 56 ∷ 10 ∷
    90 ∷ 32 ∷ 50 ∷ 32 ∷ 48 ∷ 32 ∷ 48 ∷ 32 ∷ 49 ∷ 50 ∷ 56 ∷ 10 ∷
    90 ∷ 32 ∷ 53 ∷ 32 ∷ 48 ∷ 32 ∷ 48 ∷ 32 ∷ 49 ∷ 50 ∷ 56 ∷ 10 ∷ []

worked-resizes : same? (printed (lines_from [] resizes) (run (replicate 256 0) (replicate 1584 0) [] 0 0 false)) resizes-printed ≡ true
unfolding resizes resizes-printed lines_from printed line_step placed_step called line_of number_of digits_from before_blank behind_blank decimal field call_text question_text number number_from words digits bytes arena_words need usable cache_of fast_of bin_of large_bin record_of absorb join_next put_down join release_past release drain drains consolidate emptying joining step1 move_fast step2 take_last move_lasts step3 step4 split sort_in split_lone keep turn_at turn swept sweep step5 carve step8 step6 step7 step9 pass again from4 seek grant next_p finish resize list_at tiles_of stacks_of bins_of tile_fault good_from list_fault flag_fault audit_by audit_call closed_record open_call grant_call release_call resize_call job_call
worked-resizes = refl
