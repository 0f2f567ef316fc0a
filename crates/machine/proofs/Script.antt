-- Scripts of heaplog run on the machine's heap, with a key of 99: the steps alone, without the bytes; an emptying and a joining also each alone, E and J.
-- Definitions only.
use Rattle.std.specs.Prelude.{Option, Some, None}
use mathlib.Core.List.{List, [], ◌∷◌, ◌++◌}
use mathlib.Core.Bool.{Bool, true, false}
use Prim.Native.Nat.{ℕ, ◌+◌, ◌-◌}
use lib.Dec.{eqb, leb}
use Rattle.sizes.specs.Limits.{plain}
use Rattle.sizes.specs.Sizes.{need, usable, cache_of, fast_of, bin_of, large_bin}
use Rattle.machine.specs.Lists.{both}
use Rattle.machine.specs.Heap.{Heap, opened, top_of, size_of, live?, record_of}
use Rattle.machine.specs.Writes.{Write, Ran, ran, ◌>>=◌}
use Rattle.machine.specs.Release.{absorb, join_next, put_down, join, release_past, release, drain, drains, consolidate, emptying, joining}
use Rattle.machine.specs.Grant.{step1, move_fast, step2, take_last, move_lasts, step3, step4, split, sort_in, split_lone, keep, turn_at, turn, swept, sweep, step5, carve, step8, step6, step7, step9, pass, again, from4, seek, grant}
use Rattle.machine.specs.Resize.{next_p, finish, resize}
use Rattle.machine.specs.Calls.{After, after}

pub data Line : Type 0 where
  G : ℕ → Line
  R : ℕ → Line
  S : Line
  E : Line
  J : Line
  Z : ℕ → ℕ → Line

-- ---- on the heap: number, mem, usable and top for each line, the heap and all writes at the end
pub data Log : Type 0 where
  log : List ℕ → Heap → List Write → Log

abbrev pub logged : List ℕ → List Write → Log → Log
logged ns ws (log out h vs) = log (ns ++ out) h (ws ++ vs)

abbrev pub on_got : Ran (Option ℕ) → (Heap → Log) → Log
on_got (ran h ws (Some c)) f = logged (0 ∷ (c + 16) ∷ usable (size_of h c) ∷ top_of h ∷ []) ws (f h)
on_got (ran h ws None) f = logged (5 ∷ 0 ∷ 0 ∷ top_of h ∷ []) ws (f h)

abbrev pub on_done : {A : Type 0} → Ran A → (Heap → Log) → Log
on_done (ran h ws x) f = logged (0 ∷ 0 ∷ 0 ∷ top_of h ∷ []) ws (f h)

abbrev pub step : Line → Heap → (Heap → Log) → Log
step (G n) h f = on_got (grant (need n) h) f
step (R m) h f = elim (both (leb 16 m) (live? h (m - 16))) [ true ↦ on_done (release (m - 16) h) f | false ↦ logged (4 ∷ 0 ∷ 0 ∷ top_of h ∷ []) [] (f h) ]
step S h f = on_done (emptying h >>= joining) f
step E h f = on_done (emptying h) f
step J h f = on_done (joining h) f
step (Z m n) h f = elim (eqb m 0) [
  | true ↦ on_got (grant (need n) h) f
  | false ↦ elim (both (leb 16 m) (live? h (m - 16))) [
    | true ↦ elim (eqb n 0) [ true ↦ on_done (release (m - 16) h) f | false ↦ on_got (resize (m - 16) (need n) h) f ]
    | false ↦ logged (4 ∷ 0 ∷ 0 ∷ top_of h ∷ []) [] (f h)
  ]
]

abbrev pub run_heap : List Line → Heap → Log
run_heap [] h = log [] h []
run_heap (l ∷ ls) h = step l h (λ g. run_heap ls g)

-- on a newly opened heap of n bytes in edition d; and in edition 1
unfoldable pub script_by : ℕ → ℕ → List Line → Log
unfolding need usable cache_of fast_of bin_of large_bin record_of absorb join_next put_down join release_past release drain drains consolidate emptying joining step1 move_fast step2 take_last move_lasts step3 step4 split sort_in split_lone keep turn_at turn swept sweep step5 carve step8 step6 step7 step9 pass again from4 seek grant next_p finish resize
script_by d n ls = run_heap ls (opened n 99 d)

unfoldable pub script : ℕ → List Line → Log
unfolding script_by
script n ls = script_by plain n ls

abbrev pub outs : Log → List ℕ
outs (log out h ws) = out

abbrev pub heap_after : Log → Heap
heap_after (log out h ws) = h

abbrev pub writes_after : Log → List Write
writes_after (log out h ws) = ws

-- the arena's bytes after a call
abbrev pub arena_after : After → List ℕ
arena_after (after a r x) = a

-- ---- comparison by a test, so that a theorem is one computation
abbrev pub same? : List ℕ → List ℕ → Bool
same? [] [] = true
same? [] (y ∷ ys) = false
same? (x ∷ xs) [] = false
same? (x ∷ xs) (y ∷ ys) = both (eqb x y) (same? xs ys)
