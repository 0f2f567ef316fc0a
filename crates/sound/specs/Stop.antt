-- Step 5 stopped after 10,000 chunks binned until document 02, (xiv), took the stop out. Nothing changed: on every sound heap the step with the stop and the step
-- without it give the same heap, writes and answer, since unsorted never has so many chunks. The old definition stands here alone. Assumes nothing.
use Rattle.std.specs.Prelude.{◌≡◌, refl, Bool, true, false, ℕ, zero, suc, ◌≤◌, length, Option}
use Rattle.std.proofs.Common.{ap, not-suc-le-zero, arith}
use Rattle.sizes.specs.Limits.{unsorted}
use Rattle.machine.specs.Heap.{Heap, bin}
use Rattle.machine.specs.Writes.{Ran, ran, more}
use Rattle.machine.specs.Grant.{turn, swept, after_turn, sweep, step5}
use Rattle.machine.specs.declared.{Turn.Turn}
use Rattle.machine.specs.declared.Turn.TheVariants as T
use Rattle.sound.specs.Relation.{Good}
use Rattle.sound.specs.Unsorted.{unsorted-few}

-- "Stop after 10,000 chunks binned." left: how many more may be binned
unfoldable pub sweep_stopping : ℕ → ℕ → ℕ → Bool → Heap → Ran (Option ℕ)
sweep_stopping zero left b got h = swept b got h
sweep_stopping (suc n) zero b got h = swept b got h
sweep_stopping (suc n) (suc left) b got h =
    after_turn (turn b h) (λ g. sweep_stopping n (suc left) b true g) (λ g. sweep_stopping n left b got g) (λ g. swept b got g)

unfoldable pub step5_stopping : ℕ → Heap → Ran (Option ℕ)
step5_stopping b h = sweep_stopping (length (bin h unsorted)) 10000 b false h

-- what follows a turn is the same where it is the same for every heap
after_same : (r : Ran Turn) (kept kept' sorted sorted' over : Heap → Ran (Option ℕ)) → ((g : Heap) → kept g ≡ kept' g) → ((g : Heap) → sorted g ≡ sorted' g)
    → after_turn r kept sorted over ≡ after_turn r kept' sorted' over
after_same (ran h ws (T.Granted c)) kept kept' sorted sorted' over e f = refl
after_same (ran h ws T.Cached) kept kept' sorted sorted' over e f = ap (more ws) (e h)
after_same (ran h ws T.Binned) kept kept' sorted sorted' over e f = ap (more ws) (f h)
after_same (ran h ws T.Empty) kept kept' sorted sorted' over e f = refl

-- n turns bin at most n chunks
sweep-never-stops : (n left b : ℕ) (got : Bool) (h : Heap) → n ≤ left → sweep_stopping n left b got h ≡ sweep n b got h
unfolding sweep_stopping sweep
sweep-never-stops zero left b got h l = refl
sweep-never-stops (suc n) zero b got h l = absurd (not-suc-le-zero l)
sweep-never-stops (suc n) (suc left) b got h l =
    after_same (turn b h) (λ g. sweep_stopping n (suc left) b true g) (λ g. sweep n b true g) (λ g. sweep_stopping n left b got g) (λ g. sweep n b got g) (λ g. swept b got g)
    (λ g. sweep-never-stops n (suc left) b true g (omega arith)) (λ g. sweep-never-stops n left b got g (omega arith))

pub step5-never-stops : (b : ℕ) (h : Heap) → Good h → step5_stopping b h ≡ step5 b h
unfolding step5_stopping step5
step5-never-stops b h g = sweep-never-stops (length (bin h unsorted)) _ b false h (omega (arith, unsorted-few h g))
