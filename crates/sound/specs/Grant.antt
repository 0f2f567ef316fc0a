-- Grant as a whole, step after step: from any sound heap it leaves a sound heap; a chunk that it gives is at least b and new among the loose, every loose
-- chunk stays as it was, and a grant that finds none leaves cache lists and last remainder. Assumes nothing.
use Rattle.std.specs.Prelude.{◌≡◌, List, ℕ, ◌%◌, ◌≤◌}
use Rattle.machine.specs.Heap.{Heap, any_fast?}
use Rattle.machine.specs.Writes.{◌or_else◌}
use Rattle.machine.specs.Grant.{step3, step6, step7, step9, pass, again, from4, seek, grant}
use Rattle.sound.specs.Relation.{Mem, Good}
use Rattle.sound.specs.Moves.{nil}
use Rattle.sound.specs.Leaves.{Leaves, leaves-weaken, leaves-if, gave, Found, found-then, found-else, found_nothing}
use Rattle.sound.specs.Drain.{consolidate-leaves}
use Rattle.sound.specs.Small.{step1-leaves, step2-leaves, step3-leaves, step4-leaves}
use Rattle.sound.specs.Sweep.{step5-leaves}
use Rattle.sound.specs.Large.{step6-leaves, step7-leaves, step9-leaves}

module _ (b : ℕ) (b16 : b % 16 ≡ 0) (b32 : 32 ≤ b) where
  pub pass-leaves : (h : Heap) (w : List ℕ) → Good h → Mem h w → Leaves h w (pass b h) (Found b h) gave nil
  unfolding pass
  pass-leaves h w g m =
      found-else (step9 b)
      (found-else (step7 b)
      (found-else (step6 b) (step5-leaves b b16 b32 h w g m) (λ j v gj mj. step6-leaves b b16 b32 j v gj mj))
      (λ j v gj mj. step7-leaves b b16 b32 j v gj mj))
      (λ j v gj mj. step9-leaves b b16 b32 j v gj mj)

  pub again-leaves : (h : Heap) (w : List ℕ) → Good h → Mem h w → Leaves h w (again b h) (Found b h) gave nil
  unfolding again
  again-leaves h w g m = leaves-if (any_fast? h)
      (λ e. found-then (λ h. pass b h) (leaves-weaken (consolidate-leaves h w g m) (λ a n C. (C.good, C.still))) (λ j v gj mj. pass-leaves j v gj mj))
      (λ e. found_nothing b h w g m)

  pub from4-leaves : (h : Heap) (w : List ℕ) → Good h → Mem h w → Leaves h w (from4 b h) (Found b h) gave nil
  unfolding from4
  from4-leaves h w g m = found-then (λ h. pass b h or_else again b) (step4-leaves b h w g m)
      (λ j v gj mj. found-else (again b) (pass-leaves j v gj mj) (λ i u gi mi. again-leaves i u gi mi))

  pub seek-leaves : (h : Heap) (w : List ℕ) → Good h → Mem h w → Leaves h w (seek b h) (Found b h) gave nil
  unfolding seek
  seek-leaves h w g m =
      found-else (from4 b)
      (found-else (step3 b) (step2-leaves b b16 b32 h w g m) (λ j v gj mj. step3-leaves b b16 b32 j v gj mj))
      (λ j v gj mj. from4-leaves j v gj mj)

  pub grant-leaves : (h : Heap) (w : List ℕ) → Good h → Mem h w → Leaves h w (grant b h) (Found b h) gave nil
  unfolding grant
  grant-leaves h w g m = found-else (seek b) (step1-leaves b b16 b32 h w g m) (λ j v gj mj. seek-leaves j v gj mj)
