-- `grant_steps_1_3::move_fast` meets its contract: from every turn on the machine does what is left. A turn fills the cache by one. Assumes nothing.
use mathlib.Core.Path.{◌≡◌}
use Prim.Native.Nat.{◌-◌}
use lib.ListN.{length, get_or}
use Rattle.le.specs.Arena.{arena_words}
use Rattle.sizes.specs.Limits.{cache_room}
use Rattle.sizes.specs.Layout.{cache_count}
use Rattle.primitives.specs.Reach.{Way}
use Rattle.grant_steps_1_3.specs.Moves.{move_heads}
use Rattle.grant_steps_1_3.proofs.step_2.move_fast.Given as goal

abbrev pub invariant-loop-r : goal.invariant-loop-r
invariant-loop-r l = (length l.a ≡ length l.initial.a) × (length l.r ≡ length l.initial.r) × Way (Unit {0}) (move_heads l.fn.b.bytes) (move_heads l.fn.b.bytes) (arena_words l.initial.a) l.initial.r (arena_words l.a) l.r

abbrev pub decreases-loop-r : goal.decreases-loop-r
decreases-loop-r l = cache_room - get_or l.r (cache_count l.k) 0
