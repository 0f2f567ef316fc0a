-- `audit_empty_lists::eight_are` meets its contract: while no bit differs, the words passed are v. Assumes nothing.
use mathlib.Core.Path.{◌≡◌}
use Prim.Native.Nat.{ℕ, ◌<◌}
use lib.ListN.{get_or}
use Rattle.audit_empty_lists.proofs.eight_are.Given as goal

abbrev pub invariant-loop-w : goal.invariant-loop-w
invariant-loop-w l = l.differ ≡ 0 → (k : ℕ) → k < l.w-index → get_or l.w-items k 0 ≡ l.v
