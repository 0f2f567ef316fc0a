-- `grant_steps_6_7::equal_at` meets its contract, by its test. Assumes nothing.
use mathlib.Core.Path.{sym, ap, ◌∙◌}
use Prim.Native.Nat.{ℕ}
use native.Mathlib.Omega.{arith}
use lib.Dec.{eqb}
use Rattle.grant_steps_6_7.specs.Following.{equal_at-none, equal_at-some}
use Rattle.grant_steps_6_7.proofs.step_6.equal_at.Goals as goal

pub returns-then-p-eq-NONE64 : goal.returns-then-p-eq-NONE64
returns-then-p-eq-NONE64 c = sym (equal_at-none _ _ _ c.if-p-eq-NONE64.true)

pub size_at-requires : goal.size_at-requires
size_at-requires c = let i = c.requires c.if-p-eq-NONE64.false in (i.0, omega (arith, i.1))

pub returns : goal.returns
returns c = ap (λ (y : ℕ). eqb y c.args.z) c.size_at.ensures ∙ sym (equal_at-some _ _ _ c.if-p-eq-NONE64.false)
