-- `audit_empty_lists::eight_are` meets its contract: while no bit differs, the words passed are v. Assumes nothing.
use mathlib.Core.Path.{◌≡◌, sym, ap, ◌∙◌}
use Prim.Native.Nat.{ℕ, ◌+◌, ◌-◌}
use native.Mathlib.Omega.{arith}
use borrow.Author.Count.{below_more}
use Rattle.std.specs.Int.Bits.{bit_or, bit_xor, or_add_and, xor_assoc, xor_self, xor_zero_l, xor_zero_r}
use Rattle.std.proofs.Common.{slice_index_or, take, drop}
use Rattle.std.proofs.lemmas.Nat.{and_le_l, and_le_r}
use Rattle.audit_empty_lists.proofs.eight_are.Goals as goal

or-zero : (a b : ℕ) → bit_or a b ≡ 0 → (a ≡ 0) × (b ≡ 0)
or-zero a b e = (omega (arith, e, or_add_and a b, and_le_r a b), omega (arith, e, or_add_and a b, and_le_l a b))

xor-zero : (a b : ℕ) → bit_xor a b ≡ 0 → a ≡ b
xor-zero a b e = sym (xor_zero_r a) ∙ ap (bit_xor a) (sym (xor_self b)) ∙ sym (xor_assoc a b b) ∙ ap (λ (x : ℕ). bit_xor x b) e ∙ xor_zero_l b

pub loop-w-preserved : goal.loop-w-preserved
loop-w-preserved c =
    let h = c.loop-w in
    let f = c.args.f in
    let words = take (f + 8 - f) (drop f c.args.r.now) in
    λ e. let z = or-zero _ _ e in below_more (λ k. slice_index_or words k 0 ≡ c.args.v) h.w-index (h.invariant z.0) (xor-zero _ _ z.1)
