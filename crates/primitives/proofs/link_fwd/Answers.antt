-- `primitives::link_fwd` meets its contract: by the one test, and nothing is left of the other way. Assumes nothing.
use mathlib.Core.Path.{sym, ap, ◌∙◌}
use Prim.Native.Nat.{ℕ}
use lib.ListN.{set}
use Rattle.sizes.specs.Layout.{bin_first}
use native.Mathlib.Omega.{arith}
use Rattle.primitives.specs.Ends.{link_fwd-none, link_fwd-some, link_end-none, link_end-some}
use Rattle.primitives.proofs.link_fwd.Goals as goal

pub returns-then-p-eq-NONE64 : goal.returns-then-p-eq-NONE64
returns-then-p-eq-NONE64 c =
    let s = c.args in (
      sym (link_fwd-none _ _ s.x.0 c.if-p-eq-NONE64.true),
      ap (λ (k : ℕ). set s.r.now k c.word_of.result) c.bin_first-at.ensures
          ∙ ap (set s.r.now (bin_first s.j)) c.word_of.ensures
          ∙ sym (link_end-none s.r.now _ _ s.x.0 c.if-p-eq-NONE64.true),
    )

pub set_fwd-requires : goal.set_fwd-requires
set_fwd-requires c = let l = c.requires.2 c.if-p-eq-NONE64.false in (omega arith, omega arith)

pub returns : goal.returns
returns c =
    (c.set_fwd.ensures ∙ sym (link_fwd-some _ _ _ c.if-p-eq-NONE64.false), sym (link_end-some _ _ _ _ c.if-p-eq-NONE64.false))
