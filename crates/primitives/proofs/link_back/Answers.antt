-- `primitives::link_back` meets its contract: by the one test, and nothing is left of the other way. Assumes nothing.
use mathlib.Core.Path.{sym, ap, ◌∙◌}
use Prim.Native.Nat.{ℕ}
use lib.ListN.{set}
use Rattle.sizes.specs.Layout.{bin_last}
use native.Mathlib.Omega.{arith}
use Rattle.primitives.specs.Ends.{link_back-none, link_back-some, link_end-none, link_end-some}
use Rattle.primitives.proofs.link_back.Goals as goal

pub returns-then-n-eq-NONE64 : goal.returns-then-n-eq-NONE64
returns-then-n-eq-NONE64 c =
    let s = c.args in (
      sym (link_back-none _ _ s.x.0 c.if-n-eq-NONE64.true),
      ap (λ (k : ℕ). set s.r.now k c.word_of.result) c.bin_last-at.ensures
          ∙ ap (set s.r.now (bin_last s.j)) c.word_of.ensures
          ∙ sym (link_end-none s.r.now _ _ s.x.0 c.if-n-eq-NONE64.true),
    )

pub set_back-requires : goal.set_back-requires
set_back-requires c = let l = c.requires.2 c.if-n-eq-NONE64.false in (omega arith, omega arith)

pub returns : goal.returns
returns c =
    (c.set_back.ensures ∙ sym (link_back-some _ _ _ c.if-n-eq-NONE64.false), sym (link_end-some _ _ _ _ c.if-n-eq-NONE64.false))
