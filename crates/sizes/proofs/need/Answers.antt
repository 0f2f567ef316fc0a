-- `need` meets its contract: the test decides the definition's. What a request needs is a multiple of 16 within the bounds. Assumes nothing.
use mathlib.Core.Path.{sym, subst}
use Prim.Native.Nat.{ℕ}
use borrow.Author.Tests.{lt-ltb, le-ltb}
use Rattle.std.specs.Prelude.{◌≡◌, ◌%◌, ◌≤◌}
use Rattle.sizes.specs.Needed.{needed_of}
use Rattle.sizes.specs.SizesLaws.{need-bounds}
use Rattle.sizes.proofs.need.Goals as goal

pub returns-then-n-gt-MOST_REQUEST : goal.returns-then-n-gt-MOST_REQUEST
unfolding needed_of
returns-then-n-gt-MOST_REQUEST c = simp (needed_of, lt-ltb _ _ c.if-n-gt-MOST_REQUEST.true)

pub invariant_of-result : goal.invariant_of-result
invariant_of-result c =
    let i = need-bounds c.args.n in
    record {
      whole = subst (λ (k : ℕ). k % 16 ≡ 0) (sym c.rounded.ensures) i.whole;
      least = subst (λ (k : ℕ). 32 ≤ k) (sym c.rounded.ensures) i.least;
      most = subst (λ (k : ℕ). k ≤ 262160) (sym c.rounded.ensures) (i.most c.if-n-gt-MOST_REQUEST.false);
    }

pub returns : goal.returns
unfolding needed_of
returns c = simp (needed_of, le-ltb _ _ c.if-n-gt-MOST_REQUEST.false, c.rounded.ensures)
