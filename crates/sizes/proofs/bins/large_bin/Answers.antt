-- `sizes::bins::large_bin` meets its contract: what is left of the rule is that of the rows not yet read. Assumes nothing.
use mathlib.Core.Path.{◌≡◌, refl, sym, ◌∙◌, ap}
use Prim.Native.Nat.{ℕ}
use native.Mathlib.Omega.{arith}
use lib.ListN.{drop}
use Rattle.sizes.specs.Sizes.{rows, first_line, large_bin}
use Rattle.sizes.specs.Rows.{row-read, row-bounds, first_line-at, first_line-after}
use Rattle.sizes.proofs.bins.large_bin.Goals as goal

pub loop-row-init : goal.loop-row-init
unfolding large_bin
loop-row-init c = refl

pub bin_on-requires : goal.bin_on-requires
bin_on-requires c =
    let i = c.loop-row.row-index in
    let f = row-bounds i c.loop-row-test.true (row-read i c.rows-row-items.ensures) in
    (f.0, f.2)

pub returns-in-Some : goal.returns-in-Some
returns-in-Some c =
    let h = c.loop-row in
    let i = h.row-index in
    sym (first_line-at i _ c.loop-row-test.true (row-read i c.rows-row-items.ensures) (sym c.bin_on.ensures ∙ c.in-Some.is)) ∙ h.invariant

pub loop-row-preserved : goal.loop-row-preserved
loop-row-preserved c =
    let h = c.loop-row in
    let i = h.row-index in
    sym (first_line-after i _ c.loop-row-test.true (row-read i c.rows-row-items.ensures) (sym c.bin_on.ensures ∙ c.in_default.is)) ∙ h.invariant

pub returns : goal.returns
returns c =
    let h = c.loop-row in
    let e : h.row-index ≡ 5 = omega arith in
    ap (λ (i : ℕ). first_line (drop i rows) c.args.s) (sym e) ∙ h.invariant
