-- `sizes::bins::least_of_bin` meets its contract: no line before the one that is read has the bin, and the last has what is left. Assumes nothing.
use mathlib.Core.Path.{◌≡◌, refl, sym, ◌∙◌, ap, subst}
use Prim.Native.Nat.{ℕ, ◌*◌}
use native.Mathlib.Omega.{arith}
use Rattle.sizes.specs.BinSizes.{least_of-comes, least_of-is}
use Rattle.sizes.specs.Rows.{row_of, row-read, least_on, row-bounds, Past, base-at-most, least_on-at, least_on-after}
use Rattle.sizes.proofs.bins.least_of_bin.Goals as goal

pub returns-then-j-lt-LARGE_BIN : goal.returns-then-j-lt-LARGE_BIN
returns-then-j-lt-LARGE_BIN c = let j = c.args.j in least_of-is j (16 * j) (omega arith) (omega (arith, (least_of-comes j).0))

pub loop-row-init : goal.loop-row-init
loop-row-init c = (refl, c.if-j-lt-LARGE_BIN.false)

pub least_on-requires : goal.least_on-requires
least_on-requires c =
    let h = c.loop-row in
    let i = h.row-index in
    let e = row-read i c.rows-row-items.ensures in
    let f = row-bounds i c.loop-row-test.true e in
    (f.2, base-at-most i _ c.loop-row-test.true e h.invariant.1, f.4)

pub returns-in-Some : goal.returns-in-Some
returns-in-Some c =
    let h = c.loop-row in
    let i = h.row-index in
    let j = c.args.j in
    let read = row-read i c.rows-row-items.ensures in
    let e = ap (λ (b : ℕ). least_on (row_of c.rows-row-items.result i) b j) (sym h.invariant.0) ∙ sym c.least_on.ensures ∙ c.in-Some.is in
    least_on-at i j c.loop-row-test.true read h.invariant.1 e

pub overflow_add-begins : goal.overflow_add-begins
overflow_add-begins c =
    let i = c.loop-row.row-index in
    record { fits = omega (arith, (row-bounds i c.loop-row-test.true (row-read i c.rows-row-items.ensures)).2) }

pub overflow_mul-begins : goal.overflow_mul-begins
overflow_mul-begins c =
    let i = c.loop-row.row-index in
    record { fits = (row-bounds i c.loop-row-test.true (row-read i c.rows-row-items.ensures)).3 }

pub loop-row-preserved : goal.loop-row-preserved
loop-row-preserved c =
    let h = c.loop-row in
    let i = h.row-index in
    let j = c.args.j in
    let read = row-read i c.rows-row-items.ensures in
    let e = ap (λ (b : ℕ). least_on (row_of c.rows-row-items.result i) b j) (sym h.invariant.0) ∙ sym c.least_on.ensures ∙ c.in_default.is in
    least_on-after i j c.loop-row-test.true read e

pub returns : goal.returns
returns c =
    let h = c.loop-row in
    let e : h.row-index ≡ 5 = omega arith in
    absurd (omega (arith, subst (λ (i : ℕ). Past i c.args.j) e h.invariant.1))
