-- `sizes::bins::least_on` meets its contract: the test opens the definition, and the product is at most that of the divisor and 126. Assumes nothing.
use Prim.Native.Nat.{◌-◌}
use mathlib.Core.Path.{ap}
use native.Mathlib.Omega.{arith}
use native.Mathlib.Nat.{mul-le-mul_left}
use borrow.Author.Tests.{le-leb, lt-leb}
use Rattle.std.proofs.Common.{Some}
use Rattle.sizes.specs.Rows.{least_on}
use Rattle.sizes.proofs.bins.least_on.Goals as goal

pub returns-then-row-k : goal.returns-then-row-k
returns-then-row-k c = simp (least_on, lt-leb _ _ c.if-row-k.true)

pub overflow_mul-row : goal.overflow_mul-row
overflow_mul-row c =
    let m = mul-le-mul_left {m = c.args.k - c.args.row.base} {n = 126} c.args.row.divisor (omega arith) in
    record { fits = omega (arith, m, c.requires.2) }

pub returns : goal.returns
returns c = simp (least_on, le-leb _ _ c.if-row-k.false) (ap Some c.max.ensures)
