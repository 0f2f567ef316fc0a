-- `owns::owned_by_bin` meets its contract: every size, or those from the bin's least to below the next bin's. Assumes nothing.
use mathlib.Core.Path.{ap}
use Prim.Native.Nat.{ℕ, ◌-◌, ◌+◌}
use native.Mathlib.Omega.{arith}
use Rattle.sizes.specs.BinSizes.{least_of-comes}
use Rattle.audit_lists.specs.OwnsLaws.{unsorted-owns, middle-owns, last-owns}
use Rattle.audit_lists.proofs.owns.owned_by_bin.Goals as goal

pub returns-then-b-eq-UNSORTED : goal.returns-then-b-eq-UNSORTED
returns-then-b-eq-UNSORTED c = unsorted-owns _ c.if-b-eq-UNSORTED.true

pub returns-then-b-eq-LAST_BIN : goal.returns-then-b-eq-LAST_BIN
returns-then-b-eq-LAST_BIN c = last-owns _ _ c.if-b-eq-LAST_BIN.true c.least_of_bin-least.ensures

pub overflow_sub-most : goal.overflow_sub-most
overflow_sub-most c = omega (arith, c.least_of_bin-most.ensures, (least_of-comes (c.args.j + 1)).0)

pub returns : goal.returns
returns c =
    let j = c.args.j in
    middle-owns j _ _ (omega arith) (omega arith) c.least_of_bin-least.ensures (ap (λ (x : ℕ). x - 1) c.least_of_bin-most.ensures)
