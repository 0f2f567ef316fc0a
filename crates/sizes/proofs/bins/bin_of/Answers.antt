-- `sizes::bins::bin_of` meets its contract: the table has the bin of the multiple of 16 below s, which is s's own. Assumes nothing.
use mathlib.Core.Path.{sym, ◌∙◌}
use native.Mathlib.Omega.{arith}
use Rattle.sizes.specs.BinLaws.{bin_of-most, bin_of-large_bin, bin_of-round}
use Rattle.sizes.proofs.bins.bin_of.Goals as goal

pub returns-then-s-lt16384 : goal.returns-then-s-lt16384
returns-then-s-lt16384 c =
    let s = c.args.s in
    let e = c.table_bin.ensures ∙ bin_of-round s in
    (e, omega (arith, e, bin_of-most s))

pub returns : goal.returns
returns c =
    let s = c.args.s in
    let e = c.large_bin.ensures ∙ sym (bin_of-large_bin s (omega arith)) in
    (e, omega (arith, e, bin_of-most s))
