-- `sizes::table::table_bin` meets its contract: antt computes the bins of the 1,024 sizes, and compares them with the code's table.
-- Assumes nothing.
use Prim.Native.Nat.{◌*◌}
use borrow.Author.Rules.{rules}
use Rattle.sizes.specs.Sizes.{large_bin, bin_of}
use Rattle.sizes.proofs.Filled.{get_d-filled}
use Rattle.sizes.proofs.table.table_bin.Goals as goal

pub returns : goal.returns
unfolding large_bin bin_of
returns c = get_d-filled (λ k. bin_of (16 * k)) 1024 c.args.k (search rules)
