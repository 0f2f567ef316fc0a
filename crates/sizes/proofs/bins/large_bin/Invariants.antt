-- `sizes::bins::large_bin` meets its contract: what is left of the rule is that of the rows not yet read. Assumes nothing.
use mathlib.Core.Path.{◌≡◌}
use lib.ListN.{drop}
use Rattle.sizes.specs.Sizes.{rows, first_line, large_bin}
use Rattle.sizes.proofs.bins.large_bin.Given as goal

abbrev pub invariant-loop-row : goal.invariant-loop-row
invariant-loop-row l = first_line (drop l.row-index rows) l.s ≡ large_bin l.s
