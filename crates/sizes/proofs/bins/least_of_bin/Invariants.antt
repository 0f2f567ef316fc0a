-- `sizes::bins::least_of_bin` meets its contract: no line before the one that is read has the bin, and the last has what is left. Assumes nothing.
use mathlib.Core.Path.{◌≡◌}
use Rattle.sizes.specs.Rows.{begin_of, Past}
use Rattle.sizes.proofs.bins.least_of_bin.Given as goal

abbrev pub invariant-loop-row : goal.invariant-loop-row
invariant-loop-row l = (l.begins ≡ begin_of l.row-index) × Past l.row-index l.j
