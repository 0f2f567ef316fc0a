-- `anew::clear_lists` meets its contract: after both fills and the top each word of the record is that of the heap. Assumes nothing.
use mathlib.Core.Path.{◌∙◌}
use native.Mathlib.Omega.{arith}
use lib.ListN.{length-set}
use Rattle.repair.specs.Cleared.{cleared}
use Rattle.repair.proofs.anew.clear_lists.Goals as goal

pub shape_of-r : goal.shape_of-r
shape_of-r c =
    simp length-set (c.fill-2.ensures.long ∙ c.fill.ensures.long)

pub returns : goal.returns
returns c =
    cleared c.args.r.now _ _ _ c.requires.0 c.fill.ensures c.fill-2.ensures (omega (arith, c.slice_known-1.given 393))
