-- `put_change` meets its contract: nothing, or the line. Assumes nothing.
use Rattle.std.proofs.Common.{rules, arith}
use Rattle.text.proofs.Pages.{adds-nothing, adds-as}
use Rattle.repair_text.specs.Changes.{change_text}
use Rattle.repair_text.proofs.changes.put_change.Goals as goal

pub returns-then-old-new : goal.returns-then-old-new
unfolding change_text
returns-then-old-new c = adds-as (omega arith) (search rules) adds-nothing

pub returns : goal.returns
unfolding change_text
returns c = adds-as (omega arith) (search rules) c.put_line.ensures
