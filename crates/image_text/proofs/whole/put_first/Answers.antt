-- `whole::put_first` meets its contract: the first line alone, or the edition's behind it. Assumes nothing.
use Rattle.std.proofs.Common.{arith}
use Rattle.text.proofs.Pages.{◌▹◌, adds-as}
use Rattle.image_text.proofs.Heaps.{first_short, first-long}
use Rattle.image_text.proofs.whole.put_first.Goals as goal

pub returns-else-edition : goal.returns-else-edition
returns-else-edition c = adds-as (omega arith) (first_short c.args.edition _ _ _ c.if-edition.false) c.put_head.ensures

pub returns-then-edition : goal.returns-then-edition
returns-then-edition c = adds-as (omega arith) (first-long c.args.edition _ _ _ c.if-edition.true) (c.put_head.ensures ▹ c.put_edition.ensures)
