-- `words::put_list` meets its contract: the word of its kind, and the number behind it. Assumes nothing.
use Rattle.std.proofs.Common.{arith, sym, ap}
use Rattle.text.proofs.Pages.{◌▹◌, adds-as}
use Rattle.image_text.specs.ImageText.{list_text}
use Rattle.image_text.proofs.words.put_list.Goals as goal

pub returns-in-Cache : goal.returns-in-Cache
unfolding list_text
returns-in-Cache c = adds-as (omega arith) (sym (ap list_text c.in-Cache.is)) (c.bytes.ensures.adds ▹ c.field.ensures)

pub returns-in-Fast : goal.returns-in-Fast
unfolding list_text
returns-in-Fast c = adds-as (omega arith) (sym (ap list_text c.in-Fast.is)) (c.bytes-in-Fast.ensures.adds ▹ c.field-in-Fast.ensures)

pub returns-in-Bin : goal.returns-in-Bin
unfolding list_text
returns-in-Bin c = adds-as (omega arith) (sym (ap list_text c.in-Bin.is)) (c.bytes-in-Bin.ensures.adds ▹ c.field-in-Bin.ensures)
