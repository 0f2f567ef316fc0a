-- `words::put_fault` meets its contract: for each fault its texts, one behind the other. Assumes nothing.
use Rattle.std.specs.Prelude.{Err}
use Rattle.std.proofs.Common.{arith, sym, ap}
use Rattle.text.proofs.Pages.{adds-nothing, ◌▹◌, adds-as}
use Rattle.image_text.specs.ImageText.{audit_text}
use Rattle.image_text.proofs.words.put_fault.Goals as goal

pub returns-in-Record : goal.returns-in-Record
unfolding audit_text
returns-in-Record c = adds-as (omega arith) (sym (ap audit_text (ap Err c.in-Record.is))) c.bytes.ensures.adds

pub returns-in-Tile : goal.returns-in-Tile
unfolding audit_text
returns-in-Tile c = adds-as (omega arith) (sym (ap audit_text (ap Err c.in-Tile.is))) (c.bytes-in-Tile.ensures.adds ▹ c.field.ensures ▹ c.byte.ensures.adds)

pub returns-in-List : goal.returns-in-List
unfolding audit_text
returns-in-List c = adds-as (omega arith) (sym (ap audit_text (ap Err c.in-List.is))) (c.bytes-in-List.ensures.adds ▹ c.put_list.ensures ▹ c.byte-in-List.ensures.adds)

pub returns-in-Flag : goal.returns-in-Flag
unfolding audit_text
returns-in-Flag c = adds-as (omega arith) (sym (ap audit_text (ap Err c.in-Flag.is))) (c.bytes-in-Flag.ensures.adds ▹ c.field-in-Flag.ensures ▹ c.byte-in-Flag.ensures.adds)

pub returns-in-Shape : goal.returns-in-Shape
unfolding audit_text
returns-in-Shape c = adds-as (omega arith) (sym (ap audit_text (ap Err c.in-Shape.is))) adds-nothing
