-- `list_numbers` is `list_numbers`, kind by kind. Assumes nothing.
use mathlib.Core.Path.{sym, ap}
use Rattle.machine.specs.Calls.{list_numbers}
use Rattle.heap.proofs.list_numbers.Goals as goal

pub returns-in-Cache : goal.returns-in-Cache
returns-in-Cache c = sym (ap list_numbers c.in-Cache.is)

pub returns-in-Fast : goal.returns-in-Fast
returns-in-Fast c = sym (ap list_numbers c.in-Fast.is)

pub returns-in-Bin : goal.returns-in-Bin
returns-in-Bin c = sym (ap list_numbers c.in-Bin.is)
