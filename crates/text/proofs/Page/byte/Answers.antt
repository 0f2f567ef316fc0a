-- `Page::byte` meets its contract: one store behind what was written. Assumes nothing.
use Rattle.std.proofs.Common.{rules, arith}
use Rattle.std.proofs.lemmas.List.{take_more_set}
use Rattle.text.proofs.Page.byte.Goals as goal

pub returns-clause-adds : goal.returns-clause-adds
returns-clause-adds c = record { within = omega arith; written = take_more_set _ _ _ (omega arith); room = search rules; same = search rules }
