-- `script_reader::number_of`: what the digits from the next on spell after n is what all of them spell, and n has no more digits than were read.
use Rattle.std.proofs.Common.{◌≡◌, ◌<◌, ◌^◌, drop}
use Rattle.script.specs.Grammar.{digits_from}
use Rattle.script_reader.proofs.number_of.Given as goal

abbrev pub invariant-loop-b : goal.invariant-loop-b
invariant-loop-b l = record { fits : l.n < 10 ^ l.b-index; spelt : digits_from l.n (drop l.b-index l.t) ≡ digits_from 0 l.t }
