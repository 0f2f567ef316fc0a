-- `record_words::read_words` meets its contract. The invariant: the words passed are the numbers of the bytes. Assumes nothing.
use Rattle.record_words.proofs.Passed.{Passed}
use Rattle.record_words.proofs.read_words.Given as goal

abbrev pub invariant-loop-i : goal.invariant-loop-i
invariant-loop-i l = Passed 4 l.b l.r l.i
