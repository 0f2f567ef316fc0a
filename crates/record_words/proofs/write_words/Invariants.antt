-- `record_words::write_words` meets its contract. The invariant: the words passed are the numbers that now stand in the bytes. So at the end the words are
-- those of the bytes, and the bytes are those of the words. Assumes nothing.
use Prim.Native.Nat.{ℕ, ◌<◌}
use lib.ListN.{get_or}
use Rattle.record_words.proofs.Passed.{Passed}
use Rattle.record_words.proofs.write_words.Given as goal

abbrev pub invariant-loop-i : goal.invariant-loop-i
invariant-loop-i l = ((k : ℕ) → get_or l.b k 0 < 256) × Passed 4 l.b l.r l.i
