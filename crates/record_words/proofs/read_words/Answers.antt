-- `record_words::read_words` meets its contract. The invariant: the words passed are the numbers of the bytes. Assumes nothing.
use native.Mathlib.Omega.{arith}
use Rattle.le.specs.WordsLaws.{words-ext}
use Rattle.record_words.proofs.Passed.{passed-set}
use Rattle.record_words.proofs.read_words.Goals as goal

pub loop-i-preserved : goal.loop-i-preserved
loop-i-preserved c = let h = c.loop-i in passed-set 4 _ h.r h.i _ h.invariant (omega arith) c.read.ensures

pub returns : goal.returns
returns c = let h = c.loop-i in words-ext 4 396 _ _ (omega (arith, h.auto.r, c.requires.1)) (λ k lt. h.invariant k (omega (arith, h.auto.r)))
