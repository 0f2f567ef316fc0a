-- `record_words::write_words` meets its contract. The invariant: the words passed are the numbers that now stand in the bytes. So at the end the words are
-- those of the bytes, and the bytes are those of the words. Assumes nothing.
use mathlib.Core.Path.{sym, ap, ◌∙◌}
use native.Mathlib.Omega.{arith}
use Rattle.le.specs.Number.{bytes}
use Rattle.le.specs.WordsLaws.{words-ext, bytes-words}
use borrow.Author.Count.{below_none}
use Rattle.record_words.proofs.Passed.{passed-put}
use Rattle.record_words.proofs.write_words.Goals as goal

pub loop-i-init : goal.loop-i-init
loop-i-init c = (λ k. (c.type_inv.b k).fits, below_none _)

pub loop-i-preserved : goal.loop-i-preserved
loop-i-preserved c =
    let h = c.loop-i in
    (λ k. (c.type_inv.b k).fits, rw c.write.ensures (passed-put 4 h.b c.args.r.now h.i h.invariant.1 (omega arith) (c.type_inv.r h.i).fits))

pub returns : goal.returns
returns c =
    let h = c.loop-i in
    sym (bytes-words 4 396 h.b (omega (arith, h.auto.b)) h.invariant.0)
    ∙ ap (bytes 4) (sym (words-ext 4 396 h.b c.args.r.now c.requires.1 (λ k lt. h.invariant.1 k (omega arith))))
