-- `put_numbers` meets its contract. The invariant: the numbers passed have their lines, and the others are as they were (`Lined`). Assumes nothing.
use Rattle.std.proofs.Common.{◌≡◌, ◌+◌, ◌*◌, ◌/◌, ℕ, List, length, take, sym, ◌∙◌, arith, add-one, mul-suc}
use Rattle.le.specs.Number.{words}
use Rattle.le.specs.WordsLaws.{length-words, get_d_words}
use Rattle.repair_text.specs.ChangesTurn.{lined-end, lined-turn}
use Rattle.repair_text.proofs.changes.put_numbers.Goals as goal

pub loop-i-preserved : goal.loop-i-preserved
loop-i-preserved c =
    let h = c.loop-i in
    let w = c.args.width in
    let n : ℕ = length c.args.old.now / w in
    let os : List ℕ = words w n c.args.old.now in
    let ns : List ℕ = words w n c.args.new.now in
    let x = c.number_at-x.ensures ∙ sym (get_d_words w n c.args.old.now h.i c.loop-i-test.true) in
    let y = c.number_at-y.ensures ∙ sym (get_d_words w n c.args.new.now h.i c.loop-i-test.true) in
    let put = c.put_change.ensures in
    let next : w * h.i + w ≡ w * (h.i + 1) = omega (arith, mul-suc w h.i) in (
      omega (arith, put.within, h.invariant.0),
      put.room ∙ h.invariant.1,
      put.same ∙ h.invariant.2,
      rw (sym next) (lined-turn c.args.letter w os ns (take c.args.page.now.at c.args.page.now.out.now) (take h.page.at h.page.out.now) h.i (w * h.i) h.invariant.3 (h.i + 1) _
          (rw length-words c.loop-i-test.true) (rw length-words c.loop-i-test.true) (add-one h.i) (rw (sym x, sym y) put.written)),
    )

pub returns : goal.returns
returns c =
    let h = c.loop-i in
    let w = c.args.width in
    let n : ℕ = length c.args.old.now / w in
    record {
      within = omega (arith, h.invariant.0, c.loop-i-test.false);
      written = lined-end c.args.letter w (words w n c.args.old.now) (words w n c.args.new.now) (take c.args.page.now.at c.args.page.now.out.now) (take h.page.at h.page.out.now) h.i (w * h.i) h.invariant.3
          (omega (arith, c.loop-i-test.false, length-words w n c.args.old.now));
      room = h.invariant.1;
      same = h.invariant.2;
    }
