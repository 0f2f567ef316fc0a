-- `script_reader::number_of` meets its contract: from turn to turn, by the test of the next byte.
use Rattle.std.proofs.Common.{◌≡◌, ◌<◌, sym, ◌∙◌, true, false, get_or, inl, inr, arith}
use Rattle.script.specs.Grammar.{digit?}
use Rattle.script_reader.proofs.Reading.{digit-is, digit_low, digit_fits, number_fits, digits-turn, digits-stop, digits-end, number-good, number-none}
use Rattle.script_reader.specs.GrammarLaws.{number-long}
use Rattle.script_reader.proofs.number_of.Goals as goal

pub returns-then-is_empty : goal.returns-then-is_empty
returns-then-is_empty c = elim c.then-is_empty.either [
  | inl e ↦ sym (number-none _ (sym c.is_empty.ensures ∙ e))
  | inr e ↦ sym (number-long _ (omega arith))
]

pub overflow_mul-n : goal.overflow_mul-n
overflow_mul-n c = let h : c.loop-b.n < 1000000 = number_fits _ _ c.loop-b.invariant.fits (omega arith) in omega arith

pub overflow_add-n : goal.overflow_add-n
overflow_add-n c =
    let h : c.loop-b.n < 1000000 = number_fits _ _ c.loop-b.invariant.fits (omega arith) in
    let d = digit_low (get_or c.args.t.now c.loop-b.b-index 0) (sym (digit-is (get_or c.args.t.now c.loop-b.b-index 0)) ∙ sym c.is_ascii_digit.ensures.value ∙ c.if-not-is_ascii_digit.false) in
    omega (arith, c.from.ensures)

pub returns-then-not-is_ascii_digit : goal.returns-then-not-is_ascii_digit
returns-then-not-is_ascii_digit c =
    let h = c.loop-b in
    let d : digit? (get_or c.args.t.now h.b-index 0) ≡ false = sym (digit-is (get_or c.args.t.now h.b-index 0)) ∙ sym c.is_ascii_digit.ensures.value ∙ c.if-not-is_ascii_digit.true in
    sym (number-good _ (sym c.is_empty.ensures ∙ c.if-is_empty.false) (omega arith) ∙ sym h.invariant.spelt ∙ digits-stop h.n h.b-index _ c.loop-b-test.true d)

pub loop-b-preserved : goal.loop-b-preserved
loop-b-preserved c =
    let h = c.loop-b in
    let d : digit? (get_or c.args.t.now h.b-index 0) ≡ true = sym (digit-is (get_or c.args.t.now h.b-index 0)) ∙ sym c.is_ascii_digit.ensures.value ∙ c.if-not-is_ascii_digit.false in
    record {
      fits = rw c.from.ensures (digit_fits h.n h.b-index _ h.invariant.fits (digit_low _ d).1);
      spelt = rw c.from.ensures (digits-turn h.n h.b-index _ c.loop-b-test.true d ∙ h.invariant.spelt);
    }

pub returns : goal.returns
returns c =
    let h = c.loop-b in
    sym (number-good _ (sym c.is_empty.ensures ∙ c.if-is_empty.false) (omega arith) ∙ sym h.invariant.spelt ∙ digits-end h.n h.b-index _ h.auto.b-index-end c.loop-b-test.false)
