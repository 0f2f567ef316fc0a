-- `script_reader::line_spaced` meets its contract: one number, or two around the first blank.
use Rattle.std.proofs.Common.{sym, ◌∙◌}
use Rattle.script_reader.proofs.Reading.{spaced-two, spaced-none}
use Rattle.script_reader.proofs.line_spaced.Goals as goal

pub returns-in_default : goal.returns-in_default
returns-in_default c = spaced-none _ _ c.if-x-ne90.false (sym c.first_blank.ensures ∙ c.in_default.is)

pub returns : goal.returns
returns c = c.line_resized.ensures ∙ (rw (c.number_of-3.ensures, c.number_of-2.ensures) (spaced-two _ _ _ c.if-x-ne90.false (sym c.first_blank.ensures ∙ c.in-Some.is)))
