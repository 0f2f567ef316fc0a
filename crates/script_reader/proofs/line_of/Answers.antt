-- `script_reader::line_of` meets its contract: by the number of bytes, and then by the one that decides.
use Rattle.std.proofs.Common.{sym, ◌∙◌, arith}
use Rattle.script_reader.proofs.Reading.{line-none, line-one, line_other, line-spaced, alone-settle, alone-other}
use Rattle.script_reader.proofs.line_of.Goals as goal

pub returns-in-len1 : goal.returns-in-len1
returns-in-len1 c = alone-settle _ c.if-x-eq83.true ∙ sym (line-one _ (omega (arith, c.in-len1.len_at_least, c.in-len1.len_below)))

pub returns-in-len2-up : goal.returns-in-len2-up
returns-in-len2-up c = c.line_spaced.ensures ∙ sym (line-spaced _ c.in-len2-up.len_at_least c.if-y-eq32.true)

pub returns-in_default : goal.returns-in_default
returns-in_default c = sym (line-none _ (omega (arith, c.in_default.len_below)))

pub returns-in_default-2 : goal.returns-in_default-2
returns-in_default-2 c = alone-other _ c.if-x-eq83.false ∙ sym (line-one _ (omega (arith, c.in-len1.len_at_least, c.in-len1.len_below)))

pub returns-in_default-3 : goal.returns-in_default-3
returns-in_default-3 c = sym (line_other _ c.in-len2-up.len_at_least c.if-y-eq32.false)
