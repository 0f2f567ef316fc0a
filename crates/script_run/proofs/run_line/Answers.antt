-- `script_run::run_line` meets its contract: a line in its place is run; any other prints its number. Assumes nothing.
use borrow.Author.Rules.{rules}
use mathlib.Core.Path.{sym, ◌∙◌}
use native.Mathlib.Omega.{arith}
use lib.ListN.{take}
use Rattle.script_run.proofs.Steps.{placed, questioned, opened-within}
use Rattle.script_run.proofs.run_line.Goals as goal

pub run_placed-requires : goal.run_placed-requires
run_placed-requires c =
    let fits = opened-within c.count-k.result c.args.log.opened c.line_read-line.result (sym c.in_place.ensures ∙ c.if-in_place.true) c.requires.opened_bound in
    record { buffers = c.requires.buffers; n_bound = rw c.length_of-n.ensures fits; at_in_bounds = c.requires.printed_in_bounds }

pub returns-then-in_place : goal.returns-then-in_place
returns-then-in_place c = record { out_after = placed (take c.args.log.printed c.args.out.now) _ _ _ _ _ _ c.count-k.ensures c.line_read-line.ensures (sym c.in_place.ensures ∙ c.if-in_place.true) c.length_of-n.ensures c.run_placed.ensures.out_after; within = c.run_placed.ensures.within }

pub returns : goal.returns
returns c = record { out_after = questioned (take c.args.log.printed c.args.out.now) _ _ _ _ _ _ c.count-k.ensures c.line_read-line.ensures (sym c.in_place.ensures ∙ c.if-in_place.false) c.no_bytes.ensures (search rules); within = record { opens = c.requires.opened_bound; prints = omega (arith, c.question.ensures.within) } }
