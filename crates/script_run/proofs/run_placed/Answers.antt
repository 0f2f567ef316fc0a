-- `script_run::run_placed` meets its contract: call, end, top and text are those of the step, one by one. Assumes nothing.
use borrow.Author.Rules.{rules}
use lib.ListN.{take}
use Rattle.script_run.proofs.Steps.{ran}
use Rattle.script_run.proofs.run_placed.Goals as goal

pub returns : goal.returns
returns c = record { out_after = ran (take c.args.at c.args.out.now) _ _ _ _ c.call_within-x.ensures c.ends_by-ended.ensures c.top_after-top.ensures c.letter_of-letter.ensures (search rules) c.no_bytes.ensures; within = record { opens = c.requires.n_bound; prints = c.put_answer.ensures.within } }
