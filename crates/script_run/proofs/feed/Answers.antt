-- `script_run::feed` meets its contract: a step for each of the three: the run has ended, a newline, another byte. Assumes nothing.
use lib.ListN.{take}
use borrow.Author.Rules.{rules}
use Rattle.script_run.proofs.Steps.{byte-ended, byte-newline, byte-other}
use Rattle.script_run.proofs.feed.Goals as goal

pub returns-then-log : goal.returns-then-log
returns-then-log c = record { out_after = byte-ended (take c.args.log.printed c.args.out.now) _ _ _ _ _ _ _ c.if-log.true; within = record { opens = c.requires.opened_bound; prints = search rules } }

pub returns-then-b-eq10 : goal.returns-then-b-eq10
returns-then-b-eq10 c = record { out_after = byte-newline (take c.args.log.printed c.args.out.now) _ _ _ _ _ _ _ c.if-log.false c.if-b-eq10.true c.run_line.ensures.out_after; within = c.run_line.ensures.within }

pub returns : goal.returns
returns c = record { out_after = byte-other (take c.args.log.printed c.args.out.now) _ _ _ _ _ _ _ c.if-log.false c.if-b-eq10.false c.feed.ensures; within = record { opens = c.requires.opened_bound; prints = search rules } }
