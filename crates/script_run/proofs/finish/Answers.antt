-- `script_run::finish` meets its contract: a step for each of the three: the run has ended, no byte is kept, a last line. Assumes nothing.
use mathlib.Core.Path.{◌≡◌}
use native.Mathlib.Omega.{arith}
use Rattle.std.proofs.Common.{inl, inr}
use lib.ListN.{length, take, length-take}
use borrow.Author.Rules.{rules}
use Rattle.script.specs.Grammar.{kept_bytes}
use Rattle.script_run.proofs.Steps.{end-ended, end_none, end_line}
use Rattle.script_run.proofs.finish.Goals as goal

pub returns-then-log : goal.returns-then-log
returns-then-log c = record {
  out_after = elim c.then-log.either [
    | inl e ↦ end-ended (take c.args.log.printed c.args.out.now) _ _ _ _ _ _ e
    | inr e ↦ end_none (take c.args.log.printed c.args.out.now) _ _ _ _ _ _ e.0 (rw e.1)
  ];
  within = record { opens = c.requires.opened_bound; prints = search rules };
}

pub returns : goal.returns
returns c =
    let l = c.args.log.text in
    let e : length l.text ≡ kept_bytes = search rules in
    record { out_after = end_line (take c.args.log.printed c.args.out.now) _ _ _ _ _ _ c.if-log.false (simp length-take (omega arith)) c.run_line.ensures.out_after; within = c.run_line.ensures.within }
