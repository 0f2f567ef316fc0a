-- `script_run::empty_and_join` meets its contract: a case for each answer of the emptying; only a good one is followed by the joining. Assumes nothing.
use Rattle.std.specs.Prelude.{Ok}
use Rattle.std.proofs.Common.{refl, ap}
use Rattle.std.proofs.lemmas.Result.{err_from_is_err_and}
use Rattle.script_run.proofs.Steps.{joined-done, joined-granted, joined-refused}
use Rattle.script_run.proofs.empty_and_join.Goals as goal

pub returns-in_err-x : goal.returns-in_err-x
returns-in_err-x c =
    let p = err_from_is_err_and c.from_residual.result c.from_residual.ensures.1 in
    rw (p.1, p.2) (joined-refused _ _ _ _ c.in_err-x.ensures _ refl)

pub returns-in-Done : goal.returns-in-Done
returns-in-Done c = joined-done _ _ _ _ c.in_ok-x.ensures (ap Ok c.in-Done.is) c.joining.ensures

pub returns-in-Granted : goal.returns-in-Granted
returns-in-Granted c = rw c.in-Granted.is (joined-granted _ _ _ _ c.in_ok-x.ensures _ _ (ap Ok c.in-Granted.is))
