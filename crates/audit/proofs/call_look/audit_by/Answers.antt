-- `audit_by` meets its contract: the audit's answer in what a look finds. Assumes nothing.
use Rattle.std.proofs.lemmas.Result.{err_from_is_err_and}
use Rattle.audit.specs.Looks.{fault-of-look}
use Rattle.audit.proofs.call_look.audit_by.Goals as goal

pub returns-in_err-look_by : goal.returns-in_err-look_by
returns-in_err-look_by c =
    let p = err_from_is_err_and c.from_residual.result c.from_residual.ensures.1 in
    rw (p.1, p.2) (fault-of-look _ _ _ 0 _ c.in_err-look_by.ensures)

pub returns : goal.returns
returns c = fault-of-look _ _ _ 0 _ c.in_ok-look_by.ensures
