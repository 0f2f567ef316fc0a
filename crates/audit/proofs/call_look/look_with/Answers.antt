-- `look_with`: the audit, and then what its marks say of the block. Assumes nothing.
use Rattle.std.proofs.lemmas.Result.{err_from_is_err_and}
use Rattle.audit.specs.Looks.{look-faulty, look-sound}
use Rattle.audit.proofs.call_look.look_with.Goals as goal

pub returns-in_err-audit_marks : goal.returns-in_err-audit_marks
returns-in_err-audit_marks c =
    let p = err_from_is_err_and c.from_residual.result c.from_residual.ensures.1 in
    rw (p.1, p.2) (look-faulty _ _ _ _ _ _ c.in_err-audit_marks.ensures)

pub returns : goal.returns
returns c = look-sound _ _ _ _ _ _ c.in_ok-audit_marks.ensures c.is_live.ensures
