-- `flags::flag_ok` meets its contract, test by test. Assumes nothing.
use borrow.Author.Tests.{eq-eqb, ne_eqb}
use Rattle.machine.specs.Audit.{flag_ok}
use Rattle.audit_walks.proofs.flags.flag_ok.Goals as goal

pub returns-then-u-ne-BINNED : goal.returns-then-u-ne-BINNED
returns-then-u-ne-BINNED c = rw (ne_eqb _ _ c.if-u-ne-BINNED.true, flag_ok)

pub returns-then-p-ne0 : goal.returns-then-p-ne0
returns-then-p-ne0 c = rw (eq-eqb _ _ c.if-u-ne-BINNED.false, flag_ok) (rw (ne_eqb _ _ c.if-p-ne0.true))

pub returns-then-prev-s : goal.returns-then-prev-s
returns-then-prev-s c = rw (eq-eqb _ _ c.if-u-ne-BINNED.false, flag_ok) (rw (eq-eqb _ _ c.if-p-ne0.false) (rw (ne_eqb _ _ c.if-prev-s.true)))

pub returns-then-v-eq-BINNED : goal.returns-then-v-eq-BINNED
returns-then-v-eq-BINNED c =
    rw (eq-eqb _ _ c.if-u-ne-BINNED.false, flag_ok)
    (rw (eq-eqb _ _ c.if-p-ne0.false) (rw (eq-eqb _ _ c.if-prev-s.false) (rw (eq-eqb _ _ c.if-v-eq-BINNED.true))))

pub returns : goal.returns
returns c =
    rw (eq-eqb _ _ c.if-u-ne-BINNED.false, flag_ok)
    (rw (eq-eqb _ _ c.if-p-ne0.false) (rw (eq-eqb _ _ c.if-prev-s.false) (rw (ne_eqb _ _ c.if-v-eq-BINNED.false))))
