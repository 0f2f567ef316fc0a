-- `audit_lists::unmet` meets its contract, test by test; there is no mark outside. Assumes nothing.
use Prim.Native.Nat.{ℕ}
use lib.ListN.{get_or-eq_default}
use borrow.Author.Tests.{eq-eqb, ne_eqb}
use Rattle.audit_lists.specs.Listed.{unmet}
use Rattle.audit_lists.proofs.unmet.Goals as goal

pub returns-then-c-ne0 : goal.returns-then-c-ne0
returns-then-c-ne0 c = rw (ne_eqb _ _ c.if-c-ne0.true, unmet)

pub returns-then-m-i : goal.returns-then-m-i
returns-then-m-i c = rw (eq-eqb _ _ c.if-c-ne0.false, unmet) (rw (get_or-eq_default {A = ℕ} _ 0 c.if-m-i.true))

pub returns : goal.returns
returns c = rw (eq-eqb _ _ c.if-c-ne0.false, unmet)
