-- `reach` meets its contract: the loop keeps Before, from the marks of the tile walk on. Assumes nothing.
use mathlib.Core.Path.{sym, ◌∙◌}
use native.Mathlib.Omega.{arith}
use borrow.Author.Tests.{eqb-true}
use Rattle.le.specs.Arena.{arena_words}
use Rattle.audit_reached.specs.ReachTurn.{lists-enter, list-empty, lists-done}
use Rattle.audit_reached.proofs.reach.Goals as goal
use Rattle.audit_reached.proofs.reach.Goals.{then-not-is_empty, else-not-is_empty}

pub loop-i-init : goal.loop-i-init
loop-i-init c = lists-enter c.args.v (arena_words c.args.a.now) c.args.r.now c.args.m.now c.requires.2

pub reach_list-requires : goal.reach_list-requires
reach_list-requires c =
    let l = c.loop-i in
    (record { arena = c.requires.0.arena; room = omega (arith, c.requires.0.room, l.auto.m) }, c.requires.1, c.loop-i-test.true, l.invariant)

pub returns : goal.returns
returns c =
    let l = c.loop-i in
    lists-done c.args.v (arena_words c.args.a.now) c.args.r.now l.m l.i (omega (arith, l.auto.i-end, c.loop-i-test.false)) l.invariant

pub loop-i-preserved : goal.loop-i-preserved
loop-i-preserved c =
    let l = c.loop-i in
    elim c.if-not-is_empty.branch [
      | then-not-is_empty w ↦ rw w.m-is w.reach_list.ensures
      | else-not-is_empty w ↦ rw w.m-is (list-empty c.args.v (arena_words c.args.a.now) c.args.r.now l.m l.i c.loop-i-test.true (eqb-true _ _ (sym c.is_empty.ensures ∙ w.if-not-is_empty.false)) l.invariant)
    ]
