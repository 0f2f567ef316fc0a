-- `allowed` is `arena_allowed?`, test by test. Assumes nothing.
use Prim.Native.Nat.{◌≤◌, ◌<◌}
use borrow.Author.Tests.{eq-eqb, ne_eqb, le-leb, lt-leb}
use Rattle.machine.specs.Calls.{arena_allowed?}
use Rattle.calls.proofs.shape.allowed.Goals as goal

pub returns-then-n-ne0 : goal.returns-then-n-ne0
returns-then-n-ne0 c = rw (ne_eqb _ _ c.if-n-ne0.true, arena_allowed?)

pub returns-then-n-lt-LEAST_ARENA : goal.returns-then-n-lt-LEAST_ARENA
returns-then-n-lt-LEAST_ARENA c =
    let h : _ < 32 = c.if-n-lt-LEAST_ARENA.true in
    rw (eq-eqb _ _ c.if-n-ne0.false, arena_allowed?) (rw (lt-leb _ _ h))

pub returns : goal.returns
returns c =
    let h : 32 ≤ _ = c.if-n-lt-LEAST_ARENA.false in
    rw (eq-eqb _ _ c.if-n-ne0.false, arena_allowed?) (rw (le-leb _ _ h))
