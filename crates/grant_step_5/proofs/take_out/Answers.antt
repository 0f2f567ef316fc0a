-- `grant_step_5::take_out` meets its contract: the chunk leaves unsorted, and by its size is kept, with the next P set, or binned (`equal-gave`, `binned-gave`).
-- Assumes nothing.
use native.Mathlib.Omega.{arith}
use Rattle.grant_step_5.specs.Turns.{in-unsorted, next-inside, out-ok, out-taken, marked-ok, marked-loose, equal-gave, binned-gave}
use Rattle.grant_step_5.proofs.take_out.Goals as goal

pub unlink-requires : goal.unlink-requires
unlink-requires c =
    let p = c.requires in
    record { heap = p.heap; ok = p.ok; holds = in-unsorted p.heap _ _ _ _ p.ok p.holds }

pub overflow_add-c : goal.overflow_add-c
overflow_add-c c =
    let p = c.requires in
    let i = next-inside p.heap _ _ _ _ p.ok p.holds in
    record { fits = omega arith }

pub set_p-requires : goal.set_p-requires
set_p-requires c =
    let p = c.requires in
    let i = next-inside p.heap _ _ _ _ p.ok p.holds in
    (omega arith, omega (arith, c.unlink.auto.a))

pub keep-requires : goal.keep-requires
keep-requires c =
    let p = c.requires in
    let m = c.unlink.ensures in
    record {
      heap = _;
      ok = marked-ok p.heap _ _ _ _ p.ok p.holds _ _ m _ c.set_p.ensures;
      holds = marked-loose p.heap _ _ _ _ p.ok p.holds _ _ m _ c.set_p.ensures;
    }

pub returns-then-z-b : goal.returns-then-z-b
returns-then-z-b c =
    record { does = λ h o k. equal-gave h _ _ _ _ o k _ _ c.unlink.ensures _ c.set_p.ensures _ c.if-z-b.true _ _ _ c.keep.ensures }

pub sort_in-requires : goal.sort_in-requires
sort_in-requires c =
    let p = c.requires in
    let m = c.unlink.ensures in
    let t = out-taken p.heap _ _ _ _ p.ok p.holds _ _ m in
    record { heap = _; ok = out-ok p.heap _ _ _ _ p.ok p.holds _ _ m; holds = (t.loose, t.size) }

pub returns : goal.returns
returns c =
    record { does = λ h o k. binned-gave h _ _ _ _ o k _ _ c.unlink.ensures _ _ _ c.if-z-b.false c.sort_in.ensures }
