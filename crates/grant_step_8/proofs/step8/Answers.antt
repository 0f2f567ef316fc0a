-- `grant_step_8::step8` meets its contract: the size that is read is the chunk's (`size-fit`), and what leaves its bin is taken and can be carved (`step8-gave`). Assumes nothing.
use native.Mathlib.Omega.{arith}
use lib.ListN.{length}
use Rattle.primitives.specs.Chunks.{Inside}
use Rattle.primitives.specs.Bins.{home-inside}
use Rattle.grant_step_8.specs.Carving.{size-fit, fit-in, unlinked-has, step8-gave}
use Rattle.grant_step_8.proofs.step8.Goals as goal

pub size_at-z-requires : goal.size_at-z-requires
size_at-z-requires c =
    let inside : Inside (length c.args.a.now) c.args.c.0 = home-inside _ _ _ _ _ c.requires.ok c.requires.holds.1.here in
    let i = inside in (omega arith, omega arith)

pub unlink-requires : goal.unlink-requires
unlink-requires c = let p = c.requires in record { heap = p.heap; ok = p.ok; holds = fit-in _ _ _ _ p.holds.0 p.holds.1 }

pub carve-requires : goal.carve-requires
carve-requires c =
    let p = c.requires in
    let e = size-fit _ _ _ _ _ _ _ p.ok p.holds.0 p.holds.1 c.size_at-z.ensures in
    (omega (arith, e, p.holds.1.enough), unlinked-has _ _ _ _ _ _ _ p.ok p.holds.0 p.holds.1 c.size_at-z.ensures _ _ c.unlink.ensures)

pub overflow_cast-result : goal.overflow_cast-result
overflow_cast-result c =
    let inside : Inside (length c.args.a.now) c.args.c.0 = home-inside _ _ _ _ _ c.requires.ok c.requires.holds.1.here in
    let i = inside in record { fits = omega arith }

pub returns : goal.returns
returns c = record { does = λ h o f. step8-gave h _ _ _ _ _ _ o f.0 f.1 c.size_at-z.ensures _ _ c.unlink.ensures _ _ _ c.carve.ensures }
