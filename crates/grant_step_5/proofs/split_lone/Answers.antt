-- `grant_step_5::split_lone` meets its contract: the lone chunk, out of unsorted, can be split (`out-taken`), and the three steps are one (`split_lone-gave`).
-- Assumes nothing.
use mathlib.Core.Path.{refl, ◌∙◌}
use native.Mathlib.Omega.{arith}
use lib.ListN.{length-set}
use Rattle.primitives.specs.Stacks.{ok-length}
use Rattle.grant_step_5.specs.Turns.{in-unsorted, next-inside, out-ok, out-taken, split_lone-gave}
use Rattle.grant_step_5.proofs.split_lone.Goals as goal

pub unlink-requires : goal.unlink-requires
unlink-requires c =
    let p = c.requires.1 in
    record { heap = p.heap; ok = p.ok; holds = in-unsorted p.heap _ _ _ _ p.ok p.holds }

pub split-requires : goal.split-requires
split-requires c =
    let p = c.requires.1 in
    let m = c.unlink.ensures in (
      omega (arith, c.requires.0),
      record { heap = _; ok = out-ok p.heap _ _ _ _ p.ok p.holds _ _ m; holds = out-taken p.heap _ _ _ _ p.ok p.holds _ _ m },
    )

pub overflow_add-r : goal.overflow_add-r
overflow_add-r c =
    let i = next-inside c.requires.1.heap _ _ _ _ c.requires.1.ok c.requires.1.holds in
    record { fits = omega arith }

pub overflow_cast-r : goal.overflow_cast-r
overflow_cast-r c =
    let i = next-inside c.requires.1.heap _ _ _ _ c.requires.1.ok c.requires.1.holds in
    record { fits = omega arith }

pub bounds-r-2 : goal.bounds-r-2
bounds-r-2 c = omega (arith, c.split.auto.r, c.unlink.auto.r, ok-length _ _ _ c.requires.1.ok)

pub shape_of-r : goal.shape_of-r
shape_of-r c = simp length-set (c.split.auto.r ∙ c.unlink.auto.r)

pub returns : goal.returns
returns c =
    record { does = λ h o k. split_lone-gave h _ _ _ _ o k _ _ c.unlink.ensures _ _ _ _ c.split.ensures refl }
