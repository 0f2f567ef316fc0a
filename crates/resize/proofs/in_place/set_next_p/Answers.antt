-- `resize::set_next_p` meets its contract: nothing where the top is next, else the P of the chunk next to c. Assumes nothing.
use native.Mathlib.Omega.{arith}
use lib.ListN.{length}
use Rattle.le.specs.Arena.{arena_words}
use Rattle.release_join.specs.Reads.{arena-words-within}
use Rattle.release_join.specs.Ahead.{Nearby}
use Rattle.resize.specs.Finish.{stands-nearby, next-p-top-gave, next-p-set-gave}
use Rattle.resize.proofs.in_place.set_next_p.Goals as goal

pub overflow_add-next : goal.overflow_add-next
overflow_add-next c =
    let near : Nearby (length c.args.a.now) (arena_words c.args.a.now) c.args.r.now c.args.c.0 c.args.z = stands-nearby _ _ _ _ _ c.requires.ok c.requires.holds _ (arena-words-within c.args.a.now) in
    let k = near in omega arith

pub bounds-r-1 : goal.bounds-r-1
bounds-r-1 c =
    let near : Nearby (length c.args.a.now) (arena_words c.args.a.now) c.args.r.now c.args.c.0 c.args.z = stands-nearby _ _ _ _ _ c.requires.ok c.requires.holds _ (arena-words-within c.args.a.now) in
    let k = near in omega arith

pub overflow_cast-r : goal.overflow_cast-r
overflow_cast-r c = omega (arith, c.shared_slice_known-2-1.given 1)

pub returns-then-next-r : goal.returns-then-next-r
returns-then-next-r c = record { does = λ h o S. next-p-top-gave h _ _ _ _ o S c.if-next-r.true }

pub set_p-requires : goal.set_p-requires
set_p-requires c =
    let near : Nearby (length c.args.a.now) (arena_words c.args.a.now) c.args.r.now c.args.c.0 c.args.z = stands-nearby _ _ _ _ _ c.requires.ok c.requires.holds _ (arena-words-within c.args.a.now) in
    let k = near in (k.after.even, k.after.high)

pub returns : goal.returns
returns c = record { does = λ h o S. next-p-set-gave h _ _ _ _ o S c.if-next-r.false c.set_p.ensures }
