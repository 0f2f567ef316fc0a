-- `release_join::put_down` meets its contract: at the top by the heap with the top from c on, else by the heap with the next P cleared. Assumes nothing.
use native.Mathlib.Omega.{arith}
use mathlib.Core.Path.{refl}
use lib.ListN.{length}
use Rattle.le.specs.Arena.{arena_words}
use Rattle.release_join.specs.Reads.{arena-words-within}
use Rattle.release_join.specs.Ahead.{Nearby}
use Rattle.release_join.specs.Parts.{nearby, down-top-gave, down-has, down-bin-gave}
use Rattle.release_join.proofs.put_down.Goals as goal

pub overflow_add-next : goal.overflow_add-next
overflow_add-next c =
    let near : Nearby (length c.args.a.now) (arena_words c.args.a.now) c.args.r.now c.args.c.0 c.args.z = nearby _ _ _ _ _ c.requires.0.ok c.requires.0.holds c.requires.1 _ (arena-words-within c.args.a.now) in
    let k = near in omega arith

pub bounds-r-1 : goal.bounds-r-1
bounds-r-1 c =
    let near : Nearby (length c.args.a.now) (arena_words c.args.a.now) c.args.r.now c.args.c.0 c.args.z = nearby _ _ _ _ _ c.requires.0.ok c.requires.0.holds c.requires.1 _ (arena-words-within c.args.a.now) in
    let k = near in omega arith

pub overflow_cast-r : goal.overflow_cast-r
overflow_cast-r c = omega (arith, c.slice_known-3-1.given 1)

pub bounds-r-0 : goal.bounds-r-0
bounds-r-0 c =
    let near : Nearby (length c.args.a.now) (arena_words c.args.a.now) c.args.r.now c.args.c.0 c.args.z = nearby _ _ _ _ _ c.requires.0.ok c.requires.0.holds c.requires.1 _ (arena-words-within c.args.a.now) in
    let k = near in omega arith

pub overflow_cast-s : goal.overflow_cast-s
overflow_cast-s c = omega (arith, c.slice_known-then-next-r-1.given 0)

pub overflow_sub-s : goal.overflow_sub-s
overflow_sub-s c =
    let near : Nearby (length c.args.a.now) (arena_words c.args.a.now) c.args.r.now c.args.c.0 c.args.z = nearby _ _ _ _ _ c.requires.0.ok c.requires.0.holds c.requires.1 _ (arena-words-within c.args.a.now) in
    let k = near in omega arith

pub set_size-requires : goal.set_size-requires
set_size-requires c =
    let near : Nearby (length c.args.a.now) (arena_words c.args.a.now) c.args.r.now c.args.c.0 c.args.z = nearby _ _ _ _ _ c.requires.0.ok c.requires.0.holds c.requires.1 _ (arena-words-within c.args.a.now) in
    let k = near in omega arith

pub overflow_cast-r-then-next-r : goal.overflow_cast-r-then-next-r
overflow_cast-r-then-next-r c =
    let near : Nearby (length c.args.a.now) (arena_words c.args.a.now) c.args.r.now c.args.c.0 c.args.z = nearby _ _ _ _ _ c.requires.0.ok c.requires.0.holds c.requires.1 _ (arena-words-within c.args.a.now) in
    let k = near in omega arith

pub bounds-r-1-then-next-r : goal.bounds-r-1-then-next-r
bounds-r-1-then-next-r c =
    let near : Nearby (length c.args.a.now) (arena_words c.args.a.now) c.args.r.now c.args.c.0 c.args.z = nearby _ _ _ _ _ c.requires.0.ok c.requires.0.holds c.requires.1 _ (arena-words-within c.args.a.now) in
    let k = near in omega arith

pub returns-then-next-r : goal.returns-then-next-r
returns-then-next-r c =
    record { does = λ h o O. down-top-gave h _ _ _ _ o O c.requires.1 _ c.if-next-r.true refl c.set_size.ensures refl }

pub clear_p-requires : goal.clear_p-requires
clear_p-requires c =
    let near : Nearby (length c.args.a.now) (arena_words c.args.a.now) c.args.r.now c.args.c.0 c.args.z = nearby _ _ _ _ _ c.requires.0.ok c.requires.0.holds c.requires.1 _ (arena-words-within c.args.a.now) in
    let k = near in omega arith

pub put_first-requires : goal.put_first-requires
put_first-requires c =
    (omega arith, omega arith, down-has _ _ _ _ _ c.requires.0.ok c.requires.0.holds c.requires.1 _ c.if-next-r.false c.clear_p.ensures)

pub returns : goal.returns
returns c =
    record { does = λ h o O. down-bin-gave h _ _ _ _ o O c.requires.1 _ c.if-next-r.false c.clear_p.ensures c.put_first.ensures }
