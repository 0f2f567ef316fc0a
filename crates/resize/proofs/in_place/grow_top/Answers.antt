-- `resize::grow_top` meets its contract: both size words and the top are the machine's. Assumes nothing.
use native.Mathlib.Omega.{arith}
use lib.ListN.{length, get_or}
use Rattle.sizes.specs.Layout.{length_word}
use Rattle.primitives.specs.Stacks.{ok-length}
use Rattle.release_join.specs.Reads.{arena-words-within}
use Rattle.resize.specs.Grow.{Growing, growing, grow-gave}
use Rattle.resize.proofs.in_place.grow_top.Goals as goal

pub overflow_add-top : goal.overflow_add-top
overflow_add-top c =
    let room : Growing (length c.args.a.now) (get_or c.args.r.now length_word 0) c.args.c.0 c.args.b.bytes = growing _ _ _ _ _ c.requires.ok c.requires.holds _ (arena-words-within c.args.a.now) in
    let k = room in omega arith

pub set_own_size-requires : goal.set_own_size-requires
set_own_size-requires c =
    let room : Growing (length c.args.a.now) (get_or c.args.r.now length_word 0) c.args.c.0 c.args.b.bytes = growing _ _ _ _ _ c.requires.ok c.requires.holds _ (arena-words-within c.args.a.now) in
    let k = room in (omega arith, omega arith, omega arith)

pub bounds-r-0 : goal.bounds-r-0
bounds-r-0 c = omega (arith, ok-length _ _ _ c.requires.ok)

pub overflow_cast-r : goal.overflow_cast-r
overflow_cast-r c = omega (arith, c.slice_known-4-1.given 0)

pub overflow_sub-r : goal.overflow_sub-r
overflow_sub-r c =
    let room : Growing (length c.args.a.now) (get_or c.args.r.now length_word 0) c.args.c.0 c.args.b.bytes = growing _ _ _ _ _ c.requires.ok c.requires.holds _ (arena-words-within c.args.a.now) in
    let k = room in omega arith

pub set_size-requires : goal.set_size-requires
set_size-requires c =
    let room : Growing (length c.args.a.now) (get_or c.args.r.now length_word 0) c.args.c.0 c.args.b.bytes = growing _ _ _ _ _ c.requires.ok c.requires.holds _ (arena-words-within c.args.a.now) in
    let k = room in (omega (arith, c.args.b.whole), omega (arith, c.set_own_size.auto.a), omega arith)

pub overflow_cast-r-2 : goal.overflow_cast-r-2
overflow_cast-r-2 c =
    let room : Growing (length c.args.a.now) (get_or c.args.r.now length_word 0) c.args.c.0 c.args.b.bytes = growing _ _ _ _ _ c.requires.ok c.requires.holds _ (arena-words-within c.args.a.now) in
    let k = room in record { fits = omega arith }

pub bounds-r-1 : goal.bounds-r-1
bounds-r-1 c = omega (arith, ok-length _ _ _ c.requires.ok)

pub returns : goal.returns
returns c = record { does = λ h o G. grow-gave h _ _ _ _ o G c.set_own_size.ensures c.set_size.ensures }
