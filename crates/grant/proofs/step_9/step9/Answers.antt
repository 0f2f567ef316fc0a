-- `grant::step9` meets its contract: the top lies where the record says, and both size words and the top are the machine's. Assumes nothing.
use native.Mathlib.Omega.{arith}
use lib.ListN.{length, get_or}
use Rattle.sizes.specs.Layout.{length_word, top_word}
use Rattle.primitives.specs.Stacks.{ok-length}
use Rattle.grant.specs.Top.{TopAt, top-at, short9, took9}
use borrow.Author.Rules.{rules}
use Rattle.grant.proofs.step_9.step9.Goals as goal

pub bounds-r-0 : goal.bounds-r-0
bounds-r-0 c = omega (arith, ok-length _ _ _ c.requires.ok)

pub overflow_cast-s : goal.overflow_cast-s
overflow_cast-s c = let g = c.slice_known-4-1.given 0 in search rules

pub bounds-r-1 : goal.bounds-r-1
bounds-r-1 c = omega (arith, ok-length _ _ _ c.requires.ok)

pub overflow_cast-top : goal.overflow_cast-top
overflow_cast-top c = let g = c.slice_known-3-1.given 1 in search rules

pub overflow_sub-s : goal.overflow_sub-s
overflow_sub-s c =
    let top : TopAt (length c.args.a.now) (get_or c.args.r.now top_word 0) (get_or c.args.r.now length_word 0) = top-at _ _ c.requires in
    omega (arith, (top).room)

pub overflow_add-b : goal.overflow_add-b
overflow_add-b c = omega (arith, c.args.b.most)

pub returns-then-s-b : goal.returns-then-s-b
returns-then-s-b c = short9 c.args.b.bytes _ _ c.if-s-b.true

pub set_size-requires : goal.set_size-requires
set_size-requires c =
    let top : TopAt (length c.args.a.now) (get_or c.args.r.now top_word 0) (get_or c.args.r.now length_word 0) = top-at _ _ c.requires in
    let t = top in (omega (arith, t.even), omega (arith, t.room, t.inside), omega (arith, c.args.b.most))

pub overflow_add-r : goal.overflow_add-r
overflow_add-r c =
    let top : TopAt (length c.args.a.now) (get_or c.args.r.now top_word 0) (get_or c.args.r.now length_word 0) = top-at _ _ c.requires in
    omega (arith, (top).small, (top).room, c.args.b.most)

pub overflow_sub-s-2 : goal.overflow_sub-s-2
overflow_sub-s-2 c = omega (arith, c.if-s-b.false)

pub set_size-requires-2 : goal.set_size-requires-2
set_size-requires-2 c =
    let top : TopAt (length c.args.a.now) (get_or c.args.r.now top_word 0) (get_or c.args.r.now length_word 0) = top-at _ _ c.requires in
    let t = top in
    (omega (arith, t.even, c.args.b.whole), omega (arith, t.inside, c.if-s-b.false, c.set_size.auto.a), omega (arith, t.small))

pub overflow_add-top : goal.overflow_add-top
overflow_add-top c =
    let top : TopAt (length c.args.a.now) (get_or c.args.r.now top_word 0) (get_or c.args.r.now length_word 0) = top-at _ _ c.requires in
    omega (arith, (top).small, c.args.b.most)

pub overflow_cast-r : goal.overflow_cast-r
overflow_cast-r c =
    let top : TopAt (length c.args.a.now) (get_or c.args.r.now top_word 0) (get_or c.args.r.now length_word 0) = top-at _ _ c.requires in
    record { fits = omega (arith, (top).small, c.if-s-b.false) }

pub bounds-r-1-2 : goal.bounds-r-1-2
bounds-r-1-2 c = omega (arith, ok-length _ _ _ c.requires.ok)

pub overflow_cast-result : goal.overflow_cast-result
overflow_cast-result c =
    let top : TopAt (length c.args.a.now) (get_or c.args.r.now top_word 0) (get_or c.args.r.now length_word 0) = top-at _ _ c.requires in
    record { fits = omega (arith, (top).small, (top).room) }

pub returns : goal.returns
returns c = took9 c.args.b.bytes _ _ _ _ c.if-s-b.false c.set_size.ensures c.set_size-2.ensures
