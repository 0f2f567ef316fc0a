-- `resize::behind_reaches` meets its contract: the top is not binned, and the P behind another chunk tells. Assumes nothing.
use native.Mathlib.Omega.{arith}
use Prim.Native.Nat.{◌+◌}
use lib.ListN.{length}
use Rattle.le.specs.Arena.{arena_words}
use Rattle.primitives.specs.Chunks.{Inside}
use Rattle.release_join.specs.Reads.{arena-words-within, size-inside}
use Rattle.release_join.specs.Ahead.{Nearby}
use Rattle.resize.specs.Finish.{live-stands, stands-nearby}
use Rattle.resize.specs.Ways.{top-behind, held-behind, binned-behind}
use Rattle.resize.proofs.behind_reaches.Goals as goal

pub overflow_add-n : goal.overflow_add-n
overflow_add-n c =
    let near : Nearby (length c.args.a.now) (arena_words c.args.a.now) c.args.r.now c.args.c.0 c.args.z = stands-nearby _ _ _ _ _ c.requires.ok (live-stands _ _ _ c.requires.holds) _ (arena-words-within c.args.a.now) in
    let k = near in omega arith

pub bounds-r-1 : goal.bounds-r-1
bounds-r-1 c =
    let near : Nearby (length c.args.a.now) (arena_words c.args.a.now) c.args.r.now c.args.c.0 c.args.z = stands-nearby _ _ _ _ _ c.requires.ok (live-stands _ _ _ c.requires.holds) _ (arena-words-within c.args.a.now) in
    let k = near in omega arith

pub overflow_cast-r : goal.overflow_cast-r
overflow_cast-r c = omega (arith, c.shared_slice_known-3-1.given 1)

pub returns-then-n-r : goal.returns-then-n-r
returns-then-n-r c h o L = top-behind h _ _ _ _ _ o L c.if-n-r.true

pub size_at-zn-requires : goal.size_at-zn-requires
size_at-zn-requires c =
    let near : Nearby (length c.args.a.now) (arena_words c.args.a.now) c.args.r.now c.args.c.0 c.args.z = stands-nearby _ _ _ _ _ c.requires.ok (live-stands _ _ _ c.requires.holds) _ (arena-words-within c.args.a.now) in
    size-inside (near).after

pub overflow_add-n-2 : goal.overflow_add-n-2
overflow_add-n-2 c =
    let near : Nearby (length c.args.a.now) (arena_words c.args.a.now) c.args.r.now c.args.c.0 c.args.z = stands-nearby _ _ _ _ _ c.requires.ok (live-stands _ _ _ c.requires.holds) _ (arena-words-within c.args.a.now) in
    let last : Inside (length c.args.a.now) (c.args.c.0 + c.args.z + c.size_at-zn.result) = (near).beyond c.if-n-r.false _ c.size_at-zn.ensures in
    let k = last in omega arith

pub size_word_at-requires : goal.size_word_at-requires
size_word_at-requires c =
    let near : Nearby (length c.args.a.now) (arena_words c.args.a.now) c.args.r.now c.args.c.0 c.args.z = stands-nearby _ _ _ _ _ c.requires.ok (live-stands _ _ _ c.requires.holds) _ (arena-words-within c.args.a.now) in
    let last : Inside (length c.args.a.now) (c.args.c.0 + c.args.z + c.size_at-zn.result) = (near).beyond c.if-n-r.false _ c.size_at-zn.ensures in
    size-inside (last)

pub returns-then-has_p : goal.returns-then-has_p
returns-then-has_p c h o L =
    held-behind h _ _ _ _ _ o L _ _ _ c.if-n-r.false c.size_at-zn.ensures c.size_word_at.ensures c.has_p.ensures c.if-has_p.true

pub overflow_add-result : goal.overflow_add-result
overflow_add-result c =
    let near : Nearby (length c.args.a.now) (arena_words c.args.a.now) c.args.r.now c.args.c.0 c.args.z = stands-nearby _ _ _ _ _ c.requires.ok (live-stands _ _ _ c.requires.holds) _ (arena-words-within c.args.a.now) in
    let last : Inside (length c.args.a.now) (c.args.c.0 + c.args.z + c.size_at-zn.result) = (near).beyond c.if-n-r.false _ c.size_at-zn.ensures in
    let k = last in omega arith

pub returns : goal.returns
returns c h o L =
    binned-behind h _ _ _ _ _ o L _ _ _ c.if-n-r.false c.size_at-zn.ensures c.size_word_at.ensures c.has_p.ensures c.if-has_p.false
