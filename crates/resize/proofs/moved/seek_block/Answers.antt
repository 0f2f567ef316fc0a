-- `resize::seek_block` meets its contract: nothing found, a block right behind, or one elsewhere. Assumes nothing.
use native.Mathlib.Omega.{arith}
use lib.ListN.{length}
use Rattle.le.specs.Arena.{arena_words}
use Rattle.release_join.specs.Reads.{arena-words-within}
use Rattle.release_join.specs.Ahead.{Nearby}
use Rattle.resize.specs.Finish.{live-stands, stands-nearby}
use Rattle.resize.specs.Moved.{sought-none-gave, sought-near-has, sought-near-gave, sought-far-has, sought-far-gave}
use Rattle.resize.proofs.moved.seek_block.Goals as goal

pub seek-g-requires : goal.seek-g-requires
seek-g-requires c =
    let p = c.requires.1 in
    record { heap = p.heap; ok = p.ok; holds = p.holds.good }

pub returns-in_default : goal.returns-in_default
returns-in_default c =
    record { does = λ h o L. sought-none-gave h _ _ _ _ _ o L c.args.b.whole c.args.b.least c.requires.0 _ c.seek-g.ensures c.in_default.is }

pub overflow_add-c : goal.overflow_add-c
overflow_add-c c =
    let near : Nearby (length c.args.a.now) (arena_words c.args.a.now) c.args.r.now c.args.c.0 c.args.z = stands-nearby _ _ _ _ _ c.requires.1.ok (live-stands _ _ _ c.requires.1.holds) _ (arena-words-within c.args.a.now) in
    let k = near in omega arith

pub widen-requires : goal.widen-requires
widen-requires c =
    let p = c.requires.1 in
    sought-near-has _ _ _ _ _ _ p.ok p.holds c.args.b.whole c.args.b.least c.requires.0 _ c.seek-g.ensures _ c.in-Some.is c.if-new-c.true

pub overflow_cast-result : goal.overflow_cast-result
overflow_cast-result c =
    let near : Nearby (length c.args.a.now) (arena_words c.args.a.now) c.args.r.now c.args.c.0 c.args.z = stands-nearby _ _ _ _ _ c.requires.1.ok (live-stands _ _ _ c.requires.1.holds) _ (arena-words-within c.args.a.now) in
    let k = near in record { fits = omega arith }

pub returns-then-new-c : goal.returns-then-new-c
returns-then-new-c c =
    record {
      does = λ h o L. sought-near-gave h _ _ _ _ _ o L c.args.b.whole c.args.b.least c.requires.0 _ c.seek-g.ensures _ c.in-Some.is c.if-new-c.true c.widen.ensures;
    }

pub move_to-requires : goal.move_to-requires
move_to-requires c =
    let p = c.requires.1 in
    sought-far-has _ _ _ _ _ _ p.ok p.holds c.args.b.whole c.args.b.least c.requires.0 _ c.seek-g.ensures _ c.in-Some.is

pub returns : goal.returns
returns c =
    record {
      does = λ h o L. sought-far-gave h _ _ _ _ _ o L c.args.b.whole c.args.b.least c.requires.0 _ c.seek-g.ensures _ c.in-Some.is c.if-new-c.false c.move_to.ensures;
    }
