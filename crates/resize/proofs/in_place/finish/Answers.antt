-- `resize::finish` meets its contract: the next P alone where the rest is too small (`finish-whole-gave`), else the rest cut off, the next P and the release
-- (`finish-cut-gave`). Assumes nothing.
use native.Mathlib.Omega.{arith}
use lib.ListN.{length}
use Rattle.le.specs.Arena.{arena_words}
use Rattle.release_join.specs.Reads.{arena-words-within}
use Rattle.release_join.specs.Ahead.{Nearby}
use Rattle.resize.specs.Finish.{stands-nearby, finish-whole-gave, trim-has, rest_has, finish-cut-gave}
use Rattle.resize.proofs.in_place.finish.Goals as goal

pub returns-then-z-b-lt-LEAST_CHUNK : goal.returns-then-z-b-lt-LEAST_CHUNK
returns-then-z-b-lt-LEAST_CHUNK c = record { does = λ h o S. finish-whole-gave h _ _ _ _ _ o S c.if-z-b-lt-LEAST_CHUNK.true (c.set_next_p.ensures.does h o S) }

pub trim-requires : goal.trim-requires
trim-requires c =
    let near : Nearby (length c.args.a.now) (arena_words c.args.a.now) c.args.r.now c.args.c.0 c.args.z = stands-nearby _ _ _ _ _ c.requires.1.ok c.requires.1.holds _ (arena-words-within c.args.a.now) in
    let k = near in
    (omega arith, omega (arith, c.if-z-b-lt-LEAST_CHUNK.false), omega arith, omega arith)

pub overflow_add-c : goal.overflow_add-c
overflow_add-c c =
    let near : Nearby (length c.args.a.now) (arena_words c.args.a.now) c.args.r.now c.args.c.0 c.args.z = stands-nearby _ _ _ _ _ c.requires.1.ok c.requires.1.holds _ (arena-words-within c.args.a.now) in
    let k = near in omega arith

pub set_next_p-requires-2 : goal.set_next_p-requires-2
set_next_p-requires-2 c =
    let p = c.requires.1 in
    trim-has _ _ _ _ _ _ p.ok p.holds c.args.b.whole c.args.b.least (omega (arith, c.if-z-b-lt-LEAST_CHUNK.false)) c.trim.ensures

pub overflow_add-c-2 : goal.overflow_add-c-2
overflow_add-c-2 c =
    let near : Nearby (length c.args.a.now) (arena_words c.args.a.now) c.args.r.now c.args.c.0 c.args.z = stands-nearby _ _ _ _ _ c.requires.1.ok c.requires.1.holds _ (arena-words-within c.args.a.now) in
    let k = near in omega arith

pub release-requires : goal.release-requires
release-requires c =
    let p = c.requires.1 in
    rest_has _ _ _ _ _ _ p.ok p.holds c.args.b.whole c.args.b.least (omega (arith, c.if-z-b-lt-LEAST_CHUNK.false)) c.trim.ensures c.set_next_p-2.ensures

pub returns : goal.returns
returns c =
    record {
      does = λ h o S. finish-cut-gave h _ _ _ _ _ o S c.args.b.whole c.args.b.least (omega (arith, c.if-z-b-lt-LEAST_CHUNK.false)) c.trim.ensures c.set_next_p-2.ensures
          c.release.ensures.does;
    }
