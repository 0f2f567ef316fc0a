-- `release_join::join_next` meets its contract: what stands around an open chunk lies in the arena, and the P behind the next one tells whether that is binned.
-- Assumes nothing.
use native.Mathlib.Omega.{arith}
use Prim.Native.Nat.{◌+◌}
use mathlib.Core.Path.{sym}
use lib.ListN.{length}
use Rattle.le.specs.Arena.{arena_words}
use Rattle.release_join.specs.Reads.{arena-words-within, size-inside}
use Rattle.primitives.specs.Chunks.{Inside}
use Rattle.release_join.specs.Ahead.{Nearby}
use Rattle.release_join.specs.Parts.{nearby, next-top-gave, next-alone-gave, next-taking, next-taken-gave}
use Rattle.release_join.proofs.join_next.Goals as goal

pub overflow_add-n : goal.overflow_add-n
overflow_add-n c =
    let near : Nearby (length c.args.a.now) (arena_words c.args.a.now) c.args.r.now c.args.c.0 c.args.z = nearby _ _ _ _ _ c.requires.0.ok c.requires.0.holds c.requires.1 _ (arena-words-within c.args.a.now) in
    let k = near in omega arith

pub bounds-r-1 : goal.bounds-r-1
bounds-r-1 c =
    let near : Nearby (length c.args.a.now) (arena_words c.args.a.now) c.args.r.now c.args.c.0 c.args.z = nearby _ _ _ _ _ c.requires.0.ok c.requires.0.holds c.requires.1 _ (arena-words-within c.args.a.now) in
    let k = near in omega arith

pub overflow_cast-r : goal.overflow_cast-r
overflow_cast-r c = omega (arith, c.slice_known-3-1.given 1)

pub returns-then-n-r : goal.returns-then-n-r
returns-then-n-r c = (record { does = λ h o O. next-top-gave h _ _ _ _ o O c.requires.1 c.if-n-r.true }, c.requires.1)

pub size_at-zn-requires : goal.size_at-zn-requires
size_at-zn-requires c =
    let near : Nearby (length c.args.a.now) (arena_words c.args.a.now) c.args.r.now c.args.c.0 c.args.z = nearby _ _ _ _ _ c.requires.0.ok c.requires.0.holds c.requires.1 _ (arena-words-within c.args.a.now) in
    size-inside (near).after

pub overflow_add-n-2 : goal.overflow_add-n-2
overflow_add-n-2 c =
    let near : Nearby (length c.args.a.now) (arena_words c.args.a.now) c.args.r.now c.args.c.0 c.args.z = nearby _ _ _ _ _ c.requires.0.ok c.requires.0.holds c.requires.1 _ (arena-words-within c.args.a.now) in
    let last : Inside (length c.args.a.now) (c.args.c.0 + c.args.z + c.size_at-zn.result) = (near).beyond c.if-n-r.false _ c.size_at-zn.ensures in
    let k = last in omega arith

pub overflow_add-s : goal.overflow_add-s
overflow_add-s c =
    let near : Nearby (length c.args.a.now) (arena_words c.args.a.now) c.args.r.now c.args.c.0 c.args.z = nearby _ _ _ _ _ c.requires.0.ok c.requires.0.holds c.requires.1 _ (arena-words-within c.args.a.now) in
    let last : Inside (length c.args.a.now) (c.args.c.0 + c.args.z + c.size_at-zn.result) = (near).beyond c.if-n-r.false _ c.size_at-zn.ensures in
    let k = last in omega arith

pub absorb-requires : goal.absorb-requires
absorb-requires c =
    record {
      heap = c.requires.0.heap;
      ok = c.requires.0.ok;
      holds = next-taking _ _ _ _ _ c.requires.0.ok c.requires.0.holds c.requires.1 _ _ _
          c.if-n-r.false c.size_at-zn.ensures c.size_word_at-behind.ensures c.has_p.ensures (c.if-not-has_p.true);
    }

pub returns-then-not-has_p : goal.returns-then-not-has_p
returns-then-not-has_p c = (
  record {
    does = λ h o O. next-taken-gave h _ _ _ _ o O c.requires.1 _ _ _ c.if-n-r.false c.size_at-zn.ensures c.size_word_at-behind.ensures c.has_p.ensures
        (c.if-not-has_p.true) c.absorb.ensures.0;
  },
  sym c.absorb.ensures.1,
)

pub returns : goal.returns
returns c = (
  record {
    does = λ h o O. next-alone-gave h _ _ _ _ o O c.requires.1 _ _ _ c.if-n-r.false c.size_at-zn.ensures c.size_word_at-behind.ensures c.has_p.ensures (c.if-not-has_p.false);
  },
  c.requires.1,
)

pub size_word_at-behind-requires : goal.size_word_at-behind-requires
size_word_at-behind-requires c =
    let near : Nearby (length c.args.a.now) (arena_words c.args.a.now) c.args.r.now c.args.c.0 c.args.z = nearby _ _ _ _ _ c.requires.0.ok c.requires.0.holds c.requires.1 _ (arena-words-within c.args.a.now) in
    let last : Inside (length c.args.a.now) (c.args.c.0 + c.args.z + c.size_at-zn.result) = (near).beyond c.if-n-r.false _ c.size_at-zn.ensures in
    size-inside (last)
