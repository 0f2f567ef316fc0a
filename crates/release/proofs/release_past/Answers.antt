-- `release::release_past` meets its contract: on the fast list up to 128, else joined, and the fast chunks too where it yields enough. Assumes nothing.
use native.Mathlib.Omega.{arith}
use Prim.Native.Nat.{◌≤◌}
use lib.ListN.{length}
use Rattle.primitives.specs.Chunks.{Inside}
use Rattle.primitives.specs.Stacks.{ok-length, loose-inside}
use Rattle.release_join.specs.Reads.{size-inside}
use Rattle.release.specs.Release.{loose-least, past-fast-gave, joined-has, past-few-gave, past-none-gave, past-all-gave}
use Rattle.release.proofs.release_past.Goals as goal
use Rattle.release.proofs.release_past.Goals.{else-s-ge-CONSOLIDATE_FROM-via-then-s-ge-CONSOLIDATE_FROM+else-any_fast, else-s-ge-CONSOLIDATE_FROM-via-else-s-ge-CONSOLIDATE_FROM}

pub size_at-z-requires : goal.size_at-z-requires
size_at-z-requires c =
    let at : Inside (length c.args.a.now) c.args.c.0 = loose-inside _ _ _ c.requires.ok _ c.requires.holds.1 in
    size-inside (at)

pub fast_list-requires : goal.fast_list-requires
fast_list-requires c =
    let least : 32 ≤ c.size_at-z.result = loose-least _ _ _ _ _ c.requires.ok c.requires.holds.1 c.size_at-z.ensures in
    (least, c.if-z-le-MOST_FAST.true)

pub push_fast-requires : goal.push_fast-requires
push_fast-requires c =
    (omega (arith, c.fast_list.ensures.1), record { heap = c.requires.heap; ok = c.requires.ok; holds = c.requires.holds.1 })

pub returns-then-z-le-MOST_FAST : goal.returns-then-z-le-MOST_FAST
returns-then-z-le-MOST_FAST c =
    record {
      does = λ h o g. past-fast-gave h _ _ _ _ o g.1 c.size_at-z.ensures c.if-z-le-MOST_FAST.true
          c.fast_list.ensures.0 c.push_fast.ensures;
    }

pub any_fast-requires : goal.any_fast-requires
any_fast-requires c =
    ok-length _ _ _ (joined-has _ _ _ _ _ c.requires.ok c.requires.holds.1 c.size_at-z.ensures c.if-z-le-MOST_FAST.false c.requires.holds.0 c.join-s.ensures).ok

pub consolidate-requires : goal.consolidate-requires
consolidate-requires c =
    joined-has _ _ _ _ _ c.requires.ok c.requires.holds.1 c.size_at-z.ensures c.if-z-le-MOST_FAST.false c.requires.holds.0 c.join-s.ensures

pub returns-then-any_fast : goal.returns-then-any_fast
returns-then-any_fast c =
    record {
      does = λ h o g. past-all-gave h _ _ _ _ o g.1 c.size_at-z.ensures c.if-z-le-MOST_FAST.false g.0 c.join-s.ensures c.if-s-ge-CONSOLIDATE_FROM.true _
          c.any_fast.ensures c.if-any_fast.true c.consolidate.ensures;
    }

pub returns-else-s-ge-CONSOLIDATE_FROM : goal.returns-else-s-ge-CONSOLIDATE_FROM
returns-else-s-ge-CONSOLIDATE_FROM c =
    record {
      does = λ h o g. elim c.else-s-ge-CONSOLIDATE_FROM.branch [
        | else-s-ge-CONSOLIDATE_FROM-via-then-s-ge-CONSOLIDATE_FROM+else-any_fast w ↦
            past-none-gave h _ _ _ _ o g.1 c.size_at-z.ensures c.if-z-le-MOST_FAST.false g.0 c.join-s.ensures _ w.any_fast.ensures w.if-any_fast.false
        | else-s-ge-CONSOLIDATE_FROM-via-else-s-ge-CONSOLIDATE_FROM w ↦
            past-few-gave h _ _ _ _ o g.1 c.size_at-z.ensures c.if-z-le-MOST_FAST.false g.0 c.join-s.ensures w.if-s-ge-CONSOLIDATE_FROM.false
      ];
    }
