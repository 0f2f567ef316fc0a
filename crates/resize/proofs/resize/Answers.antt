-- `resize::resize` meets its contract: a way for each answer of its tests. Assumes nothing.
use native.Mathlib.Omega.{arith}
use lib.ListN.{length, get_or}
use Rattle.le.specs.Arena.{arena_words}
use Rattle.sizes.specs.Layout.{length_word, top_word}
use Rattle.machine.specs.Heap.{Heap}
use Rattle.sound.specs.Relation.{Good, Loose}
use Rattle.primitives.specs.Follow.{Ok, Has}
use Rattle.primitives.specs.Chunks.{Inside}
use Rattle.primitives.specs.Stacks.{ok-length, loose-inside}
use Rattle.release_join.specs.Reads.{size-inside}
use Rattle.grant.specs.Top.{TopAt, top-at}
use Rattle.resize.specs.States.{Live}
use Rattle.resize.specs.Finish.{live-stands, stands-small}
use Rattle.resize.specs.Ways.{live-read, stays-gave, top-grows, top-gave, behind-reaches, behind-gave, sought-gave}
use Rattle.resize.proofs.resize.Goals as goal

-- c with its size as it was read

pub size_at-z-requires : goal.size_at-z-requires
size_at-z-requires c =
    let inside : Inside (length c.args.a.now) c.args.c.0 = loose-inside _ _ _ c.requires.ok _ c.requires.holds.1 in
    size-inside (inside)

pub finish-requires : goal.finish-requires
finish-requires c =
    let live : (h : Heap) → Ok h (arena_words c.args.a.now) c.args.r.now → Good h × Loose h c.args.c.0 → Live h c.args.c.0 c.size_at-z.result = λ h o g. live-read h _ _ _ _ o g.0 g.1 c.size_at-z.ensures in
    let has : Has (λ h. Live h c.args.c.0 c.size_at-z.result) (arena_words c.args.a.now) c.args.r.now = let p = c.requires in record { heap = p.heap; ok = p.ok; holds = live p.heap p.ok p.holds } in
    let p = has in
    (c.if-b-z.true, record { heap = p.heap; ok = p.ok; holds = live-stands _ _ _ p.holds })

pub overflow_cast-result : goal.overflow_cast-result
overflow_cast-result c =
    let inside : Inside (length c.args.a.now) c.args.c.0 = loose-inside _ _ _ c.requires.ok _ c.requires.holds.1 in
    let k = inside in record { fits = omega arith }

pub returns-then-b-z : goal.returns-then-b-z
returns-then-b-z c =
    let live : (h : Heap) → Ok h (arena_words c.args.a.now) c.args.r.now → Good h × Loose h c.args.c.0 → Live h c.args.c.0 c.size_at-z.result = λ h o g. live-read h _ _ _ _ o g.0 g.1 c.size_at-z.ensures in
    record { does = λ h o g. stays-gave h _ _ _ _ _ o (live h o g) c.if-b-z.true c.finish.ensures }

pub top_reaches-requires : goal.top_reaches-requires
top_reaches-requires c =
    let top : TopAt (length c.args.a.now) (get_or c.args.r.now top_word 0) (get_or c.args.r.now length_word 0) = let p = c.requires in top-at _ _ (record { heap = p.heap; ok = p.ok; holds = p.holds.0 }) in
    let live : (h : Heap) → Ok h (arena_words c.args.a.now) c.args.r.now → Good h × Loose h c.args.c.0 → Live h c.args.c.0 c.size_at-z.result = λ h o g. live-read h _ _ _ _ o g.0 g.1 c.size_at-z.ensures in
    let has : Has (λ h. Live h c.args.c.0 c.size_at-z.result) (arena_words c.args.a.now) c.args.r.now = let p = c.requires in record { heap = p.heap; ok = p.ok; holds = live p.heap p.ok p.holds } in
    let p = has in
    (ok-length _ _ _ p.ok, stands-small _ _ _ _ _ p.ok (live-stands _ _ _ p.holds), omega (arith, (top).room))

pub grow_top-requires : goal.grow_top-requires
grow_top-requires c =
    let live : (h : Heap) → Ok h (arena_words c.args.a.now) c.args.r.now → Good h × Loose h c.args.c.0 → Live h c.args.c.0 c.size_at-z.result = λ h o g. live-read h _ _ _ _ o g.0 g.1 c.size_at-z.ensures in
    let has : Has (λ h. Live h c.args.c.0 c.size_at-z.result) (arena_words c.args.a.now) c.args.r.now = let p = c.requires in record { heap = p.heap; ok = p.ok; holds = live p.heap p.ok p.holds } in
    let p = has in
    record { heap = p.heap; ok = p.ok; holds = top-grows _ _ _ _ _ _ p.ok p.holds c.if-b-z.false _ c.top_reaches.ensures c.if-top_reaches.true }

pub overflow_cast-result-then-top_reaches : goal.overflow_cast-result-then-top_reaches
overflow_cast-result-then-top_reaches c =
    let inside : Inside (length c.args.a.now) c.args.c.0 = loose-inside _ _ _ c.requires.ok _ c.requires.holds.1 in
    let k = inside in record { fits = omega arith }

pub returns-then-top_reaches : goal.returns-then-top_reaches
returns-then-top_reaches c =
    let live : (h : Heap) → Ok h (arena_words c.args.a.now) c.args.r.now → Good h × Loose h c.args.c.0 → Live h c.args.c.0 c.size_at-z.result = λ h o g. live-read h _ _ _ _ o g.0 g.1 c.size_at-z.ensures in
    record { does = λ h o g. top-gave h _ _ _ _ _ o (live h o g) c.if-b-z.false _ c.top_reaches.ensures c.if-top_reaches.true c.grow_top.ensures }

pub behind_reaches-requires : goal.behind_reaches-requires
behind_reaches-requires c =
    let live : (h : Heap) → Ok h (arena_words c.args.a.now) c.args.r.now → Good h × Loose h c.args.c.0 → Live h c.args.c.0 c.size_at-z.result = λ h o g. live-read h _ _ _ _ o g.0 g.1 c.size_at-z.ensures in
    let has : Has (λ h. Live h c.args.c.0 c.size_at-z.result) (arena_words c.args.a.now) c.args.r.now = let p = c.requires in record { heap = p.heap; ok = p.ok; holds = live p.heap p.ok p.holds } in
    has

pub take_in-requires : goal.take_in-requires
take_in-requires c =
    let live : (h : Heap) → Ok h (arena_words c.args.a.now) c.args.r.now → Good h × Loose h c.args.c.0 → Live h c.args.c.0 c.size_at-z.result = λ h o g. live-read h _ _ _ _ o g.0 g.1 c.size_at-z.ensures in
    let has : Has (λ h. Live h c.args.c.0 c.size_at-z.result) (arena_words c.args.a.now) c.args.r.now = let p = c.requires in record { heap = p.heap; ok = p.ok; holds = live p.heap p.ok p.holds } in
    let p = has in
    record {
      heap = p.heap;
      ok = p.ok;
      holds = behind-reaches _ _ _ _ _ _ p.ok p.holds c.if-b-z.false _ c.top_reaches.ensures c.if-top_reaches.false _
          (c.behind_reaches.ensures _ p.ok p.holds) c.if-behind_reaches.true;
    }

pub overflow_cast-result-then-behind_reaches : goal.overflow_cast-result-then-behind_reaches
overflow_cast-result-then-behind_reaches c =
    let inside : Inside (length c.args.a.now) c.args.c.0 = loose-inside _ _ _ c.requires.ok _ c.requires.holds.1 in
    let k = inside in record { fits = omega arith }

pub returns-then-behind_reaches : goal.returns-then-behind_reaches
returns-then-behind_reaches c =
    let live : (h : Heap) → Ok h (arena_words c.args.a.now) c.args.r.now → Good h × Loose h c.args.c.0 → Live h c.args.c.0 c.size_at-z.result = λ h o g. live-read h _ _ _ _ o g.0 g.1 c.size_at-z.ensures in
    record {
      does = λ h o g.
          let L = live h o g in
          behind-gave h _ _ _ _ _ o L c.if-b-z.false _ c.top_reaches.ensures c.if-top_reaches.false _ (c.behind_reaches.ensures h o L) c.if-behind_reaches.true
          c.take_in.ensures;
    }

pub seek_block-requires : goal.seek_block-requires
seek_block-requires c =
    let live : (h : Heap) → Ok h (arena_words c.args.a.now) c.args.r.now → Good h × Loose h c.args.c.0 → Live h c.args.c.0 c.size_at-z.result = λ h o g. live-read h _ _ _ _ o g.0 g.1 c.size_at-z.ensures in
    let has : Has (λ h. Live h c.args.c.0 c.size_at-z.result) (arena_words c.args.a.now) c.args.r.now = let p = c.requires in record { heap = p.heap; ok = p.ok; holds = live p.heap p.ok p.holds } in
    (c.if-b-z.false, has)

pub returns : goal.returns
returns c =
    let live : (h : Heap) → Ok h (arena_words c.args.a.now) c.args.r.now → Good h × Loose h c.args.c.0 → Live h c.args.c.0 c.size_at-z.result = λ h o g. live-read h _ _ _ _ o g.0 g.1 c.size_at-z.ensures in
    record {
      does = λ h o g.
          let L = live h o g in
          sought-gave h _ _ _ _ _ o L c.if-b-z.false _ c.top_reaches.ensures c.if-top_reaches.false _ (c.behind_reaches.ensures h o L) c.if-behind_reaches.false
          c.seek_block.ensures;
    }
