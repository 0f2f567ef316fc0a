-- `reach_list` meets its contract: the loop keeps Within, and each way out is a lemma of ReachTurn. The measure is the room for chunks to come. Assumes
-- nothing.
use mathlib.Core.Path.{refl, sym, ◌∙◌}
use Prim.Native.Nat.{ℕ, ◌/◌}
use native.Mathlib.Omega.{arith}
use lib.ListN.{get_or, length-set}
use Rattle.le.specs.Arena.{arena_words}
use Rattle.sizes.specs.Layout.{fwd_word}
use Rattle.audit_walks.specs.TileTurn.{arena-length}
use Rattle.audit.specs.MarkLaws.{unmet-one}
use Rattle.audit.specs.ListTurn.{link-read, kind-words, kind-numbered}
use Rattle.audit_reached.specs.ReachTurn.{unmet-inside, list-begin, list-turn, list-end, list-met, list-misplaced}
use Rattle.audit_reached.proofs.reach_list.Goals as goal

pub owned_by-o-requires : goal.owned_by-o-requires
owned_by-o-requires c = kind-numbered _ _ c.kind_at-k.ensures c.requires.2

pub head-c-requires : goal.head-c-requires
head-c-requires c =
    (c.requires.1, (kind-words _ _ c.kind_at-k.ensures c.requires.2).0)

pub loop-c-init : goal.loop-c-init
loop-c-init c =
    let k = c.kind_at-k.ensures in
    (refl, list-begin c.args.v (arena_words c.args.a.now) c.args.r.now _ _ _ _ _ k c.head-c.ensures c.requires.2 c.requires.3)

pub size_at-s-requires : goal.size_at-s-requires
size_at-s-requires c =
    let l = c.loop-c in
    let un = sym c.unmet.ensures ∙ c.if-not-unmet.false in
    let j = unmet-inside c.args.v (arena_words c.args.a.now) c.args.r.now l.m _ l.invariant.1.marks l.c.0 un in
    (omega (arith, j.0), omega (arith, j.1, arena-length c.args.a.now c.requires.0.arena))

pub may_stand-requires : goal.may_stand-requires
may_stand-requires c =
    let l = c.loop-c in
    let un = sym c.unmet.ensures ∙ c.if-not-unmet.false in
    let j = unmet-inside c.args.v (arena_words c.args.a.now) c.args.r.now l.m _ l.invariant.1.marks l.c.0 un in
    let len = arena-length c.args.a.now c.requires.0.arena in
    let owns = c.owned_by-o.ensures in
    (record { even = j.0; inside = omega (arith, j.1, len); size = c.size_at-s.ensures; before = l.invariant.1.sized }, owns)

pub bounds-m-at : goal.bounds-m-at
bounds-m-at c =
    let l = c.loop-c in
    (unmet-one l.m l.c.0 (sym c.unmet.ensures ∙ c.if-not-unmet.false)).1

pub overflow_add-n : goal.overflow_add-n
overflow_add-n c =
    let l = c.loop-c in
    omega (arith, l.invariant.1.few, arena-length c.args.a.now c.requires.0.arena, c.requires.0.arena.small)

pub stack_link_at-c-requires : goal.stack_link_at-c-requires
stack_link_at-c-requires c =
    let l = c.loop-c in
    let un = sym c.unmet.ensures ∙ c.if-not-unmet.false in
    let j = unmet-inside c.args.v (arena_words c.args.a.now) c.args.r.now l.m _ l.invariant.1.marks l.c.0 un in
    let len = arena-length c.args.a.now c.requires.0.arena in
    (omega (arith, j.0), omega (arith, j.1, len), omega (arith, j.1, len, c.requires.0.arena.small))

pub loop-c-smaller : goal.loop-c-smaller
loop-c-smaller c = omega (arith, c.loop-c.invariant.1.few)

pub loop-c-preserved : goal.loop-c-preserved
loop-c-preserved c =
    let l = c.loop-c in
    let x = c.asked_by-asked.ensures in
    let un = sym c.unmet.ensures ∙ c.if-not-unmet.false in
    let next = link-read c.args.r.now c.kind_at-k.result l.c.0 _ (get_or (arena_words c.args.a.now) (fwd_word l.c.0) 0) c.links_by-d.result _ c.stack_link_at-c.ensures c.links_by-d.ensures c.edition_in-edition.ensures in
    let stands = c.if-not-may_stand.false in (
      length-set {A = ℕ} l.m (l.c.0 / 16) _ ∙ l.invariant.0,
      rw next
          (list-turn c.args.v (arena_words c.args.a.now) c.args.r.now _ _ _ _ _ _ _ l.invariant.1 _ _ c.requires.2 c.loop-c-test.true un
          (c.may_stand.ensures _ _ x) stands c.size_at-s.ensures),
    )

pub shape_of-m-after-loop-c : goal.shape_of-m-after-loop-c
shape_of-m-after-loop-c c = c.loop-c.invariant.0

pub returns-after-loop-c : goal.returns-after-loop-c
returns-after-loop-c c =
    list-end c.args.v (arena_words c.args.a.now) c.args.r.now _ _ _ _ _ _ _ c.loop-c.invariant.1 c.loop-c-test.false

pub shape_of-m-then-not-unmet : goal.shape_of-m-then-not-unmet
shape_of-m-then-not-unmet c = c.loop-c.invariant.0

pub returns-then-not-unmet : goal.returns-then-not-unmet
returns-then-not-unmet c =
    let met = sym c.unmet.ensures ∙ c.if-not-unmet.true in
    let l = c.loop-c in
    list-met c.args.v (arena_words c.args.a.now) c.args.r.now _ _ _ _ _ _ _ l.invariant.1 c.loop-c-test.true met

pub shape_of-m-then-not-may_stand : goal.shape_of-m-then-not-may_stand
shape_of-m-then-not-may_stand c = c.loop-c.invariant.0

pub returns-then-not-may_stand : goal.returns-then-not-may_stand
returns-then-not-may_stand c =
    let x = c.asked_by-asked.ensures in
    let un = sym c.unmet.ensures ∙ c.if-not-unmet.false in
    let l = c.loop-c in
    list-misplaced c.args.v (arena_words c.args.a.now) c.args.r.now _ _ _ _ _ _ _ l.invariant.1 _ c.loop-c-test.true un
    (c.may_stand.ensures _ _ x) (c.if-not-may_stand.true)
