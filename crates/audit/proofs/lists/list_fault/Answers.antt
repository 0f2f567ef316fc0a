-- `lists::list_fault` meets its contract: the outer loop keeps Out, the inner one In, and each way out is a lemma of ListTurn. The measures are the lists
-- to come, and the chunks that were not met. Assumes nothing.
use mathlib.Core.Path.{refl, sym, ◌∙◌}
use Prim.Native.Nat.{ℕ, ◌*◌, ◌/◌, ◌≤◌, ◌<◌}
use native.Mathlib.Omega.{arith}
use lib.ListN.{length, get_or, length-set}
use Rattle.le.specs.Arena.{arena_words}
use Rattle.sizes.specs.Layout.{fwd_word}
use Rattle.audit_walks.specs.TileTurn.{arena-length}
use Rattle.audit.specs.MarkLaws.{unmet-inside, unmet-one, mark-less}
use Rattle.audit.specs.ListTurn.{lists-enter, list-skip, list-begin, list-met, list-misplaced, link-read, list-turn, list-end-bad, list-walked, list-unlinked, list-leave, lists-done, kind-words, kind-numbered}
use Rattle.audit.proofs.lists.list_fault.Goals as goal

pub lists-init : goal.lists-init
lists-init c = (refl, omega arith, lists-enter c.args.v (arena_words c.args.a.now) c.args.r.now c.args.m.now c.requires.2)

pub skip-j-requires : goal.skip-j-requires
skip-j-requires c = (c.requires.1, c.lists.invariant.1)

pub owned_by-o-requires : goal.owned_by-o-requires
owned_by-o-requires c =
    let lt : c.skip-j.result < 200 = omega (arith, c.skip-j.ensures.high, c.if-j-eq-ALL_LISTS.false) in
    kind-numbered _ _ c.kind_at-k.ensures lt

pub head-c-requires : goal.head-c-requires
head-c-requires c =
    let lt : c.skip-j.result < 200 = omega (arith, c.skip-j.ensures.high, c.if-j-eq-ALL_LISTS.false) in
    (c.requires.1, (kind-words _ _ c.kind_at-k.ensures lt).0)

pub loop-c-init : goal.loop-c-init
loop-c-init c =
    let o = c.lists in
    let k = c.skip-j.ensures in
    let w = arena_words c.args.a.now in
    let lt : c.skip-j.result < 200 = omega (arith, k.high, c.if-j-eq-ALL_LISTS.false) in
    (refl, lt, list-begin c.args.v w c.args.r.now _ _ _ _ _ c.kind_at-k.ensures c.head-c.ensures lt (list-skip c.args.v w c.args.r.now o.m o.i _ k o.invariant.2))

pub size_at-s-requires : goal.size_at-s-requires
size_at-s-requires c =
    let l = c.loop-c in
    let w = arena_words c.args.a.now in
    let len = arena-length c.args.a.now c.requires.0.arena in
    let un = sym c.unmet.ensures ∙ c.if-not-unmet.false in
    let j = unmet-inside w l.m _ _ l.invariant.2.marks l.c.0 un in
    (omega (arith, j.0), omega (arith, j.1, len))

pub may_stand-requires : goal.may_stand-requires
may_stand-requires c =
    let l = c.loop-c in
    let w = arena_words c.args.a.now in
    let len = arena-length c.args.a.now c.requires.0.arena in
    let un = sym c.unmet.ensures ∙ c.if-not-unmet.false in
    let j = unmet-inside w l.m _ _ l.invariant.2.marks l.c.0 un in
    (record { even = j.0; inside = omega (arith, j.1, len); size = c.size_at-s.ensures; before = l.invariant.2.sized }, c.owned_by-o.ensures)

pub bounds-m-at : goal.bounds-m-at
bounds-m-at c =
    let l = c.loop-c in
    (unmet-one l.m l.c.0 (sym c.unmet.ensures ∙ c.if-not-unmet.false)).1

pub overflow_add-n : goal.overflow_add-n
overflow_add-n c =
    let l = c.loop-c in
    let len = arena-length c.args.a.now c.requires.0.arena in
    omega (arith, l.invariant.2.few, len, c.requires.0.arena.small)

pub stack_link_at-c-requires : goal.stack_link_at-c-requires
stack_link_at-c-requires c =
    let l = c.loop-c in
    let w = arena_words c.args.a.now in
    let len = arena-length c.args.a.now c.requires.0.arena in
    let un = sym c.unmet.ensures ∙ c.if-not-unmet.false in
    let j = unmet-inside w l.m _ _ l.invariant.2.marks l.c.0 un in
    (omega (arith, j.0), omega (arith, j.1, len), omega (arith, j.1, len, c.requires.0.arena.small))

pub loop-c-smaller : goal.loop-c-smaller
loop-c-smaller c =
    let l = c.loop-c in
    mark-less l.m l.c.0 _ c.kind_at-k.result c.mark-u.ensures (sym c.unmet.ensures ∙ c.if-not-unmet.false)

pub loop-c-preserved : goal.loop-c-preserved
loop-c-preserved c =
    let x = c.asked_by-asked.ensures in
    let l = c.loop-c in
    let w = arena_words c.args.a.now in
    let next = link-read c.args.r.now c.kind_at-k.result l.c.0 _ (get_or w (fwd_word l.c.0) 0) c.links_by-d.result _ c.stack_link_at-c.ensures c.links_by-d.ensures c.edition_in-edition.ensures in (
      length-set {A = ℕ} l.m (l.c.0 / 16) _ ∙ l.invariant.0,
      l.invariant.1,
      rw (next, c.mark-u.ensures)
          (list-turn c.args.v w c.args.r.now _ _ _ _ _ _ _ l.invariant.2 _ _ _ c.loop-c-test.true c.unmet.ensures (c.if-not-unmet.false) (c.may_stand.ensures _ _ x) (c.if-not-may_stand.false) c.size_at-s.ensures),
    )

pub may_end-requires : goal.may_end-requires
may_end-requires c = (c.requires.1, (kind-words _ _ c.kind_at-k.ensures c.loop-c.invariant.1).1)

pub skips_ok-requires : goal.skips_ok-requires
skips_ok-requires c =
    let l = c.loop-c in
    let w = arena_words c.args.a.now in
    let small : 8 * length w ≤ 262144 = omega (arith, arena-length c.args.a.now c.requires.0.arena, c.requires.0.arena.small) in
    (c.requires.1, (kind-words _ _ c.kind_at-k.ensures l.invariant.1).0, list-walked c.args.v w c.args.r.now _ _ _ _ _ _ _ l.invariant.2 _ c.requires.2.tiles small c.loop-c-test.false c.may_end.ensures (c.if-not-may_end.false))

pub lists-smaller : goal.lists-smaller
lists-smaller c = omega (arith, c.skip-j.ensures.low, c.loop-c.invariant.1)

pub lists-preserved : goal.lists-preserved
lists-preserved c =
    let l = c.loop-c in
    let w = arena_words c.args.a.now in
    let o = c.lists in
    (l.invariant.0 ∙ o.invariant.0, omega (arith, l.invariant.1), list-leave c.args.v w c.args.r.now _ _ _ _ _ _ _ l.invariant.2 _ _ c.loop-c-test.false c.may_end.ensures (c.if-not-may_end.false) c.skips_ok.ensures (c.if-not-skips_ok.false))

pub shape_of-m-then-j-eq-ALL_LISTS : goal.shape_of-m-then-j-eq-ALL_LISTS
shape_of-m-then-j-eq-ALL_LISTS c = c.lists.invariant.0

pub returns-then-j-eq-ALL_LISTS : goal.returns-then-j-eq-ALL_LISTS
returns-then-j-eq-ALL_LISTS c =
    let o = c.lists in
    let w = arena_words c.args.a.now in
    lists-done c.args.v w c.args.r.now o.m _ (omega (arith, c.if-j-eq-ALL_LISTS.true)) c.skip-j.ensures.high (list-skip c.args.v w c.args.r.now o.m o.i _ c.skip-j.ensures o.invariant.2)

pub shape_of-m-then-not-unmet : goal.shape_of-m-then-not-unmet
shape_of-m-then-not-unmet c = c.loop-c.invariant.0 ∙ c.lists.invariant.0

pub returns-then-not-unmet : goal.returns-then-not-unmet
returns-then-not-unmet c =
    let l = c.loop-c in
    let w = arena_words c.args.a.now in
    list-met c.args.v w c.args.r.now _ _ _ _ _ _ _ l.invariant.2 _ _ c.loop-c-test.true c.unmet.ensures (c.if-not-unmet.true)

pub shape_of-m-then-not-may_stand : goal.shape_of-m-then-not-may_stand
shape_of-m-then-not-may_stand c = c.loop-c.invariant.0 ∙ c.lists.invariant.0

pub returns-then-not-may_stand : goal.returns-then-not-may_stand
returns-then-not-may_stand c =
    let x = c.asked_by-asked.ensures in
    let l = c.loop-c in
    let w = arena_words c.args.a.now in
    list-misplaced c.args.v w c.args.r.now _ _ _ _ _ _ _ l.invariant.2 _ _ _ c.loop-c-test.true c.unmet.ensures (c.if-not-unmet.false) (c.may_stand.ensures _ _ x) (c.if-not-may_stand.true)

pub shape_of-m-then-not-may_end : goal.shape_of-m-then-not-may_end
shape_of-m-then-not-may_end c = c.loop-c.invariant.0 ∙ c.lists.invariant.0

pub returns-then-not-may_end : goal.returns-then-not-may_end
returns-then-not-may_end c =
    let l = c.loop-c in
    let w = arena_words c.args.a.now in
    list-end-bad c.args.v w c.args.r.now _ _ _ _ _ _ _ l.invariant.2 _ _ c.loop-c-test.false c.may_end.ensures (c.if-not-may_end.true)

pub shape_of-m-then-not-skips_ok : goal.shape_of-m-then-not-skips_ok
shape_of-m-then-not-skips_ok c = c.loop-c.invariant.0 ∙ c.lists.invariant.0

pub returns-then-not-skips_ok : goal.returns-then-not-skips_ok
returns-then-not-skips_ok c =
    let l = c.loop-c in
    let w = arena_words c.args.a.now in
    list-unlinked c.args.v w c.args.r.now _ _ _ _ _ _ _ l.invariant.2 _ _ _ c.loop-c-test.false c.may_end.ensures (c.if-not-may_end.false) c.skips_ok.ensures (c.if-not-skips_ok.true)
