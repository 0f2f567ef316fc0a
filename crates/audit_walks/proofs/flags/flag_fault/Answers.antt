-- `flags::flag_fault` meets its contract: the loop keeps FlagIn, and each way out is a lemma of FlagTurn. The measure is what is left before the top.
-- Assumes nothing.
use mathlib.Core.Path.{◌≡◌, ap, ◌∙◌}
use mathlib.Core.Bool.{true, false}
use Prim.Native.Nat.{ℕ, ◌/◌, ◌*◌}
use native.Mathlib.Omega.{arith}
use Rattle.le.specs.Arena.{arena_words}
use Rattle.machine.specs.View.{size_at}
use Rattle.audit_walks.specs.Marks.{binned_by, bin_at}
use Rattle.audit_walks.specs.TileTurn.{arena-length}
use Rattle.audit_walks.specs.FlagTurn.{flags-enter, flags-low, low-here, low-top, flag-seen, flag-bad, flag-turn, flag-size, flag-last}
use Rattle.audit_walks.proofs.flags.flag_fault.Goals as goal

pub loop-o-init : goal.loop-o-init
loop-o-init c = flags-enter (arena_words c.args.a.now) c.args.m.now c.args.top.0 c.requires.1

pub size_word_at-x-requires : goal.size_word_at-x-requires
size_word_at-x-requires c =
    let l = c.loop-o in
    let len = arena-length c.args.a.now c.requires.0.arena in
    let low = flags-low (arena_words c.args.a.now) c.args.m.now _ _ _ _ l.invariant in
    (omega (arith, l.invariant.even), omega (arith, low.0, low.1, len))

pub bounds-m-o : goal.bounds-m-o
bounds-m-o c =
    let l = c.loop-o in
    let len = arena-length c.args.a.now c.requires.0.arena in
    let low = flags-low (arena_words c.args.a.now) c.args.m.now _ _ _ _ l.invariant in
    omega (arith, low.0, low.1, len, c.requires.0.room)

pub note_at-requires : goal.note_at-requires
note_at-requires c =
    let l = c.loop-o in
    let len = arena-length c.args.a.now c.requires.0.arena in
    let low = flags-low (arena_words c.args.a.now) c.args.m.now _ _ _ _ l.invariant in
    (omega (arith, l.invariant.even), omega (arith, low.0, low.1, len))

pub overflow_cast-result : goal.overflow_cast-result
overflow_cast-result c =
    let l = c.loop-o in
    let len = arena-length c.args.a.now c.requires.0.arena in
    let low = flags-low (arena_words c.args.a.now) c.args.m.now _ _ _ _ l.invariant in
    omega (arith, low.0, low.1, len, c.requires.0.arena.small)

pub returns-then-not-flag_ok : goal.returns-then-not-flag_ok
returns-then-not-flag_ok c =
    let l = c.loop-o in
    let w = arena_words c.args.a.now in
    flag-bad w c.args.m.now _ _ _ _ l.invariant c.loop-o-test.true _ (flag-seen w l.o _ _ _ (bin_at c.args.m.now l.o) (binned_by l.u) l.s _ (low-here w c.args.m.now _ _ _ _ l.invariant) c.size_word_at-x.ensures c.p_of.ensures c.note_at.ensures c.flag_ok.ensures) (c.if-not-flag_ok.true)

pub overflow_add-o : goal.overflow_add-o
overflow_add-o c =
    let l = c.loop-o in
    let w = arena_words c.args.a.now in
    let len = arena-length c.args.a.now c.requires.0.arena in
    let low = flags-low (arena_words c.args.a.now) c.args.m.now _ _ _ _ l.invariant in
    let z = flag-size w c.args.m.now _ _ _ _ l.invariant c.loop-o-test.true in
    let e : c.size-s.result ≡ size_at w l.o = c.size-s.ensures ∙ ap (λ (x : ℕ). x / 16 * 16) c.size_word_at-x.ensures in
    omega (arith, z.1, e, low.1, len, c.requires.0.arena.small)

pub loop-o-smaller : goal.loop-o-smaller
loop-o-smaller c =
    let l = c.loop-o in
    let w = arena_words c.args.a.now in
    let z = flag-size w c.args.m.now _ _ _ _ l.invariant c.loop-o-test.true in
    let e : c.size-s.result ≡ size_at w l.o = c.size-s.ensures ∙ ap (λ (x : ℕ). x / 16 * 16) c.size_word_at-x.ensures in
    omega (arith, z.0, z.1, e, c.loop-o-test.true)

pub loop-o-preserved : goal.loop-o-preserved
loop-o-preserved c =
    let l = c.loop-o in
    let w = arena_words c.args.a.now in
    let e : c.size-s.result ≡ size_at w l.o = c.size-s.ensures ∙ ap (λ (x : ℕ). x / 16 * 16) c.size_word_at-x.ensures in
    rw e (flag-turn w c.args.m.now _ _ _ _ l.invariant c.loop-o-test.true _ (flag-seen w l.o _ _ _ (bin_at c.args.m.now l.o) (binned_by l.u) l.s _ (low-here w c.args.m.now _ _ _ _ l.invariant) c.size_word_at-x.ensures c.p_of.ensures c.note_at.ensures c.flag_ok.ensures) (c.if-not-flag_ok.false))

pub size_word_at-y-requires : goal.size_word_at-y-requires
size_word_at-y-requires c =
    let l = c.loop-o in
    let len = arena-length c.args.a.now c.requires.0.arena in
    let low = flags-low (arena_words c.args.a.now) c.args.m.now _ _ _ _ l.invariant in
    (omega (arith, l.invariant.even, low.0, c.loop-o-test.false), omega (arith, low.0, low.1, len))

pub note_at-requires-2 : goal.note_at-requires-2
note_at-requires-2 c =
    let l = c.loop-o in
    let len = arena-length c.args.a.now c.requires.0.arena in
    let low = flags-low (arena_words c.args.a.now) c.args.m.now _ _ _ _ l.invariant in
    (omega (arith, l.invariant.even, low.0, c.loop-o-test.false), omega (arith, low.0, low.1, len))

pub overflow_cast-at : goal.overflow_cast-at
overflow_cast-at c =
    let l = c.loop-o in
    let len = arena-length c.args.a.now c.requires.0.arena in
    let low = flags-low (arena_words c.args.a.now) c.args.m.now _ _ _ _ l.invariant in
    omega (arith, low.1, len, c.requires.0.arena.small)

pub returns-then-not-flag_ok-2 : goal.returns-then-not-flag_ok-2
returns-then-not-flag_ok-2 c =
    let l = c.loop-o in
    let w = arena_words c.args.a.now in
    flag-last w c.args.m.now _ _ _ _ c.requires.1 l.invariant c.loop-o-test.false _ (flag-seen w c.args.top.0 _ _ _ 1 (binned_by l.u) l.s _ (low-top w _ c.requires.1) c.size_word_at-y.ensures c.p_of-2.ensures c.note_at-2.ensures c.flag_ok-2.ensures) false (c.if-not-flag_ok-2.true)

pub returns : goal.returns
returns c =
    let l = c.loop-o in
    let w = arena_words c.args.a.now in
    flag-last w c.args.m.now _ _ _ _ c.requires.1 l.invariant c.loop-o-test.false _ (flag-seen w c.args.top.0 _ _ _ 1 (binned_by l.u) l.s _ (low-top w _ c.requires.1) c.size_word_at-y.ensures c.p_of-2.ensures c.note_at-2.ensures c.flag_ok-2.ensures) true (c.if-not-flag_ok-2.false)
