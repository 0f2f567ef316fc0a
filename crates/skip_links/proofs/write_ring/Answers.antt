-- `skip_links::write_ring` meets its contract. The invariant: with what is to come for the chunks from n on the words are those at the end. The measure is
-- how many they are. Assumes nothing.
use mathlib.Core.Path.{refl, sym, ap, ◌∙◌}
use mathlib.Core.List.{List}
use native.Mathlib.Omega.{arith}
use Rattle.le.specs.Arena.{arena_words}
use Rattle.machine.specs.Writes.{Write, apply}
use Rattle.skip_links.specs.WalkTurn.{rest-fewer}
use Rattle.skip_links.specs.RingTurn.{first-in, ring-none, writing_start, writing-in, writing-link, writing-next, writing-end, large-bytes}
use Rattle.skip_links.proofs.write_ring.Goals as goal

pub returns-then-x-eq-NONE64 : goal.returns-then-x-eq-NONE64
returns-then-x-eq-NONE64 c = λ l L. sym (ap (λ (es : List Write). apply es (arena_words c.args.a.now)) (ring-none L c.if-x-eq-NONE64.true))

pub fwd_at-n-requires : goal.fwd_at-n-requires
fwd_at-n-requires c =
    let p = large-bytes c.args.a.now c.requires.walk c.args.x.0 (first-in c.requires.walk c.if-x-eq-NONE64.false) in
    (p.0, omega (arith, p.1))

pub loop-n-init : goal.loop-n-init
loop-n-init c = (refl, λ l L. writing_start L c.if-x-eq-NONE64.false c.fwd_at-n.ensures)

pub write_member-q-requires : goal.write_member-q-requires
write_member-q-requires c =
    let i = c.loop-n.invariant in
    let o = i.1 c.requires.list c.requires.walk in
    let p = large-bytes c.args.a.now c.requires.walk _ o.head in
    let r = large-bytes c.args.a.now c.requires.walk _ (writing-in c.requires.walk o c.loop-n-test.true) in
    (p.0, omega (arith, p.1, i.0), r.0, omega (arith, r.1, i.0))

pub fwd_at-n-requires-in-loop-n : goal.fwd_at-n-requires-in-loop-n
fwd_at-n-requires-in-loop-n c =
    let i = c.loop-n.invariant in
    let o = i.1 c.requires.list c.requires.walk in
    let r = large-bytes c.args.a.now c.requires.walk _ (writing-in c.requires.walk o c.loop-n-test.true) in
    (r.0, omega (arith, r.1, i.0, c.write_member-q.auto.a))

pub loop-n-smaller : goal.loop-n-smaller
loop-n-smaller c =
    let L = c.requires.walk in
    let o = c.loop-n.invariant.1 c.requires.list L in
    let e = c.loop-n-test.true in
    rest-fewer L.walk _ _ _ o.on e (writing-link L o e c.write_member-q.ensures.a_after c.fwd_at-n-in-loop-n.ensures)

pub loop-n-preserved : goal.loop-n-preserved
loop-n-preserved c =
    let i = c.loop-n.invariant in
    let d = c.write_member-q in
    (d.auto.a ∙ i.0, λ l L. writing-next L (i.1 l L) c.loop-n-test.true d.ensures.result_value d.ensures.a_after c.fwd_at-n-in-loop-n.ensures)

pub set_linked-requires : goal.set_linked-requires
set_linked-requires c =
    let i = c.loop-n.invariant in
    let o = i.1 c.requires.list c.requires.walk in
    let p = large-bytes c.args.a.now c.requires.walk _ o.head in
    let t = large-bytes c.args.a.now c.requires.walk c.args.x.0 (first-in c.requires.walk c.if-x-eq-NONE64.false) in
    (p.0, omega (arith, p.1, i.0), t.0, omega (arith, t.1, i.0))

pub shape_of-a : goal.shape_of-a
shape_of-a c = c.set_linked.auto.a ∙ c.loop-n.invariant.0

pub returns : goal.returns
returns c = λ l L. writing-end L (c.loop-n.invariant.1 l L) c.loop-n-test.false c.set_linked.ensures
