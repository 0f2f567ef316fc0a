-- `skip_links::ring_stands` meets its contract. The invariant: the ring stands if it does from n on. The measure is how many chunks these are. Assumes
-- nothing.
use mathlib.Core.Path.{sym, ap}
use mathlib.Core.List.{List}
use native.Mathlib.Omega.{arith}
use Rattle.le.specs.Arena.{arena_words}
use Rattle.machine.specs.Writes.{Write, stand?}
use Rattle.skip_links.specs.WalkTurn.{rest-fewer}
use Rattle.skip_links.specs.RingTurn.{first-in, ring-none, reading-start, reading-in, reading-next, reading-falls, reading-end, large-bytes}
use Rattle.skip_links.proofs.ring_stands.Goals as goal

pub returns-then-x-eq-NONE64 : goal.returns-then-x-eq-NONE64
returns-then-x-eq-NONE64 c = λ l L. sym (ap (λ (es : List Write). stand? es (arena_words c.args.a.now)) (ring-none L c.if-x-eq-NONE64.true))

pub fwd_at-n-requires : goal.fwd_at-n-requires
fwd_at-n-requires c =
    let p = large-bytes c.args.a.now c.requires.walk c.args.x.0 (first-in c.requires.walk c.if-x-eq-NONE64.false) in
    (p.0, omega (arith, p.1))

pub loop-n-init : goal.loop-n-init
loop-n-init c = λ l L. reading-start L c.if-x-eq-NONE64.false c.fwd_at-n.ensures

pub member_stands-requires : goal.member_stands-requires
member_stands-requires c =
    let o = c.loop-n.invariant c.requires.list c.requires.walk in
    let p = large-bytes c.args.a.now c.requires.walk _ o.head in
    let r = large-bytes c.args.a.now c.requires.walk _ (reading-in c.requires.walk o c.loop-n-test.true) in
    (p.0, p.1, r.0, r.1)

pub returns-then-not-member_stands : goal.returns-then-not-member_stands
returns-then-not-member_stands c = λ l L. reading-falls L (c.loop-n.invariant l L) c.loop-n-test.true c.member_stands.ensures (c.if-not-member_stands.true)

pub group_of-q-requires : goal.group_of-q-requires
group_of-q-requires c =
    let o = c.loop-n.invariant c.requires.list c.requires.walk in
    let p = large-bytes c.args.a.now c.requires.walk _ o.head in
    let r = large-bytes c.args.a.now c.requires.walk _ (reading-in c.requires.walk o c.loop-n-test.true) in
    (p.0, p.1, r.0, r.1)

pub fwd_at-n-requires-in-loop-n : goal.fwd_at-n-requires-in-loop-n
fwd_at-n-requires-in-loop-n c =
    let o = c.loop-n.invariant c.requires.list c.requires.walk in
    let r = large-bytes c.args.a.now c.requires.walk _ (reading-in c.requires.walk o c.loop-n-test.true) in
    (r.0, omega (arith, r.1))

pub loop-n-smaller : goal.loop-n-smaller
loop-n-smaller c =
    let L = c.requires.walk in
    rest-fewer L.walk _ _ _ (c.loop-n.invariant c.requires.list L).on c.loop-n-test.true c.fwd_at-n-in-loop-n.ensures

pub loop-n-preserved : goal.loop-n-preserved
loop-n-preserved c = λ l L.
    reading-next L (c.loop-n.invariant l L) c.loop-n-test.true c.member_stands.ensures (c.if-not-member_stands.false) c.group_of-q.ensures
    c.fwd_at-n-in-loop-n.ensures

pub linked-requires : goal.linked-requires
linked-requires c =
    let o = c.loop-n.invariant c.requires.list c.requires.walk in
    let p = large-bytes c.args.a.now c.requires.walk _ o.head in
    let t = large-bytes c.args.a.now c.requires.walk c.args.x.0 (first-in c.requires.walk c.if-x-eq-NONE64.false) in
    (p.0, p.1, t.0, t.1)

pub returns : goal.returns
returns c = λ l L. reading-end L (c.loop-n.invariant l L) c.loop-n-test.false c.linked.ensures
