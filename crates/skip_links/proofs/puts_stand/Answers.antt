-- `skip_links::puts_stand` meets its contract. The invariant: the list stands if it does from u on. The measure is how many chunks these are. Assumes
-- nothing.
use native.Mathlib.Omega.{arith}
use Rattle.skip_links.specs.WalkTurn.{rest-fewer, walk-bytes}
use Rattle.skip_links.specs.RingTurn.{putting-start, putting-in, putting-next, putting-falls, putting-end}
use Rattle.skip_links.proofs.puts_stand.Goals as goal

pub loop-u-init : goal.loop-u-init
loop-u-init c = λ l W. putting-start W

pub put_stands-requires : goal.put_stands-requires
put_stands-requires c =
    let W = c.requires.walk in
    let i = putting-in W (c.loop-u.invariant c.requires.list W) c.loop-u-test.true in
    let p = walk-bytes c.args.a.now W _ i in
    (p.0, W.least _ i, p.2)

pub returns-then-not-put_stands : goal.returns-then-not-put_stands
returns-then-not-put_stands c = λ l W. putting-falls W (c.loop-u.invariant l W) c.loop-u-test.true c.put_stands.ensures (c.if-not-put_stands.true)

pub fwd_at-u-requires : goal.fwd_at-u-requires
fwd_at-u-requires c =
    let W = c.requires.walk in
    let p = walk-bytes c.args.a.now W _ (putting-in W (c.loop-u.invariant c.requires.list W) c.loop-u-test.true) in
    (p.0, omega (arith, p.1))

pub loop-u-smaller : goal.loop-u-smaller
loop-u-smaller c =
    let W = c.requires.walk in
    rest-fewer W _ _ _ (c.loop-u.invariant c.requires.list W).on c.loop-u-test.true c.fwd_at-u.ensures

pub loop-u-preserved : goal.loop-u-preserved
loop-u-preserved c = λ l W.
    putting-next W (c.loop-u.invariant l W) c.loop-u-test.true c.put_stands.ensures (c.if-not-put_stands.false) c.fwd_at-u.ensures

pub returns : goal.returns
returns c = λ l W. putting-end W (c.loop-u.invariant l W) c.loop-u-test.false
