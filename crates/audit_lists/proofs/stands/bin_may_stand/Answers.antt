-- `stands::bin_may_stand` meets its contract: each way through it decides the machine's test. Assumes nothing.
use native.Mathlib.Omega.{arith}
use Rattle.le.specs.Arena.{arena_words}
use Rattle.audit_lists.specs.StandWays.{bin-back, bin_small, bin-first, bin-order}
use Rattle.audit_lists.proofs.stands.bin_may_stand.Goals as goal

pub back_at-requires : goal.back_at-requires
back_at-requires c = let s = c.requires.0 in (omega (arith, s.even), omega (arith, s.inside))

pub returns-then-back_at-p : goal.returns-then-back_at-p
returns-then-back_at-p c v r =
    let w = arena_words c.args.a.now in
    bin-back v c.args.j c.args.p.0 c.args.c.0 w r c.args.s _ (record { size = c.requires.0.size; own = c.requires.1; back = c.back_at.ensures }) c.if-back_at-p.true

pub returns-then-j-lt-LARGE_BIN : goal.returns-then-j-lt-LARGE_BIN
returns-then-j-lt-LARGE_BIN c v r =
    let w = arena_words c.args.a.now in
    bin_small v c.args.j c.args.p.0 c.args.c.0 w r c.args.s _ (record { size = c.requires.0.size; own = c.requires.1; back = c.back_at.ensures }) c.if-back_at-p.false c.if-j-lt-LARGE_BIN.true

pub returns-then-p-eq-NONE64 : goal.returns-then-p-eq-NONE64
returns-then-p-eq-NONE64 c v r =
    let w = arena_words c.args.a.now in
    bin-first v c.args.j c.args.p.0 c.args.c.0 w r c.args.s _ (record { size = c.requires.0.size; own = c.requires.1; back = c.back_at.ensures }) c.if-back_at-p.false c.if-j-lt-LARGE_BIN.false c.if-p-eq-NONE64.true

pub returns : goal.returns
returns c v r =
    let w = arena_words c.args.a.now in
    bin-order v c.args.j c.args.p.0 c.args.c.0 w r c.args.s _ (record { size = c.requires.0.size; own = c.requires.1; back = c.back_at.ensures }) c.args.q c.if-back_at-p.false c.if-j-lt-LARGE_BIN.false c.if-p-eq-NONE64.false (c.requires.0.before c.if-p-eq-NONE64.false)
