-- `grant_steps_6_7::first_bin` meets its contract: from bin i on the machine's search goes as from the start. Assumes nothing.
use mathlib.Core.Path.{refl}
use native.Mathlib.Omega.{arith}
use Rattle.grant_steps_6_7.specs.Following.{seek-start, seek_found, seek-next, seek-end}
use Rattle.grant_steps_6_7.proofs.step_7.first_bin.Goals as goal

pub loop-i-init : goal.loop-i-init
loop-i-init c = seek-start _ c.args.j _ refl

pub returns-then-r-bin_last : goal.returns-then-r-bin_last
returns-then-r-bin_last c =
    seek_found _ c.args.j c.loop-i.i (omega (arith, c.loop-i.auto.i)) (omega (arith, c.loop-i-test.true)) c.loop-i.invariant _ c.bin_last.ensures c.if-r-bin_last.true

pub loop-i-preserved : goal.loop-i-preserved
loop-i-preserved c =
    seek-next _ c.args.j c.loop-i.i (omega (arith, c.loop-i.auto.i)) (omega (arith, c.loop-i-test.true)) c.loop-i.invariant _ c.bin_last.ensures c.if-r-bin_last.false

pub returns : goal.returns
returns c = seek-end _ c.args.j c.loop-i.i (omega (arith, c.loop-i-test.false)) c.loop-i.invariant
