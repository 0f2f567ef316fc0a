-- `grant_steps_6_7::first_bin` meets its contract: from bin i on the machine's search goes as from the start. Assumes nothing.
use Rattle.grant_steps_6_7.specs.Following.{Seeking}
use Rattle.grant_steps_6_7.proofs.step_7.first_bin.Given as goal

abbrev pub invariant-loop-i : goal.invariant-loop-i
invariant-loop-i l = Seeking l.r l.j l.i
