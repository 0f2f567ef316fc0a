-- `resize::copy_words` meets its contract: after i turns i words are copied. Assumes nothing.
use mathlib.Core.Path.{◌≡◌}
use Rattle.le.specs.Arena.{arena_words}
use Rattle.machine.specs.Writes.{apply}
use Rattle.machine.specs.Resize.{copies}
use Rattle.resize.proofs.moved.copy_words.Given as goal

abbrev pub invariant-loop-i : goal.invariant-loop-i
invariant-loop-i l = arena_words l.a ≡ apply (copies l.d.0 l.c.0 l.i) (arena_words l.initial.a)
