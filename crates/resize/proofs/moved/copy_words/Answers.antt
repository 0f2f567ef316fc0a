-- `resize::copy_words` meets its contract: after i turns i words are copied. Assumes nothing.
use mathlib.Core.Path.{◌≡◌, refl, ap, ◌∙◌}
use Prim.Native.Nat.{ℕ}
use native.Mathlib.Omega.{arith}
use Rattle.le.specs.Arena.{arena_words}
use Rattle.machine.specs.Writes.{apply}
use Rattle.machine.specs.Resize.{copies}
use Rattle.resize.specs.Moved.{copies-more}
use Rattle.resize.proofs.moved.copy_words.Goals as goal

pub loop-i-init : goal.loop-i-init
loop-i-init c = refl

pub loop-i-preserved : goal.loop-i-preserved
loop-i-preserved c =
    let s = c.args in
    copies-more s.d.0 s.c.0 c.loop-i.i (arena_words s.a.now) c.loop-i.invariant c.copy_usable_word.ensures

pub returns : goal.returns
returns c =
    let s = c.args in
    let e : c.loop-i.i ≡ s.n = omega arith in
    c.loop-i.invariant ∙ ap (λ (n : ℕ). apply (copies s.d.0 s.c.0 n) (arena_words s.a.now)) e
