-- `primitives::set_p` meets its contract: the size word is written with the size that was read. Assumes nothing.
use mathlib.Core.Path.{ap, ◌∙◌}
use Prim.Native.Nat.{ℕ}
use Rattle.le.specs.Arena.{arena_words}
use Rattle.machine.specs.Writes.{size, put}
use Rattle.primitives.proofs.set_p.Goals as goal

pub returns : goal.returns
returns c =
    let s = c.args in
    c.set_size.ensures ∙ ap (λ (x : ℕ). put (size s.n.0 x 1) (arena_words s.a.now)) c.size_at-z.ensures
