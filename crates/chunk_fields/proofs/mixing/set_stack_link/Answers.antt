-- `chunk_fields::mixing::set_stack_link` meets its contract: the forward link, mixed. Assumes nothing.
use mathlib.Core.Path.{ap, ◌∙◌}
use Prim.Native.Nat.{ℕ}
use Rattle.le.specs.Arena.{arena_words}
use Rattle.machine.specs.Writes.{link, put}
use Rattle.chunk_fields.proofs.mixing.set_stack_link.Goals as goal

pub returns : goal.returns
returns c =
    let a = c.args in
    c.set_fwd.ensures ∙ ap (λ (x : ℕ). put (link a.c.0 x) (arena_words a.a.now)) c.stored-y.ensures
