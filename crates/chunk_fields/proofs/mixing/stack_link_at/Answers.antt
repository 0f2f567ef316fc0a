-- `chunk_fields::mixing::stack_link_at` meets its contract: the forward link, unmixed. Assumes nothing.
use mathlib.Core.Path.{ap, ◌∙◌}
use Prim.Native.Nat.{ℕ}
use Rattle.machine.specs.Mixing.{stored}
use Rattle.chunk_fields.proofs.mixing.stack_link_at.Goals as goal

pub returns : goal.returns
returns c = let a = c.args in c.stored.ensures ∙ ap (λ (x : ℕ). stored a.d a.c.0 x) c.fwd_at-x.ensures
