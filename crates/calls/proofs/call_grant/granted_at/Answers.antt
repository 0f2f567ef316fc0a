-- `granted_at`: the mem is the chunk's, the usable bytes are its size less 8, and both fit. Assumes nothing.
use mathlib.Core.Path.{ap, ◌∙◌}
use Prim.Native.Nat.{ℕ}
use native.Mathlib.Omega.{arith}
use Rattle.sizes.specs.Sizes.{usable}
use Rattle.sizes.specs.Offsets.{mem_of}
use Rattle.machine.specs.declared.Answer.TheVariants.{Granted}
use Rattle.calls.proofs.call_grant.granted_at.Goals as goal

pub overflow_cast-result : goal.overflow_cast-result
overflow_cast-result c = record { fits = omega (arith, c.mem-m.ensures, c.requires.small) }

pub overflow_cast-result-2 : goal.overflow_cast-result-2
unfolding usable
overflow_cast-result-2 c = record { fits = omega (arith, c.usable-u.ensures, c.size_at.ensures, c.requires.most) }

pub returns : goal.returns
returns c =
    ap (λ (m : ℕ). Granted m c.usable-u.result) c.mem-m.ensures
    ∙ ap (λ (u : ℕ). Granted (mem_of c.args.c.0) u) (c.usable-u.ensures ∙ ap usable c.size_at.ensures)
