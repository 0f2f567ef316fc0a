-- A chunk that is to be carved: in its bin, and out of it; and what becomes of its rest. Definitions only.
use Rattle.std.specs.Prelude.{◌≡◌, Bool, true, false, ℕ, ◌+◌, ◌≤◌}
use Rattle.machine.specs.Lists.{cnt}
use Rattle.machine.specs.Heap.{Heap, bin, starts, size_of}
use Rattle.sound.specs.Relation.{Loose}
use Rattle.grant_step_8.specs.declared.Rest.{Rest}
use Rattle.grant_step_8.specs.declared.Rest.TheVariants.{Plain, LastRemainder}

-- c, of size z, is out of its bin: no list has it, and the chunk after it is not the top
pub record Taken (h : Heap) (c z : ℕ) : Type 0 where
  pub loose : Loose h c
  pub size : size_of h c ≡ z
  pub next : 1 ≤ cnt (c + z) (starts h)

-- bin j has c, of at least b bytes
pub record Fit (h : Heap) (j c b : ℕ) : Type 0 where
  pub here : 1 ≤ cnt c (bin h j)
  pub enough : b ≤ size_of h c

-- whether a rest becomes the last remainder
abbrev pub remainder? : Rest → Bool
remainder? Plain = false
remainder? LastRemainder = true
