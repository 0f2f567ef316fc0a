-- `joining::joining` meets its contract: consolidate, and then one word of the record. Assumes nothing.
use native.Mathlib.Omega.{arith}
use mathlib.Core.Path.{refl}
use Rattle.primitives.specs.Stacks.{ok-length}
use Rattle.joining.specs.Joining.{joining-gave}
use Rattle.joining.proofs.joining.Goals as goal

pub bounds-r-2 : goal.bounds-r-2
bounds-r-2 c = omega (
  arith,
  c.consolidate.auto.r,
  ok-length _ _ _
      c.requires.ok,
)

pub returns : goal.returns
returns c = record { does = λ h o g. joining-gave h _ _ o g c.consolidate.ensures refl }
