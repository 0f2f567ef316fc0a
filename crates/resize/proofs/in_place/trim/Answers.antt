-- `resize::trim` meets its contract: two writes in a row. Assumes nothing.
use mathlib.Core.Path.{ap, ◌∙◌}
use Prim.Native.Nat.{◌+◌, ◌-◌}
use Rattle.machine.specs.Writes.{size, put}
use Rattle.resize.proofs.in_place.trim.Goals as goal

pub returns : goal.returns
returns c =
    let s = c.args in
    c.set_size.ensures ∙ ap (put (size (s.c.0 + s.b.bytes) (s.z - s.b.bytes) 1)) c.set_own_size.ensures
