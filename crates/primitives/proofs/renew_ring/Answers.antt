-- `primitives::renew_ring` meets its contract: the record has the list's head, and from there the ring is written (`first_walk`). Assumes nothing.
use mathlib.Core.Path.{ap, ◌∙◌}
use mathlib.Core.List.{List}
use native.Mathlib.Omega.{arith}
use Rattle.le.specs.Arena.{arena_words}
use Rattle.machine.specs.Heap.{bin}
use Rattle.machine.specs.Writes.{Write, apply}
use Rattle.primitives.specs.Rings.{linked-length, first_walk, ring-sizes}
use Rattle.primitives.proofs.renew_ring.Goals as goal

pub bounds-r-at : goal.bounds-r-at
bounds-r-at c = omega (arith, linked-length _ _ _ c.requires.2.linked)

pub write_ring-requires : goal.write_ring-requires
write_ring-requires c =
    record { list = _; walk = first_walk c.requires.2.heap _ _ c.args.j _ _ c.requires.2.linked c.requires.0 c.requires.1 c.bin_first-at.ensures c.link_of.ensures }

pub returns : goal.returns
returns c =
    λ h o.
    c.write_ring.ensures (bin h c.args.j) (first_walk h _ _ c.args.j _ _ o c.requires.0 c.requires.1 c.bin_first-at.ensures c.link_of.ensures)
    ∙ ap (λ (ws : List Write). apply ws (arena_words c.args.a.now)) (ring-sizes h _ _ o c.args.j)
