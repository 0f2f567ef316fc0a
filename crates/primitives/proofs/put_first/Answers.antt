-- `primitives::put_first` meets its contract: the first of bin j is what stands behind nothing, and `link_in` does the rest. Assumes nothing.
use mathlib.Core.List.{[]}
use native.Mathlib.Omega.{arith}
use Rattle.primitives.specs.Stacks.{ok-length}
use Rattle.primitives.specs.Bins.{first-gap}
use Rattle.primitives.proofs.put_first.Goals as goal

pub bounds-r-at : goal.bounds-r-at
bounds-r-at c = omega (arith, ok-length _ _ _ c.requires.2.ok)

pub link_in-requires : goal.link_in-requires
link_in-requires c =
    let h = c.requires.2.heap in
    let g = first-gap h _ _ c.requires.2.ok c.args.j _ _ c.requires.0 (omega (arith, c.requires.1)) c.bin_first-at.ensures c.link_of-n.ensures in
    (c.requires.0, omega (arith, c.requires.1), record { heap = h; ok = c.requires.2.ok; holds = (c.requires.2.holds, record { xs = []; ys = _; gap = g }, λ z. absurd (omega (arith, z, c.requires.1))) })

pub returns : goal.returns
returns c =
    record {
      does = λ h o lo.
          c.link_in.ensures h [] _ o lo (first-gap h _ _ o c.args.j _ _ c.requires.0 (omega (arith, c.requires.1)) c.bin_first-at.ensures c.link_of-n.ensures)
          (λ z. absurd (omega (arith, z, c.requires.1)));
    }
