-- `primitives::skips_in` meets its contract: what comes into unsorted, and what into another bin. Assumes nothing.
use mathlib.Core.Path.{◌∙◌, sym}
use native.Mathlib.Omega.{arith}
use Rattle.machine.specs.Heap.{size_of, bin}
use Rattle.primitives.specs.Rings.{Room, comer-room, comer-size, in-unsorted, in-other}
use Rattle.primitives.proofs.skips_in.Goals as goal

pub size_at-z-requires : goal.size_at-z-requires
size_at-z-requires c =
    let room : Room c.args.a.now c.args.c.0 = comer-room _ _ _ _ _ c.requires.1.linked c.requires.1.holds in
    let k = room in (omega (arith, k.even), omega (arith, k.least, k.inside))

pub put_skips-requires : goal.put_skips-requires
put_skips-requires c =
    let room : Room c.args.a.now c.args.c.0 = comer-room _ _ _ _ _ c.requires.1.linked c.requires.1.holds in
    let k = room in
    let e = c.size_at-z.ensures in
    (omega (arith, k.even), omega (arith, e, k.least), omega (arith, e, k.inside))

pub returns-then-j-eq-UNSORTED : goal.returns-then-j-eq-UNSORTED
returns-then-j-eq-UNSORTED c =
    λ h o m.
    in-unsorted c.args.j (λ x. size_of h x) c.args.c.0 (bin h c.args.j) _ _ c.if-j-eq-UNSORTED.true
    (c.put_skips.ensures (λ x. size_of h x) (sym (c.size_at-z.ensures ∙ comer-size h _ _ _ _ o m)))

pub skips_out-requires : goal.skips_out-requires
skips_out-requires c = (c.requires.0, record { heap = c.requires.1.heap; linked = c.requires.1.linked; holds = tt })

pub returns : goal.returns
returns c =
    λ h o m. in-other c.args.j (λ x. size_of h x) c.args.c.0 (bin h c.args.j) _ _ c.if-j-eq-UNSORTED.false (c.skips_out.ensures h o)
