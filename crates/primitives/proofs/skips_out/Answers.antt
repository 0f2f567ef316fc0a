-- `primitives::skips_out` meets its contract: bins below 64 have no ring. Assumes nothing.
use Rattle.machine.specs.Heap.{size_of, bin}
use Rattle.primitives.specs.Rings.{out-small, out-ring}
use Rattle.primitives.proofs.skips_out.Goals as goal

pub returns-then-j-lt-LARGE_BIN : goal.returns-then-j-lt-LARGE_BIN
returns-then-j-lt-LARGE_BIN c =
    λ h o. out-small c.args.j (λ x. size_of h x) (bin h c.args.j) _ c.if-j-lt-LARGE_BIN.true

pub renew_ring-requires : goal.renew_ring-requires
renew_ring-requires c = (c.if-j-lt-LARGE_BIN.false, c.requires.0, c.requires.1)

pub returns : goal.returns
returns c =
    λ h o. out-ring c.args.j (λ x. size_of h x) (bin h c.args.j) _ _ c.if-j-lt-LARGE_BIN.false (c.renew_ring.ensures h o)
