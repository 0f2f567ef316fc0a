-- `complete` meets its contract: the keys that are lacked, then the skip links. Assumes nothing.
use native.Mathlib.Omega.{arith}
use Rattle.image.specs.Completed.{old-keyed, both-written}
use Rattle.image.proofs.read.complete.Goals as goal

pub write_lacked_skips-requires : goal.write_lacked_skips-requires
write_lacked_skips-requires c =
    let p = c.requires in
    record { first = omega arith; older = omega arith; heap = p.heap; sound = old-keyed p.heap p.first p.older p.sound c.write_lacked_keys.ensures }

pub returns : goal.returns
returns c =
    let p = c.requires in
    let k = c.write_lacked_keys.ensures in
    λ h o. both-written h o k (c.write_lacked_skips.ensures h (old-keyed h p.first p.older o k))
