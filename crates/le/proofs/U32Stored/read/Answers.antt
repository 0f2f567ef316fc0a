-- A number of 4 bytes is read: the definition computes to the sum that std makes of the bytes. Assumes nothing.
use Rattle.std.proofs.Common.{◌≡◌, ◌+◌, arith}
use Rattle.le.specs.Number.{number_from, number}
use Rattle.le.proofs.U32Stored.read.Goals as goal

pub returns : goal.returns
unfolding number number_from
returns c = let z : c.args.at + 0 ≡ c.args.at = omega arith in rw z (omega (arith, c.from_le_bytes.ensures))
