-- A number of 4 bytes is written: its bytes stand in their place. Assumes nothing.
use Rattle.std.proofs.Common.{◌≡◌, ◌+◌, ◌-◌, ◌∙◌, arith}
use Rattle.le.proofs.Bytes.{put-digits}
use Rattle.le.proofs.U32Stored.write.Goals as goal

pub returns : goal.returns
returns c =
    let n : c.args.at + 4 - c.args.at ≡ 4 = omega arith in
    rw n (put-digits 4 _ _ _ _ c.requires (c.copy_from_slice.ensures.after ∙ c.to_le_bytes.ensures))
