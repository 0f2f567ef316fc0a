-- `text::put_bytes` meets its contract. The invariant: the bytes passed are those of the other slice. Assumes nothing.
use Rattle.std.proofs.Common.{◌≡◌, take}
use Rattle.text.proofs.put_bytes.Given as goal

abbrev pub invariant-loop-i : goal.invariant-loop-i
invariant-loop-i l = take l.i l.to ≡ take l.i l.from
