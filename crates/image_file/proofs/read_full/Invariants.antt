-- `image_file::read_full`: what was read stands within the buffer, and each turn reads some of the rest.
use Rattle.std.proofs.Common.{◌-◌, ◌≤◌, length}
use Rattle.image_file.proofs.read_full.Given as goal

abbrev pub invariant-loop-done : goal.invariant-loop-done
invariant-loop-done g l = l.done ≤ length l.buf

abbrev pub decreases-loop-done : goal.decreases-loop-done
decreases-loop-done g l = length l.buf - l.done
