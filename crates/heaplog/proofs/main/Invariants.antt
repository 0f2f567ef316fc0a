-- `heaplog::main`: between two pieces the opened arena fits, and nothing is left to write.
use Rattle.std.proofs.Common.{◌≡◌, ◌≤◌}
use Rattle.heaplog.proofs.main.Given as goal

abbrev pub invariant-loop : goal.invariant-loop
invariant-loop l = (l.log.opened ≤ 49152) × (l.log.printed ≡ 0)
