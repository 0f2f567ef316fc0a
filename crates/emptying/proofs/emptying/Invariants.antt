-- `emptying::emptying` meets its contract. The invariant: emptying from the start is what was done so far and then the rest of it, from list k on.
-- Assumes nothing.
use Rattle.le.specs.Arena.{arena_words}
use Rattle.machine.specs.Release.{emptying}
use Rattle.primitives.specs.Reach.{Way}
use Rattle.emptying.specs.Emptying.{from_cache}
use Rattle.emptying.proofs.emptying.Given as goal

abbrev pub invariant-loop-k : goal.invariant-loop-k
invariant-loop-k l = Way (Unit {0}) emptying (from_cache l.k) (arena_words l.initial.a) l.initial.r (arena_words l.a) l.r
