-- `lists::list_fault` meets its contract: the outer loop keeps Out, the inner one In, and each way out is a lemma of ListTurn. The measures are the lists
-- to come, and the chunks that were not met. Assumes nothing.
use mathlib.Core.Path.{◌≡◌}
use Prim.Native.Nat.{◌-◌, ◌≤◌, ◌<◌}
use lib.ListN.{length}
use Rattle.le.specs.Arena.{arena_words}
use Rattle.machine.specs.Lists.{cnt}
use Rattle.audit_walks.specs.Marks.{unmet_mark}
use Rattle.audit.specs.ListTurn.{Out, In}
use Rattle.audit.proofs.lists.list_fault.Given as goal

abbrev pub invariant-loop-c : goal.invariant-loop-c
invariant-loop-c l = (length l.m ≡ length l.initial.m) × (l.j < 200) × In l.v (arena_words l.a) l.r l.m l.k l.j l.p.0 l.q l.n l.c.0

abbrev pub decreases-loop-c : goal.decreases-loop-c
decreases-loop-c l = cnt unmet_mark l.m

abbrev pub invariant-lists : goal.invariant-lists
invariant-lists l = (length l.m ≡ length l.initial.m) × (l.i ≤ 200) × Out l.v (arena_words l.a) l.r l.m l.i

abbrev pub decreases-lists : goal.decreases-lists
decreases-lists l = 200 - l.i
