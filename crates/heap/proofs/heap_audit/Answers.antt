-- `heap_audit`: the audit, its answer as numbers. Assumes nothing.
use mathlib.Core.Path.{ap, ◌∙◌}
use Rattle.machine.specs.Calls.{fault_numbers}
use Rattle.heap.proofs.heap_audit.Goals as goal

pub returns : goal.returns
returns c = c.fault_numbers.ensures ∙ ap fault_numbers c.audit-x.ensures
