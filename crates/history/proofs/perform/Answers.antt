-- `perform` is the machine's call: each kind by the exported call. Assumes nothing.
use mathlib.Core.Path.{sym, ap, ◌∙◌}
use Rattle.heap.specs.Exported.{numbered}
use Rattle.history.specs.declared.Call.{Call}
use Rattle.history.specs.Performed.{call_of}
use Rattle.history.proofs.perform.Goals as goal

pub returns-in-Grant : goal.returns-in-Grant
returns-in-Grant c = c.heap_grant.ensures ∙ ap (λ (x : Call). numbered (call_of x c.args.arena.now c.args.control.now)) (sym c.in-Grant.is)

pub returns-in-Release : goal.returns-in-Release
returns-in-Release c = c.heap_release.ensures ∙ ap (λ (x : Call). numbered (call_of x c.args.arena.now c.args.control.now)) (sym c.in-Release.is)

pub returns-in-Resize : goal.returns-in-Resize
returns-in-Resize c = c.heap_resize.ensures ∙ ap (λ (x : Call). numbered (call_of x c.args.arena.now c.args.control.now)) (sym c.in-Resize.is)

pub returns-in-Emptying : goal.returns-in-Emptying
returns-in-Emptying c = c.heap_emptying.ensures ∙ ap (λ (x : Call). numbered (call_of x c.args.arena.now c.args.control.now)) (sym c.in-Emptying.is)

pub returns-in-Joining : goal.returns-in-Joining
returns-in-Joining c = c.heap_joining.ensures ∙ ap (λ (x : Call). numbered (call_of x c.args.arena.now c.args.control.now)) (sym c.in-Joining.is)
