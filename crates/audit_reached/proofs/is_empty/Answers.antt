-- `is_empty` meets its contract: the head of the list of that number is asked. Assumes nothing.
use mathlib.Core.Path.{ap, ◌∙◌}
use Prim.Native.Nat.{ℕ}
use lib.Dec.{eqb}
use lib.ListN.{get_or}
use Rattle.sizes.specs.Limits.{none64}
use Rattle.machine.specs.View.{up, head_word}
use Rattle.machine.specs.declared.ListKind.{ListKind}
use Rattle.audit.specs.ListTurn.{kind-words}
use Rattle.audit_reached.proofs.is_empty.Goals as goal

pub head-c-requires : goal.head-c-requires
head-c-requires c = (c.requires.0, (kind-words _ _ c.kind_at.ensures c.requires.1).0)

pub returns : goal.returns
returns c =
    ap (λ (x : ℕ). eqb x none64) (c.head-c.ensures ∙ ap (λ (k : ListKind). up (get_or c.args.r.now (head_word k) 0)) c.kind_at.ensures)
