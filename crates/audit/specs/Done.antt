-- What the walk over the lists and the whole audit, by version v of the rules, leave in the marks, and promise. Definitions only.
use Rattle.std.specs.Prelude.{◌≡◌, List, ℕ, drop, Ok}
use Rattle.machine.specs.Lists.{cnt_all}
use Rattle.machine.specs.Heap.{live?}
use Rattle.machine.specs.View.{view}
use Rattle.machine.specs.Audit.{list_fault, audit_by, Audited}
use Rattle.audit_lists.specs.Listed.{unmet}
use Rattle.audit_walks.specs.Marks.{Marks, starts_of}
use Rattle.audit.specs.Lists.{minus_all}
use Rattle.audit.specs.Spelled.{lists_of}

-- how often the bins that are read have x
abbrev pub binned_of : List ℕ → List ℕ → ℕ → ℕ
binned_of w r x = cnt_all x (drop 74 (lists_of w r))

pub record ListsDone (v : ℕ) (w r : List ℕ) (f : Audited) (m : List ℕ) : Type 0 where
  pub is : f ≡ list_fault v w r 0 (starts_of w) (lists_of w r)
  pub marks : f ≡ Ok tt → Marks w m (minus_all (starts_of w) (lists_of w r)) (binned_of w r)

-- the whole: the machine's answer, and where that is sound, the unmet chunks exactly the live blocks
pub record AuditDone (v : ℕ) (w r : List ℕ) (f : Audited) (m : List ℕ) : Type 0 where
  pub is : f ≡ audit_by v w r
  pub live : f ≡ Ok tt → (x : ℕ) → unmet m x ≡ live? (view w r) x
