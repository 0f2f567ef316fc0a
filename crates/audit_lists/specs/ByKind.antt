-- A list's head and end, its kind known. Assumes nothing.
use Rattle.std.specs.Prelude.{◌≡◌, List, ℕ, get_or}
use Rattle.std.proofs.Common.{sym, ap}
use Rattle.machine.specs.View.{up, head_word}
use Rattle.machine.specs.Audit.{may_end}
use Rattle.machine.specs.declared.ListKind.{ListKind}

pub head-by : (k k' : ListKind) (r : List ℕ) → k ≡ k' → up (get_or r (head_word k') 0) ≡ up (get_or r (head_word k) 0)
head-by k k' r e = ap (λ (z : ListKind). up (get_or r (head_word z) 0)) (sym e)

pub may_end-by : (k k' : ListKind) (r : List ℕ) (p n : ℕ) → k ≡ k' → may_end k' r p n ≡ may_end k r p n
may_end-by k k' r p n e = ap (λ (z : ListKind). may_end z r p n) (sym e)
