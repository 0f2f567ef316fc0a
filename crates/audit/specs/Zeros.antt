-- Marks that were just cleared are as the audit wants them. Assumes nothing.
use Rattle.std.specs.Prelude.{◌≡◌, refl, List, ℕ, zero, suc, ◌*◌, ◌≤◌, length, get_or, replicate}
use Rattle.std.proofs.Common.{arith}
use Rattle.std.proofs.lemmas.List.{length-replicate}
use Rattle.audit_walks.specs.Marks.{ArenaBytes, Bytes, Clear}

clear-zeros : (n i : ℕ) → get_or {A = ℕ} (replicate n 0) i 0 ≡ 0
clear-zeros zero i = refl
clear-zeros (suc n) zero = refl
clear-zeros (suc n) (suc i) = clear-zeros n i

pub zeros-ask : (n : ℕ) (a r : List ℕ) → ArenaBytes a → length a ≤ 16 * n → length r ≡ 396 → Bytes a (replicate n 0) × (length r ≡ 396) × Clear (replicate n 0)
zeros-ask n a r b h e = (record { arena = b; room = omega (arith, length-replicate {A = ℕ} n 0) }, e, λ i. clear-zeros n i)
