-- What a file is mended to, as the code finds it: by each answer of its reading and of the repair, into whatever buffers of the right lengths it was read.
-- Assumes nothing.
use Rattle.std.specs.Prelude.{◌≡◌, refl, List, ℕ, Ok}
use Rattle.std.proofs.Common.{sym, ap, ◌∙◌}
use Rattle.image.specs.Image.{version_in, after_reading, read_call, Reading}
use Rattle.image.proofs.Lent.{Lent, lent-zeros, read_same, read_again}
use Rattle.image.proofs.Inverse.{arena_left, record_left}
use Rattle.repair.specs.RepairCall.{AfterRepair, repair_by}
use Rattle.repair_text.specs.RepairText.{mends_to, mends_read, mending}
use Rattle.machine.specs.Audit.{Audited}

-- by the answer of the reading
pub read-mends : (f a r b q : List ℕ) {x y : Reading} → Lent f a r → after_reading b q x ≡ read_call f a r → x ≡ y → mends_read (version_in f) (after_reading b q y) ≡ mending f
unfolding mending
read-mends f a r b q l e k =
    ap (λ z. mends_read (version_in f) (after_reading b q z)) (sym k) ∙ ap (mends_read (version_in f)) e
    ∙ read_same (mends_read (version_in f)) (λ a r b q. refl) (λ a r b q. refl) (λ a r b q. refl) f a r _ _ l (lent-zeros f)

-- by that of the repair, of what was read again: both readings left the same
pub repaired-mends : (f a r b q : List ℕ) {x : Reading} (y : Audited) (a' r' b' q' : List ℕ) {x' : Reading} {v : ℕ} {z : AfterRepair}
    → Lent f a r → after_reading b q x ≡ read_call f a r → x ≡ Ok y
    → Lent f a' r' → after_reading b' q' x' ≡ read_call f a' r' → v ≡ version_in f → z ≡ repair_by v b' q' → mends_to b q z ≡ mending f
repaired-mends f a r b q y a' r' b' q' {x' = x'} {z = z} l e i l' e' k h =
    let same : after_reading b' q' x' ≡ after_reading b q (Ok y) = e' ∙ read_again f a r a' r' b q y l l' (sym e ∙ ap (after_reading b q) i) in
    let h' : z ≡ repair_by (version_in f) b q = h ∙ rw (k, ap arena_left same, ap record_left same) in
    ap (mends_to b q) h' ∙ read-mends f a r b q l e i
