-- A call's bytes and answer as C gets them, and that a promise leaves nothing of them open. Assumes nothing.
use Rattle.std.specs.Prelude.{◌≡◌, List, ℕ}
use Rattle.std.proofs.Common.{◌∙◌, sym, ap}
use Rattle.machine.specs.Calls.{After, after, audit_call, answer_numbers, fault_numbers, Answered}
use Rattle.machine.specs.declared.{HeapAnswer.HeapAnswer, HeapFault.HeapFault}
use Rattle.image.specs.Image.{Written, written, AfterReading, after_reading, reading_numbers, Reading}
use Rattle.repair.specs.RepairCall.{AfterRepair, after_repair, repair_numbers, Repaired}

-- arena bytes, record bytes and the three numbers
pub data Back : Type 0 where
  back : List ℕ → List ℕ → HeapAnswer → Back

abbrev pub arena_back : Back → List ℕ
arena_back (back a r x) = a

abbrev pub record_back : Back → List ℕ
record_back (back a r x) = r

abbrev pub numbers_back : Back → HeapAnswer
numbers_back (back a r x) = x

abbrev pub numbered : After → Back
numbered (after a r x) = back a r (answer_numbers x)

pub back_is : (a r : List ℕ) (x : Answered) (n : HeapAnswer) {y : After} → after a r x ≡ y → n ≡ answer_numbers x → back a r n ≡ numbered y
back_is a r x n e q = ap (back a r) q ∙ ap numbered e

-- ---- a heap in a file. Writing: file bytes and the three numbers
pub data WrittenBack : Type 0 where
  written_back : List ℕ → HeapAnswer → WrittenBack

abbrev pub numbered_written : Written → WrittenBack
numbered_written (written f x) = written_back f (answer_numbers x)

pub written-back-is : (f : List ℕ) (x : Answered) (n : HeapAnswer) {y : Written} → written f x ≡ y → n ≡ answer_numbers x → written_back f n ≡ numbered_written y
written-back-is f x n e q = ap (written_back f) q ∙ ap numbered_written e

-- reading: arena bytes, record bytes and the three numbers
pub data ReadBack : Type 0 where
  read_back : List ℕ → List ℕ → HeapFault → ReadBack

abbrev pub numbered_read : AfterReading → ReadBack
numbered_read (after_reading a r x) = read_back a r (reading_numbers x)

pub read-back-is : (a r : List ℕ) (x : Reading) (n : HeapFault) {y : AfterReading} → after_reading a r x ≡ y → n ≡ reading_numbers x
    → read_back a r n ≡ numbered_read y
read-back-is a r x n e q = ap (read_back a r) q ∙ ap numbered_read e

-- ---- a repair
abbrev pub numbered_repair : AfterRepair → Back
numbered_repair (after_repair a r x) = back a r (repair_numbers x)

pub repair-back-is : (a r : List ℕ) (x : Repaired) (n : HeapAnswer) {y : AfterRepair} → after_repair a r x ≡ y → n ≡ repair_numbers x → back a r n ≡ numbered_repair y
repair-back-is a r x n e q = ap (back a r) q ∙ ap numbered_repair e

-- ---- any two results that meet a promise are equal: every arena byte, every record byte and the three numbers; of an audit, its three numbers; of a writing,
-- every file byte and the three numbers
pub exported-unique : (call : After) (a b r q : List ℕ) (x y : HeapAnswer) → back a r x ≡ numbered call → back b q y ≡ numbered call → (a ≡ b) × (r ≡ q) × (x ≡ y)
exported-unique call a b r q x y p s =
    let e : back a r x ≡ back b q y = p ∙ sym s in
    (ap arena_back e, ap record_back e, ap numbers_back e)

pub exported-audit-unique : (a r : List ℕ) (x y : HeapFault) → x ≡ fault_numbers (audit_call a r) → y ≡ fault_numbers (audit_call a r) → x ≡ y
exported-audit-unique a r x y p q = p ∙ sym q

pub exported-write-unique : (call : Written) (f g : List ℕ) (x y : HeapAnswer) → written_back f x ≡ numbered_written call → written_back g y ≡ numbered_written call
    → (f ≡ g) × (x ≡ y)
exported-write-unique call f g x y p q = (cc, cc)

pub exported-read-unique : (call : AfterReading) (a b r q : List ℕ) (x y : HeapFault) → read_back a r x ≡ numbered_read call → read_back b q y ≡ numbered_read call
    → (a ≡ b) × (r ≡ q) × (x ≡ y)
exported-read-unique call a b r q x y p s = (cc, cc, cc)

pub exported-repair-unique : (call : AfterRepair) (a b r q : List ℕ) (x y : HeapAnswer) → back a r x ≡ numbered_repair call → back b q y ≡ numbered_repair call
    → (a ≡ b) × (r ≡ q) × (x ≡ y)
exported-repair-unique call a b r q x y p s = (cc, cc, cc)
