-- The repair on bytes: what it answers and leaves in arena and record, refusals first and in their order. Definitions only.
use Rattle.std.specs.Prelude.{List, true, false, ℕ, Result, Ok, Err}
use Rattle.le.specs.Number.{bytes}
use Rattle.le.specs.Arena.{arena_words}
use Rattle.sizes.specs.Limits.{newest}
use Rattle.machine.specs.Heap.{record_of}
use Rattle.machine.specs.Writes.{Ran, ran, apply}
use Rattle.machine.specs.Audit.{sound?, audit_by, Audited}
use Rattle.machine.specs.Calls.{shape?, words_of, heap_in}
use Rattle.machine.specs.declared.{HeapAnswer.HeapAnswer}
use Rattle.audit_reached.specs.Reached.{tiled?}
use Rattle.repair.specs.declared.Unmended.{Unmended}
use Rattle.repair.specs.declared.Unmended.TheVariants.{Shape, Faulty}
use Rattle.repair.specs.Repair.{free?, repair}

-- what a repair answers: done, or why it is refused
abbrev pub Repaired : Type 0
Repaired = Result (Unit {0}) Unmended

-- arena bytes, record bytes and answer after a repair
pub data AfterRepair : Type 0 where
  after_repair : List ℕ → List ℕ → Repaired → AfterRepair

abbrev pub left : List ℕ → Ran (Unit {0}) → AfterRepair
left a (ran h ws x) = after_repair (bytes 8 (apply ws (arena_words a))) (bytes 4 (record_of h)) (Ok tt)

abbrev pub mended : ℕ → List ℕ → List ℕ → AfterRepair
mended v a r = left a (repair (free? v (arena_words a) (words_of r)) (heap_in a r))

-- of which the audit says x: a sound heap is left as it is; where record and tiles are good it is mended; for a fault of these number 11 is answered, with nothing changed
abbrev pub repaired : ℕ → List ℕ → List ℕ → Audited → AfterRepair
repaired v a r x = elim (sound? x) [
  | true ↦ after_repair a r (Ok tt)
  | false ↦ elim (tiled? x) [ true ↦ mended v a r | false ↦ after_repair a r (Err Faulty) ]
]

-- by the rules of version v; number 1 comes first
unfoldable pub repair_by : ℕ → List ℕ → List ℕ → AfterRepair
repair_by v a r = elim (shape? a r) [ true ↦ repaired v a r (audit_by v (arena_words a) (words_of r)) | false ↦ after_repair a r (Err Shape) ]

abbrev pub repair_call : List ℕ → List ℕ → AfterRepair
repair_call a r = repair_by newest a r

-- the document's numbers for each answer
abbrev pub unmended_no : Unmended → ℕ
unmended_no Shape = 1
unmended_no Faulty = 11

abbrev pub repair_numbers : Repaired → HeapAnswer
repair_numbers (Ok u) = record { no = 0; mem = 0; usable = 0 }
repair_numbers (Err x) = record { no = unmended_no x; mem = 0; usable = 0 }
