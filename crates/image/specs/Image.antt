-- A heap in a file: what its bytes are, and what writing and reading one answer and leave. Definitions only.
use Rattle.std.specs.Prelude.{List, [], ◌∷◌, ◌++◌, Bool, true, false, ℕ, ◌+◌, ◌-◌, eqb, ltb, leb, length, get_or, take, drop, replicate, Result, Ok, Err}
use Rattle.le.specs.Number.{number, digits, bytes}
use Rattle.le.specs.Arena.{arena_words}
use Rattle.sizes.specs.Limits.{record_bytes, newest, plain}
use Rattle.machine.specs.Lists.{both}
use Rattle.machine.specs.Heap.{Heap}
use Rattle.machine.specs.Writes.{Write, apply}
use Rattle.machine.specs.Audit.{Audited, sound?, audit_by}
use Rattle.machine.specs.Calls.{shape?, arena_allowed?, words_of, heap_in, fault_numbers, Answered}
use Rattle.image_keys.specs.Keys.{keys_of}
use Rattle.image_skips.specs.Skips.{skips_of}
use Rattle.machine.specs.declared.{HeapFault.HeapFault}
use Rattle.machine.specs.declared.Answer.TheVariants.{Done}
use Rattle.machine.specs.declared.Refusal.TheVariants as R
use Rattle.image.specs.declared.Unread.{Unread}
use Rattle.image.specs.declared.Unread.TheVariants.{NoMark, NoVersion, WrongLength}

-- ---- the file: the mark HPI, a 16-bit version, a 32-bit arena length, the record, the arena; numbers are little-endian
abbrev pub mark : List ℕ
mark = 72 ∷ 80 ∷ 73 ∷ []

-- version 1 has a record of 1,572 bytes, without a key, and no keys in the cache; versions 1 and 2 have no skip links in the bins; versions 2 and 3 have a record
-- of 1,580 bytes, without an edition; version 4, the newest, is the heap as it is
abbrev pub known? : ℕ → Bool
known? v = both (leb 1 v) (leb v newest)

abbrev pub record_bytes_by : ℕ → ℕ
record_bytes_by v = elim (ltb v 2) [ true ↦ 1572 | false ↦ elim (ltb v 4) [ true ↦ 1580 | false ↦ record_bytes ] ]

-- a writing writes the newest
unfoldable pub image : List ℕ → List ℕ → List ℕ
image a r = mark ++ (digits 2 newest ++ (digits 4 (length a) ++ (r ++ a)))

-- where the numbers and the record stand
abbrev pub version_at : ℕ
version_at = 3

abbrev pub length_at : ℕ
length_at = 5

abbrev pub record_at : ℕ
record_at = 9

-- the file of an arena of n bytes, by its version
abbrev pub image_bytes : ℕ → ℕ → ℕ
image_bytes v n = record_at + (record_bytes_by v + n)

-- ---- writing: file bytes and answer. Number 1 for the shape of arena or record, or a file buffer of another length; a refusal writes nothing
pub data Written : Type 0 where
  written : List ℕ → Answered → Written

unfoldable pub write_call : List ℕ → List ℕ → List ℕ → Written
write_call a r f = elim (both (shape? a r) (eqb (length f) (image_bytes newest (length a)))) [ true ↦ written (image a r) (Ok Done) | false ↦ written f (Err R.Shape) ]

-- ---- what stands in a file
abbrev pub marked? : List ℕ → Bool
marked? f = both (leb length_at (length f)) (both (eqb (get_or f 0 0) 72) (both (eqb (get_or f 1 0) 80) (eqb (get_or f 2 0) 73)))

abbrev pub version_in : List ℕ → ℕ
version_in f = number 2 f version_at

abbrev pub length_in : List ℕ → ℕ
length_in f = number 4 f length_at

-- an older record is completed with key 0 and edition 1, what a record of 1,572 bytes lacks
abbrev pub lacked_record : List ℕ
lacked_record = replicate 8 0 ++ digits 4 plain

abbrev pub record_in : List ℕ → List ℕ
record_in f = take (record_bytes_by (version_in f)) (drop record_at f) ++ drop (record_bytes_by (version_in f) - 1572) lacked_record

abbrev pub arena_in : List ℕ → List ℕ
arena_in f = drop (record_at + record_bytes_by (version_in f)) f

-- the length is allowed, the file's, and that of the lent arena; the lent record is one
abbrev pub fits? : List ℕ → List ℕ → List ℕ → Bool
fits? f a r = both (arena_allowed? (length_in f)) (both (eqb (length f) (image_bytes (version_in f) (length_in f))) (both (eqb (length a) (length_in f)) (eqb (length r) record_bytes)))

-- ---- what an older heap lacks, where it is otherwise sound: before version 2 each cached chunk gets the key, before version 3 the bins get their skip links
abbrev pub lacked_keys : ℕ → Heap → List Write
lacked_keys v h = elim (ltb v 2) [ true ↦ keys_of h | false ↦ [] ]

abbrev pub lacked_skips : ℕ → Heap → List Write
lacked_skips v h = elim (ltb v 3) [ true ↦ skips_of h | false ↦ [] ]

abbrev pub lacked : ℕ → Heap → List Write
lacked v h = lacked_keys v h ++ lacked_skips v h

abbrev pub completed : ℕ → Heap → List ℕ → List ℕ
completed v h a = bytes 8 (apply (lacked v h) (arena_words a))

-- what a reading answers: the audit of the heap that was read, or why it is refused
abbrev pub Reading : Type 0
Reading = Result Audited Unread

-- ---- reading: arena bytes, record bytes and answer. Number 6 for a wrong mark or fewer than 5 bytes, 7 for a version not known, 1 for a length, each writing
-- nothing; else the heap as it was written, sound or not, with its audit's answer by the rules of its version; an older one that is sound gets what it lacks
pub data AfterReading : Type 0 where
  after_reading : List ℕ → List ℕ → Reading → AfterReading

abbrev pub heap_read : ℕ → List ℕ → List ℕ → AfterReading
heap_read v a r = elim (both (ltb v newest) (sound? (audit_by v (arena_words a) (words_of r)))) [
  | true ↦ after_reading (completed v (heap_in a r) a) r (Ok (audit_by v (arena_words a) (words_of r)))
  | false ↦ after_reading a r (Ok (audit_by v (arena_words a) (words_of r)))
]

unfoldable pub read_call : List ℕ → List ℕ → List ℕ → AfterReading
read_call f a r = elim (marked? f) [
  | true ↦ elim (known? (version_in f)) [
    | true ↦ elim (fits? f a r) [
      | true ↦ heap_read (version_in f) (arena_in f) (record_in f)
      | false ↦ after_reading a r (Err WrongLength)
    ]
    | false ↦ after_reading a r (Err NoVersion)
  ]
  | false ↦ after_reading a r (Err NoMark)
]

-- the document's numbers for each answer; a refusal has kind 0 and number 0
abbrev pub unread_no : Unread → ℕ
unread_no NoMark = 6
unread_no NoVersion = 7
unread_no WrongLength = 1

abbrev pub reading_numbers : Reading → HeapFault
reading_numbers (Err u) = record { no = unread_no u; kind = 0; number = 0 }
reading_numbers (Ok x) = fault_numbers x
