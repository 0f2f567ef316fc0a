-- The calls on bytes: what each answers and leaves in arena and record, refusals first and in their order. Definitions only.
use Rattle.std.specs.Prelude.{List, [], ◌∷◌, ◌++◌, Bool, true, false, ℕ, ◌%◌, eqb, ltb, leb, length, replicate, Option, Some, None, Result, Ok, Err}
use Rattle.le.specs.Number.{words, bytes}
use Rattle.le.specs.Arena.{arena_words}
use Rattle.sizes.specs.Limits.{least_arena, most_arena, most_request, record_words, record_bytes, none32}
use Rattle.sizes.specs.Sizes.{need, usable}
use Rattle.sizes.specs.Offsets.{mem_of, chunk_of}
use Rattle.machine.specs.Lists.{both}
use Rattle.machine.specs.Heap.{Heap, opened, size_of, live?, halves, record_of}
use Rattle.machine.specs.Writes.{Write, size, apply, Ran, ran}
use Rattle.machine.specs.Release.{release, emptying, joining}
use Rattle.machine.specs.Grant.{grant}
use Rattle.machine.specs.Resize.{resize}
use Rattle.machine.specs.View.{view}
use Rattle.machine.specs.Audit.{sound?, audit_of, edition?, Audited}
use Rattle.machine.specs.declared.{ListKind.ListKind, Refusal.Refusal, Answer.Answer, HeapAnswer.HeapAnswer, HeapFault.HeapFault}
use Rattle.machine.specs.declared.ListKind.TheVariants.{Cache, Fast, Bin}
use Rattle.machine.specs.declared.Fault.TheVariants as A
use Rattle.machine.specs.declared.Refusal.TheVariants as R
use Rattle.machine.specs.declared.Answer.TheVariants.{Done, Granted}

-- what a call answers, or why it is refused
abbrev pub Answered : Type 0
Answered = Result Answer Refusal

-- ---- the document's numbers for each answer
abbrev pub refusal_no : Refusal → ℕ
refusal_no R.Shape = 1
refusal_no R.Request = 2
refusal_no R.Unsound = 3
refusal_no R.NotLive = 4
refusal_no R.NoRoom = 5
refusal_no R.Edition = 12

-- number, mem, usable; a refusal answers mem 0, usable 0
abbrev pub answer_numbers : Answered → HeapAnswer
answer_numbers (Ok Done) = record { no = 0; mem = 0; usable = 0 }
answer_numbers (Ok (Granted m u)) = record { no = 0; mem = m; usable = u }
answer_numbers (Err x) = record { no = refusal_no x; mem = 0; usable = 0 }

abbrev pub list_numbers : ListKind → HeapFault
list_numbers (Cache k) = record { no = 0; kind = 3; number = k }
list_numbers (Fast k) = record { no = 0; kind = 4; number = k }
list_numbers (Bin j) = record { no = 0; kind = 5; number = j }

abbrev pub fault_numbers : Audited → HeapFault
fault_numbers (Ok u) = record { no = 0; kind = 0; number = 0 }
fault_numbers (Err A.Record) = record { no = 0; kind = 1; number = 0 }
fault_numbers (Err (A.Tile o)) = record { no = 0; kind = 2; number = o }
fault_numbers (Err (A.List k)) = list_numbers k
fault_numbers (Err (A.Flag o)) = record { no = 0; kind = 6; number = o }
fault_numbers (Err A.Shape) = record { no = 1; kind = 0; number = 0 }

-- ---- shape: the arena's length a multiple of 16 from 32 to 262,144; the record 1,584 bytes
abbrev pub arena_allowed? : ℕ → Bool
arena_allowed? n = both (eqb (n % 16) 0) (both (leb least_arena n) (leb n most_arena))

abbrev pub shape? : List ℕ → List ℕ → Bool
shape? a r = both (eqb (length r) record_bytes) (arena_allowed? (length a))

-- the heap that arena bytes a and record bytes r spell, and its audit
abbrev pub words_of : List ℕ → List ℕ
words_of r = words 4 record_words r

abbrev pub heap_in : List ℕ → List ℕ → Heap
heap_in a r = view (arena_words a) (words_of r)

unfoldable pub audit_call : List ℕ → List ℕ → Audited
audit_call a r = elim (shape? a r) [ true ↦ audit_of (arena_words a) (words_of r) | false ↦ Err A.Shape ]

-- ---- arena bytes, record bytes and answer after a call
pub data After : Type 0 where
  after : List ℕ → List ℕ → Answered → After

-- what a step leaves: the arena with its writes, the record of its heap
abbrev pub left : List ℕ → Heap → List Write → Answered → After
left a h ws x = after (bytes 8 (apply ws (arena_words a))) (bytes 4 (record_of h)) x

-- numbers 1 to 4 write nothing
abbrev pub refused : List ℕ → List ℕ → Refusal → After
refused a r x = after a r (Err x)

-- number 1, then number 3, then the call on the heap
abbrev pub on_sound : List ℕ → List ℕ → (Heap → After) → After
on_sound a r f = elim (shape? a r) [
  | true ↦ elim (sound? (audit_of (arena_words a) (words_of r))) [ true ↦ f (heap_in a r) | false ↦ refused a r R.Unsound ]
  | false ↦ refused a r R.Shape
]

-- ---- open. A refused one leaves length, counts, key and edition 0, all else none; a record not of 1,584 bytes is never written
unfoldable pub closed_record : List ℕ
closed_record = (0 ∷ none32 ∷ none32 ∷ []) ++ (replicate 64 none32 ++ (replicate 64 0 ++ (replicate 262 none32 ++ (halves 0 ++ 0 ∷ []))))

-- open, with the key q, in edition d, writes the length with P at byte 8; number 1, then number 12
unfoldable pub open_call : List ℕ → List ℕ → ℕ → ℕ → After
open_call a r q d = elim (eqb (length r) record_bytes) [
  | true ↦ elim (arena_allowed? (length a)) [
    | true ↦ elim (edition? d) [
      | true ↦ left a (opened (length a) q d) (size 0 (length a) 1 ∷ []) (Ok Done)
      | false ↦ after a (bytes 4 closed_record) (Err R.Edition)
    ]
    | false ↦ after a (bytes 4 closed_record) (Err R.Shape)
  ]
  | false ↦ refused a r R.Shape
]

-- ---- grant: numbers 1, 2, 3; number 5 leaves what the steps did before it
abbrev pub granted : List ℕ → Ran (Option ℕ) → After
granted a (ran h ws (Some c)) = left a h ws (Ok (Granted (mem_of c) (usable (size_of h c))))
granted a (ran h ws None) = left a h ws (Err R.NoRoom)

-- of good shape, number 2 comes before number 3
abbrev pub on_request : List ℕ → List ℕ → ℕ → (Heap → After) → After
on_request a r n f = elim (both (shape? a r) (ltb most_request n)) [ true ↦ refused a r R.Request | false ↦ on_sound a r f ]

unfoldable pub grant_call : List ℕ → List ℕ → ℕ → After
grant_call a r n = on_request a r n (λ h. granted a (grant (need n) h))

-- ---- release: numbers 1, 3, 4; null does nothing and succeeds
abbrev pub done : {A : Type 0} → List ℕ → Ran A → After
done a (ran h ws x) = left a h ws (Ok Done)

-- the call on the live block at mem m, or number 4
abbrev pub on_live : List ℕ → List ℕ → ℕ → Heap → After → After
on_live a r m h x = elim (both (leb 16 m) (live? h (chunk_of m))) [ true ↦ x | false ↦ refused a r R.NotLive ]

unfoldable pub release_call : List ℕ → List ℕ → ℕ → After
release_call a r m = on_sound a r (λ h. elim (eqb m 0) [ true ↦ after a r (Ok Done) | false ↦ on_live a r m h (done a (release (chunk_of m) h)) ])

-- ---- the two jobs, emptying and joining: numbers 1, 3
unfoldable pub job_call : (Heap → Ran (Unit {0})) → List ℕ → List ℕ → After
job_call f a r = on_sound a r (λ h. done a (f h))

abbrev pub emptying_call : List ℕ → List ℕ → After
emptying_call a r = job_call emptying a r

abbrev pub joining_call : List ℕ → List ℕ → After
joining_call a r = job_call joining a r

-- both, in that order; the first refusal is answered. So heaplog's S calls them
abbrev pub joined_after : After → After
joined_after (after a r (Ok Done)) = joining_call a r
joined_after (after a r (Ok (Granted m u))) = after a r (Ok (Granted m u))
joined_after (after a r (Err x)) = after a r (Err x)

-- ---- resize: null is a grant; else a new length of 0 is a release; else numbers 1, 2, 3, 4; number 5 leaves what the steps did before it
unfoldable pub resize_call : List ℕ → List ℕ → ℕ → ℕ → After
resize_call a r m n = elim (eqb m 0) [
  | true ↦ grant_call a r n
  | false ↦ elim (eqb n 0) [
    | true ↦ release_call a r m
    | false ↦ on_request a r n (λ h. on_live a r m h (granted a (resize (chunk_of m) (need n) h)))
  ]
]
