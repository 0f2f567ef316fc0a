-- Histories: any bytes, an open, then any calls, and holders that write in the usable bytes of blocks they hold. Over the calls on bytes themselves.
-- Definitions only.
use Rattle.std.specs.Prelude.{◌≡◌, List, [], ◌∷◌, ◌++◌, map, Bool, true, false, ℕ, ◌+◌, ◌%◌, ◌^◌, ◌<◌, eqb, ltb, leb, set, Ok, Err}
use Rattle.machine.specs.Lists.{both, either}
use Rattle.machine.specs.Heap.{Heap}
use Rattle.machine.specs.Audit.{edition?}
use Rattle.machine.specs.Calls.{After, after, answer_numbers, heap_in, open_call, grant_call, release_call, resize_call, emptying_call, joining_call, Answered}
use Rattle.machine.specs.declared.{HeapAnswer.HeapAnswer}
use Rattle.machine.specs.declared.Answer.TheVariants.{Done, Granted}

-- what happens: a call with any numbers, or a holder's write of a byte at an offset of the arena. A resize has a mem and the new length
pub data Event : Type 0 where
  Grant : ℕ → Event
  Release : ℕ → Event
  Resize : ℕ → ℕ → Event
  Emptying : Event
  Joining : Event
  Store : ℕ → ℕ → Event

-- a block that was granted and not yet released: its mem and its usable bytes
pub record Block : Type 0 where
  pub mem : ℕ
  pub usable : ℕ

abbrev pub usable_at? : ℕ → Block → Bool
usable_at? p b = both (leb b.mem p) (ltb p (b.mem + b.usable))

-- offset p is a usable byte of one of the blocks
abbrev pub holds? : List Block → ℕ → Bool
holds? [] p = false
holds? (b ∷ bs) p = either (usable_at? p b) (holds? bs p)

-- the blocks without the one at mem m
abbrev pub drop : ℕ → List Block → List Block
drop m [] = []
drop m (b ∷ bs) = elim (eqb m b.mem) [ true ↦ bs | false ↦ b ∷ drop m bs ]

-- arena bytes, record bytes, and the blocks held
pub data State : Type 0 where
  state : List ℕ → List ℕ → List Block → State

abbrev pub arena_in : State → List ℕ
arena_in (state a r bs) = a

abbrev pub record_in : State → List ℕ
record_in (state a r bs) = r

abbrev pub blocks_in : State → List Block
blocks_in (state a r bs) = bs

-- the heap that its bytes spell
abbrev pub heap_at : State → Heap
heap_at (state a r bs) = heap_in a r

abbrev pub granted : List Block → After → State
granted bs (after a r (Ok Done)) = state a r bs
granted bs (after a r (Ok (Granted m u))) = state a r (record { mem = m; usable = u } ∷ bs)
granted bs (after a r (Err x)) = state a r bs

abbrev pub released : ℕ → List Block → After → State
released m bs (after a r (Ok Done)) = state a r (drop m bs)
released m bs (after a r (Ok (Granted n u))) = state a r bs
released m bs (after a r (Err x)) = state a r bs

-- a resized block is dropped and the one granted is held instead, moved or not. (Null drops none: no block is held at mem 0)
abbrev pub resized : ℕ → List Block → After → State
resized m bs (after a r (Ok Done)) = state a r (drop m bs)
resized m bs (after a r (Ok (Granted k u))) = state a r (record { mem = k; usable = u } ∷ drop m bs)
resized m bs (after a r (Err x)) = state a r bs

-- the blocks held are kept
abbrev pub kept : List Block → After → State
kept bs (after a r x) = state a r bs

-- one event. A store outside the usable bytes of held blocks is no holder's, and does not happen
unfoldable pub next : Event → State → State
next (Grant n) (state a r bs) = granted bs (grant_call a r n)
next (Release m) (state a r bs) = released m bs (release_call a r m)
next (Resize m n) (state a r bs) = resized m bs (resize_call a r m n)
next Emptying (state a r bs) = kept bs (emptying_call a r)
next Joining (state a r bs) = kept bs (joining_call a r)
next (Store p v) (state a r bs) = elim (holds? bs p) [ true ↦ state (set a p (v % 256)) r bs | false ↦ state a r bs ]

unfoldable pub run : List Event → State → State
run [] s = s
run (e ∷ es) s = run es (next e s)

-- what the calls of a run answer, in order
abbrev pub answer_of : After → Answered
answer_of (after a r x) = x

abbrev pub answer_to : Event → State → List Answered
answer_to (Grant n) (state a r bs) = answer_of (grant_call a r n) ∷ []
answer_to (Release m) (state a r bs) = answer_of (release_call a r m) ∷ []
answer_to (Resize m n) (state a r bs) = answer_of (resize_call a r m n) ∷ []
answer_to Emptying (state a r bs) = answer_of (emptying_call a r) ∷ []
answer_to Joining (state a r bs) = answer_of (joining_call a r) ∷ []
answer_to (Store p v) (state a r bs) = []

unfoldable pub answers : List Event → State → List Answered
answers [] s = []
answers (e ∷ es) s = answer_to e s ++ answers es (next e s)

-- and as numbers
unfoldable pub numbers : List Event → State → List HeapAnswer
numbers es s = map answer_numbers (answers es s)

-- what is chosen at an open: the key and the edition
pub record Choice : Type 0 where
  pub key : ℕ
  pub edition : ℕ

-- a choice that an open takes: a key of 64 bits, and one of the two editions
pub record Allowed (q : Choice) : Type 0 where
  pub key : q.key < 2 ^ 64
  pub edition : edition? q.edition ≡ true

-- a newly opened arena, over any bytes and with the choice q: no block is held
unfoldable pub begin : List ℕ → List ℕ → Choice → State
begin a r q = kept [] (open_call a r q.key q.edition)
