-- Histories as they are performed: an open, then calls for C one after the other, each result meeting the exported promise, and holders' stores in between.
-- What a caller has of them are the bytes and the three numbers, and by the numbers alone it knows which blocks it holds. Definitions only.
use Rattle.std.specs.Prelude.{◌≡◌, List, [], ◌∷◌, true, false, ℕ, eqb}
use Rattle.machine.specs.Calls.{After, open_call, grant_call, release_call, resize_call, emptying_call, joining_call}
use Rattle.machine.specs.declared.HeapAnswer.{HeapAnswer}
use Rattle.heap.specs.Exported.{back, numbered}
use Rattle.history.specs.Histories.{Event, Grant, Release, Resize, Emptying, Joining, Store, Block, drop, State, state, next, Choice}
use Rattle.history.specs.declared.Call.{Call}
use Rattle.history.specs.declared.Call.TheVariants as C

-- a call of the code, as the machine's and as an event
abbrev pub call_of : Call → List ℕ → List ℕ → After
call_of (C.Grant n) a r = grant_call a r n
call_of (C.Release m) a r = release_call a r m
call_of (C.Resize m n) a r = resize_call a r m n
call_of C.Emptying a r = emptying_call a r
call_of C.Joining a r = joining_call a r

abbrev pub event_of : Call → Event
event_of (C.Grant n) = Grant n
event_of (C.Release m) = Release m
event_of (C.Resize m n) = Resize m n
event_of C.Emptying = Emptying
event_of C.Joining = Joining

-- ---- the blocks that a caller holds, by the numbers of its calls. With number 0: the block of a grant comes, that of a release goes; that of a resize goes,
-- and the one answered comes, unless its mem is 0, which is none. With any other number, and by an emptying or a joining, nothing comes or goes
abbrev pub block_of : HeapAnswer → Block
block_of x = record { mem = x.mem; usable = x.usable }

abbrev pub changed : Call → HeapAnswer → List Block → List Block
changed (C.Grant n) x bs = block_of x ∷ bs
changed (C.Release m) x bs = drop m bs
changed (C.Resize m n) x bs = elim (eqb x.mem 0) [ true ↦ drop m bs | false ↦ block_of x ∷ drop m bs ]
changed C.Emptying x bs = bs
changed C.Joining x bs = bs

abbrev pub held_after : Call → HeapAnswer → List Block → List Block
held_after c x bs = elim (eqb x.no 0) [ true ↦ changed c x bs | false ↦ bs ]

-- ---- an open of bytes a and r, with the choice q, answered x and left s
pub data Began : List ℕ → List ℕ → Choice → HeapAnswer → State → Type 0 where
  began : {a r a' r' : List ℕ} {q : Choice} {x : HeapAnswer} → back a' r' x ≡ numbered (open_call a r q.key q.edition) → Began a r q x (state a' r' [])

-- ---- from one state to another by these events, with these numbers answered: each call's result meets its promise, and a holder's store is the history's
pub data Did : State → List Event → List HeapAnswer → State → Type 0 where
  none : {s : State} → Did s [] [] s
  called : (c : Call) (a r b q : List ℕ) (bs : List Block) (x : HeapAnswer) {es : List Event} {xs : List HeapAnswer} {t : State}
      → back b q x ≡ numbered (call_of c a r) → Did (state b q (held_after c x bs)) es xs t → Did (state a r bs) (event_of c ∷ es) (x ∷ xs) t
  stored : (p v : ℕ) (s : State) {es : List Event} {xs : List HeapAnswer} {t : State} → Did (next (Store p v) s) es xs t → Did s (Store p v ∷ es) xs t
