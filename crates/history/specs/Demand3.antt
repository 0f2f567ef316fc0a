-- Demand 3, stated of offsets, bytes and numbers: what is free after an emptying and, with no grant, release or resize between, a joining; which blocks are
-- live, what an emptied heap is, and all of it of what was performed (Demand). Definitions only; that it holds of every history stands in Theorem.
use Rattle.std.specs.Prelude.{◌≡◌, List, [], ◌∷◌, Bool, false, ◌⊎◌, ℕ, ◌+◌, ◌-◌, ◌≤◌, ◌<◌, eqb, length}
use Rattle.le.specs.Number.{number}
use Rattle.machine.specs.Lists.{either}
use Rattle.machine.specs.Heap.{binned, live?}
use Rattle.machine.specs.Calls.{heap_in, audit_call, fault_numbers}
use Rattle.machine.specs.declared.HeapAnswer.{HeapAnswer}
use Rattle.calls_consequences.specs.Results.{Lent}
use Rattle.history.specs.Histories.{Event, Grant, Release, Resize, Emptying, Joining, Store, Block, State, state, record_in, blocks_in, Choice, Allowed}
use Rattle.history.specs.Performed.{Began, Did}
use Rattle.history.specs.Agrees.{but_choice}

-- offset x lies in the chunk of the block b: its header and all its usable bytes but the last eight, which are the next chunk's previous size
abbrev pub In : Block → ℕ → Type 0
In b x = (b.mem ≤ x + 16) × (x + 8 < b.mem + b.usable)

-- x lies in the chunk of a held block
pub data Held : List Block → ℕ → Type 0 where
  here : {b : Block} {bs : List Block} {x : ℕ} → In b x → Held (b ∷ bs) x
  there : {b : Block} {bs : List Block} {x : ℕ} → Held bs x → Held (b ∷ bs) x

-- an unbroken stretch of an arena of n bytes outside the held blocks: the offsets from f on and below e, at least one; it begins at the arena's start or
-- behind a held block, and ends at the arena's end or before one
pub record Stretch (bs : List Block) (n f e : ℕ) : Type 0 where
  pub some : f < e
  pub inside : e ≤ n
  pub clear : (y : ℕ) → f ≤ y → y < e → Held bs y → ⊥
  pub starts : (f ≡ 0) ⊎ ((1 ≤ f) × Held bs (f - 1))
  pub ends : (e ≡ n) ⊎ Held bs e

-- the stretch that x lies in
pub record Around (bs : List Block) (n x : ℕ) : Type 0 where
  pub from : ℕ
  pub to : ℕ
  pub low : from ≤ x
  pub high : x < to
  pub stretch : Stretch bs n from to

-- at f stands a free chunk of s bytes: its size word has that size, and it stands in the bins, once, and does not reach the end, or it is the record's top,
-- and does
pub record Free (a r : List ℕ) (f s : ℕ) : Type 0 where
  pub size : number 8 a (f + 8) ≡ s + 1
  pub kind : ((binned (heap_in a r) f ≡ 1) × (f + s < length a)) ⊎ ((number 4 r 4 ≡ f) × (f + s ≡ length a))

-- nothing is cut up: every byte outside the held blocks' chunks lies in a stretch, every stretch is one free chunk, and the last of them is the top
pub record Mended (a r : List ℕ) (bs : List Block) : Type 0 where
  pub all : (x : ℕ) → x < length a → (Held bs x → ⊥) → Around bs (length a) x
  pub each : (f e : ℕ) → Stretch bs (length a) f e → Free a r f (e - f)
  pub last : Stretch bs (length a) (number 4 r 4) (length a)

abbrev pub MendedAt : State → Type 0
MendedAt (state a r bs) = Mended a r bs

-- a block at mem m is held
abbrev pub held? : List Block → ℕ → Bool
held? [] m = false
held? (b ∷ bs) m = either (eqb m b.mem) (held? bs m)

-- the live blocks, as the bytes tell them, are those held, as the history tells it
abbrev pub LiveAt : State → Type 0
LiveAt (state a r bs) = (c : ℕ) → live? (heap_in a r) c ≡ held? bs (c + 16)

-- an audit answers 0, 0, 0: sound
abbrev pub AuditsAt : State → Type 0
AuditsAt (state a r bs) = fault_numbers (audit_call a r) ≡ record { no = 0; kind = 0; number = 0 }

-- ---- three numbers of which the first is neither 1, a bad shape, nor 3, an unsound heap
pub record Fair (x : HeapAnswer) : Type 0 where
  pub shape : x.no ≡ 1 → ⊥
  pub sound : x.no ≡ 3 → ⊥

abbrev pub AllFair : List HeapAnswer → Type 0
AllFair [] = Unit {0}
AllFair (x ∷ xs) = Fair x × AllFair xs

-- success, and no block
abbrev pub Zeros : HeapAnswer → Type 0
Zeros x = x ≡ record { no = 0; mem = 0; usable = 0 }

-- ---- what may stand between an emptying and its joining: no grant, release or resize, refused or not. Further emptyings and joinings may, and holders' stores
abbrev pub Between : Event → Type 0
Between (Grant n) = ⊥
Between (Release m) = ⊥
Between (Resize m n) = ⊥
Between Emptying = Unit {0}
Between Joining = Unit {0}
Between (Store p v) = Unit {0}

abbrev pub Quiet : List Event → Type 0
Quiet [] = Unit {0}
Quiet (e ∷ es) = Between e × Quiet es

-- ---- a state is as a newly opened arena of n bytes: whatever bytes b and r were opened, o, with whatever key and in either edition, q, the same events performed on
-- both are answered with the same numbers and leave the same record but for what was chosen, none (the record that there is), one or many
pub record New (n : ℕ) (s : State) : Type 0 where
  pub told : (b r : List ℕ) (q : Choice) (x : HeapAnswer) (o : State) → Lent b r → Allowed q → length b ≡ n → Began b r q x o
      → (es : List Event) (xs ys : List HeapAnswer) (t u : State) → Did s es xs t → Did o es ys u → xs ≡ ys
  pub recs : (b r : List ℕ) (q : Choice) (x : HeapAnswer) (o : State) → Lent b r → Allowed q → length b ≡ n → Began b r q x o
      → (es : List Event) (xs ys : List HeapAnswer) (t u : State) → Did s es xs t → Did o es ys u → but_choice (record_in t) ≡ but_choice (record_in u)

-- ---- demand 3 of a history that was performed on an arena of n bytes: the open answered x, the calls xs and it left t; then an emptying answered y; then,
-- with no grant, release or resize between, calls answered ys and it left v; then a joining answered z and left w. No call is refused for shape or soundness,
-- an audit finds no fault, the live blocks are those granted and not yet released (a resized block is both), emptying and joining are not refused, between
-- them an audit finds no fault either, and the joining leaves nothing cut up and, where no block is held, a new heap
pub record Demand (n : ℕ) (x : HeapAnswer) (xs : List HeapAnswer) (t : State) (y : HeapAnswer) (ys : List HeapAnswer) (v : State) (z : HeapAnswer) (w : State) : Type 0 where
  pub opens : Zeros x
  pub fair : AllFair xs
  pub audits : AuditsAt t
  pub live : LiveAt t
  pub empties : Zeros y
  pub between : AllFair ys
  pub halfway : AuditsAt v
  pub joins : Zeros z
  pub mended : MendedAt w
  pub emptied : blocks_in w ≡ [] → New n w
