-- What a step comes to: the heap after it, the fields it writes in order, its answer. Memory after a step is what its writes make of it. Definitions only.
use Rattle.std.specs.Prelude.{List, [], ◌∷◌, ◌++◌, Bool, true, ℕ, ◌+◌, ◌/◌, eqb, get_or, set, Option, Some, None}
use Rattle.machine.specs.Lists.{both}
use Rattle.machine.specs.Heap.{Heap}

infixl 10 ◌>>=◌
infixl 8 ◌or_else◌
-- a write of one field of the chunk c
pub data Write : Type 0 where
  size : ℕ → ℕ → ℕ → Write  -- c's size word: a size and P
  note : ℕ → ℕ → Write  -- c's previous size: the end size of the chunk before it
  link : ℕ → ℕ → Write  -- c's forward link in a cache or fast list
  fwd : ℕ → ℕ → Write  -- c's forward link in a bin
  back : ℕ → ℕ → Write  -- c's back link in a bin
  key : ℕ → ℕ → Write  -- c's second usable word in a cache list: the key, and 0 when c is taken
  skip_fwd : ℕ → ℕ → Write  -- c's forward skip link
  skip_back : ℕ → ℕ → Write  -- c's back skip link
  copy : ℕ → ℕ → ℕ → Write  -- c's usable word i: that of the chunk given second

-- whose field it is, which of its 8-byte words, and what goes there; only a copy asks what the words were
abbrev pub who : Write → ℕ
who (size c s p) = c
who (note c s) = c
who (link c x) = c
who (fwd c x) = c
who (back c x) = c
who (key c x) = c
who (skip_fwd c x) = c
who (skip_back c x) = c
who (copy c x i) = c

abbrev pub field : Write → ℕ
field (size c s p) = 1
field (note c s) = 0
field (link c x) = 2
field (fwd c x) = 2
field (back c x) = 3
field (key c x) = 3
field (skip_fwd c x) = 4
field (skip_back c x) = 5
field (copy c x i) = 2 + i

abbrev pub value : Write → List ℕ → ℕ
value (size c s p) w = s + p
value (note c s) w = s
value (link c x) w = x
value (fwd c x) w = x
value (back c x) w = x
value (key c x) w = x
value (skip_fwd c x) w = x
value (skip_back c x) w = x
value (copy c x i) w = get_or w (x / 8 + (2 + i)) 0

-- the arena's words after a write, and after several; whether the words are as writes would leave them
abbrev pub put : Write → List ℕ → List ℕ
put e w = set w (who e / 8 + field e) (value e w)

abbrev pub apply : List Write → List ℕ → List ℕ
apply [] w = w
apply (e ∷ es) w = apply es (put e w)

abbrev pub stand? : List Write → List ℕ → Bool
stand? [] w = true
stand? (e ∷ es) w = both (eqb (get_or w (who e / 8 + field e) 0) (value e w)) (stand? es w)

pub data Ran (A : Type 0) : Type 0 where
  ran : Heap → List Write → A → Ran A

abbrev pub heap_of : {A : Type 0} → Ran A → Heap
heap_of (ran h ws a) = h

abbrev pub writes : {A : Type 0} → Ran A → List Write
writes (ran h ws a) = ws

-- a step that answers nothing; a step with its answer replaced
abbrev pub does : Heap → List Write → Ran (Unit {0})
does h ws = ran h ws tt

abbrev pub giving : {A B : Type 0} → B → Ran A → Ran B
giving b (ran h ws a) = ran h ws b

-- one step, then another on the heap that it left: `h ← step; ..`
abbrev pub more : {A : Type 0} → List Write → Ran A → Ran A
more ws (ran h vs a) = ran h (ws ++ vs) a

abbrev pub ◌>>=◌ : {A B : Type 0} → Ran A → (Heap → Ran B) → Ran B
◌>>=◌ (ran h ws a) f = more ws (f h)

-- a step of grant that found nothing is followed by the next one
abbrev pub nothing : Heap → Ran (Option ℕ)
nothing h = ran h [] None

abbrev pub ◌or_else◌ : Ran (Option ℕ) → (Heap → Ran (Option ℕ)) → Ran (Option ℕ)
◌or_else◌ (ran h ws (Some c)) f = ran h ws (Some c)
◌or_else◌ (ran h ws None) f = more ws (f h)
