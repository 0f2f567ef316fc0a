-- What agrees after the same events in two arenas: every answer, the records but for a part, the blocks held, and each byte that a holder has written and a live
-- block has held ever since. Definitions only; that it holds of heaps that are alike stands in AgreesHold.
use Rattle.std.specs.Prelude.{◌≡◌, List, [], ◌∷◌, true, false, ℕ, ◌+◌, ◌-◌, ◌≤◌, ltb, get_or, Ok, Err}
use Rattle.std.proofs.Math.ListN as L
use Rattle.machine.specs.Lists.{cnt}
use Rattle.machine.specs.Calls.{resize_call, Answered}
use Rattle.machine.specs.declared.Answer.TheVariants.{Done, Granted}
use Rattle.machine.specs.declared.HeapAnswer.{HeapAnswer}
use Rattle.history.specs.Histories.{Event, Grant, Release, Resize, Emptying, Joining, Store, Block, holds?, drop, State, state, arena_in, record_in, blocks_in, next, run, answer_of, answers}

-- ---- a record but for what is chosen at an open, key and edition, which are its last 12 bytes; and but for all that an open gives: the length too, which is its
-- first 4
abbrev pub but_choice : List ℕ → List ℕ
but_choice r = L.take 1572 r

abbrev pub but_given : List ℕ → List ℕ
but_given r = L.drop 4 (but_choice r)

-- ---- the offsets that holders have written and live blocks have held ever since. After an event they are those from before it and the one that is stored now, as
-- far as blocks held still have them
abbrev pub still : List Block → List ℕ → List ℕ
still bs [] = []
still bs (p ∷ ps) = elim (holds? bs p) [ true ↦ p ∷ still bs ps | false ↦ still bs ps ]

-- after a resize of the block at m, which then stands at k with u usable bytes; bs: the other blocks. An offset in another block stays, and one in the resized block goes
-- with its byte, if that is among the u
abbrev pub along : ℕ → ℕ → ℕ → List Block → List ℕ → List ℕ
along m k u bs [] = []
along m k u bs (p ∷ ps) = elim (holds? bs p) [
  | true ↦ p ∷ along m k u bs ps
  | false ↦ elim (ltb (p - m) u) [ true ↦ (k + (p - m)) ∷ along m k u bs ps | false ↦ along m k u bs ps ]
]

-- (a resize that answers no block, refused or of length 0, moves none)
abbrev pub resized_by : ℕ → List Block → Answered → List ℕ → List ℕ
resized_by m bs (Ok Done) ps = ps
resized_by m bs (Ok (Granted k u)) ps = along m k u (drop m bs) ps
resized_by m bs (Err x) ps = ps

abbrev pub stored : Event → State → List ℕ → List ℕ
stored (Grant n) s ps = ps
stored (Release m) s ps = ps
stored (Resize m n) (state a r bs) ps = resized_by m bs (answer_of (resize_call a r m n)) ps
stored Emptying s ps = ps
stored Joining s ps = ps
stored (Store p v) s ps = p ∷ ps

unfoldable pub written : List Event → State → List ℕ → List ℕ
written [] s ps = ps
written (e ∷ es) s ps = written es (next e s) (still (blocks_in (next e s)) (stored e s ps))

-- ---- after the same events in both: every answer, the records but for a part, the blocks held, and each byte that its holder has written
pub record Agrees (but : List ℕ → List ℕ) (es : List Event) (s t : State) : Type 0 where
  pub told : answers es s ≡ answers es t
  pub records : but (record_in (run es s)) ≡ but (record_in (run es t))
  pub blocks : blocks_in (run es s) ≡ blocks_in (run es t)
  pub bytes : (p : ℕ) → 1 ≤ cnt p (written es s []) → get_or (arena_in (run es s)) p 0 ≡ get_or (arena_in (run es t)) p 0

-- ---- the same of what was performed by the exported calls: the numbers xs and ys, and the states t and u that they left
pub record AgreesPerformed (but : List ℕ → List ℕ) (es : List Event) (s : State) (xs ys : List HeapAnswer) (t u : State) : Type 0 where
  pub told : xs ≡ ys
  pub records : but (record_in t) ≡ but (record_in u)
  pub blocks : blocks_in t ≡ blocks_in u
  pub bytes : (p : ℕ) → 1 ≤ cnt p (written es s []) → get_or (arena_in t) p 0 ≡ get_or (arena_in u) p 0
