-- What meets the exported promises comes to the run of the same events: the blocks that a caller holds by the numbers are the history's, for a grant with
-- number 0 answers a block, a release none, and a resize one exactly if its mem is not 0. And every run can be performed so. Assumes nothing.
use Rattle.std.specs.Prelude.{◌≡◌, refl, List, [], ◌∷◌, Bool, true, false, ℕ, ◌+◌, eqb}
use Rattle.std.proofs.Common.{sym, ap, ◌∙◌, subst, arith, ne_eqb}
use Rattle.machine.specs.Calls.{After, after, answer_numbers, open_call, grant_call, release_call, resize_call, emptying_call, joining_call, Answered}
use Rattle.machine.specs.declared.HeapAnswer.{HeapAnswer}
use Rattle.calls_consequences.specs.Results.{Lent, arena_left, record_left}
use Rattle.calls_consequences.specs.Cases.{grant-cases, release-cases, resize-cases}
use Rattle.heap.specs.Exported.{Back, back, numbered, numbers_back}
use Rattle.history.specs.Histories.{Event, Grant, Release, Resize, Emptying, Joining, Store, Block, drop, State, state, granted, released, resized, kept, next, run, answer_of, answer_to, answers, numbers, Choice, Allowed, begin}
use Rattle.history.specs.Performed.{call_of, event_of, changed, held_after, Began, began, Did, none, called, stored}
use Rattle.history.specs.Demand3.{Zeros}
use Rattle.history.specs.Ready.{Ready, ReadyAt}
use Rattle.history.specs.Called.{open_lent}
use Rattle.history.proofs.Runs.{begin-ready, next-ready}
use Rattle.history.specs.declared.Call.{Call}
use Rattle.history.specs.declared.Call.TheVariants as C

-- ---- the open
opened-state : Back → State
opened-state (back b q x) = state b q []

opened-is : (y : After) → opened-state (numbered y) ≡ kept [] y
unfolding opened-state
opened-is (after b q x) = refl

pub began-is : {a r : List ℕ} {q : Choice} {x : HeapAnswer} {s : State} → Began a r q x s → s ≡ begin a r q
unfolding opened-state begin
began-is {a} {r} {q} (began e) = ap opened-state e ∙ opened-is (open_call a r q.key q.edition)

pub began-zeros : {a r : List ℕ} {q : Choice} {x : HeapAnswer} {s : State} → Lent a r → Allowed q → Began a r q x s → Zeros x
began-zeros {a} {r} {q} L k (began e) = ap numbers_back e ∙ ap (λ (y : After). numbers_back (numbered y)) (open_lent a r q L k)

pub began-ready : {a r : List ℕ} {q : Choice} {x : HeapAnswer} {s : State} → Lent a r → Allowed q → Began a r q x s → ReadyAt s
began-ready {a} {r} {q} L k B = subst ReadyAt (sym (began-is B)) (begin-ready a r q L k)

-- ---- a call: what a caller holds after it
abbrev state_back : Call → List Block → Back → State
state_back c bs (back b q x) = state b q (held_after c x bs)

module _ (a r : List ℕ) (bs : List Block) (R : Ready a r bs) where
  grant-holds : (n : ℕ) → state_back (C.Grant n) bs (numbered (grant_call a r n)) ≡ granted bs (grant_call a r n)
  grant-holds n = grant-cases a r R.lent (λ y. state_back (C.Grant n) bs (numbered y) ≡ granted bs y) n
      (λ l. refl) (λ U. refl) (λ l S q. refl) (λ l S c q. refl)

  release-holds : (m : ℕ) → state_back (C.Release m) bs (numbered (release_call a r m)) ≡ released m bs (release_call a r m)
  release-holds m = release-cases a r R.lent (λ y. state_back (C.Release m) bs (numbered y) ≡ released m bs y) m
      (λ U. refl) (λ S z. refl) (λ S z d. refl) (λ S v. refl)

  -- a call that changes no block, whatever it answers
  kept-holds : (c : Call) → ((x : HeapAnswer) → changed c x bs ≡ bs) → (y : After) → state_back c bs (numbered y) ≡ kept bs y
  kept-holds c e (after b q x) = ap (state b q) (go (eqb (answer_numbers x).no 0))
    where
      go : (t : Bool) → ◌≡◌ {A = List Block} (elim t [ true ↦ changed c (answer_numbers x) bs | false ↦ bs ]) bs
      go true = e (answer_numbers x)
      go false = refl

  -- no block has mem 0
  block-holds : (b q : List ℕ) (c u : ℕ) (cs : List Block)
      → state b q (elim (eqb (c + 16) 0) [ true ↦ cs | false ↦ record { mem = c + 16; usable = u } ∷ cs ]) ≡ state b q (record { mem = c + 16; usable = u } ∷ cs)
  block-holds b q c u cs =
      ap (λ (t : Bool). state b q (elim t [ true ↦ cs | false ↦ record { mem = c + 16; usable = u } ∷ cs ])) (ne_eqb (c + 16) 0 (λ e. omega arith))

  resize-holds : (m n : ℕ) → state_back (C.Resize m n) bs (numbered (resize_call a r m n)) ≡ resized m bs (resize_call a r m n)
  resize-holds m n = resize-cases a r R.lent (λ y. state_back (C.Resize m n) bs (numbered y) ≡ resized m bs y) m n
      (λ z. grant-cases a r R.lent (λ y. state_back (C.Resize m n) bs (numbered y) ≡ resized m bs y) n
      (λ l. refl) (λ U. refl) (λ l S q. refl) (λ l S c q. block-holds _ _ c _ (drop m bs)))
      (λ z k. release-cases a r R.lent (λ y. state_back (C.Resize m n) bs (numbered y) ≡ resized m bs y) m
      (λ U. refl) (λ S z. refl) (λ S z d. refl) (λ S v. refl))
      (λ z l. refl) (λ z k U. refl) (λ z k S d. refl) (λ k l S v q. refl) (λ k l S v c q. block-holds _ _ c _ (drop m bs))

  -- it is what the history holds
  holds-next : (c : Call) → state_back c bs (numbered (call_of c a r)) ≡ next (event_of c) (state a r bs)
  unfolding next
  holds-next (C.Grant n) = grant-holds n
  holds-next (C.Release m) = release-holds m
  holds-next (C.Resize m n) = resize-holds m n
  holds-next C.Emptying = kept-holds C.Emptying (λ x. refl) (emptying_call a r)
  holds-next C.Joining = kept-holds C.Joining (λ x. refl) (joining_call a r)

  pub call_next : (c : Call) (b q : List ℕ) (x : HeapAnswer) → back b q x ≡ numbered (call_of c a r) → state b q (held_after c x bs) ≡ next (event_of c) (state a r bs)
  call_next c b q x e = ap (state_back c bs) e ∙ holds-next c

  answer-next : (c : Call) → answer_to (event_of c) (state a r bs) ≡ answer_of (call_of c a r) ∷ []
  answer-next (C.Grant n) = refl
  answer-next (C.Release m) = refl
  answer-next (C.Resize m n) = refl
  answer-next C.Emptying = refl
  answer-next C.Joining = refl

result-is : (y : After) → back (arena_left y) (record_left y) (answer_numbers (answer_of y)) ≡ numbered y
result-is (after b q x) = refl

-- the numbers of a run, from its first event on
numbers_more : (e : Event) (s : State) (es : List Event) {y : Answered} → answer_to e s ≡ y ∷ [] → numbers (e ∷ es) s ≡ answer_numbers y ∷ numbers es (next e s)
unfolding numbers answers
numbers_more e s es p = rw p

numbers-stored : (p v : ℕ) (s : State) (es : List Event) → numbers (Store p v ∷ es) s ≡ numbers es (next (Store p v) s)
unfolding numbers answers
numbers-stored p v (state a r bs) es = refl

-- ---- what was performed is the run, and its numbers are the run's
pub did-run : {s t : State} {es : List Event} {xs : List HeapAnswer} → ReadyAt s → Did s es xs t → run es s ≡ t
unfolding run
did-run R none = refl
did-run R (called c a r b q bs x {es} e d) =
    let n : state b q (held_after c x bs) ≡ next (event_of c) (state a r bs) = call_next a r bs R c b q x e in
    ap (run es) (sym n) ∙ did-run (subst ReadyAt (sym n) (next-ready (event_of c) (state a r bs) R)) d
did-run R (stored p v s d) = did-run (next-ready (Store p v) s R) d

pub did-numbers : {s t : State} {es : List Event} {xs : List HeapAnswer} → ReadyAt s → Did s es xs t → numbers es s ≡ xs
unfolding numbers answers
did-numbers R none = refl
did-numbers R (called c a r b q bs x {es} e d) =
    let n : state b q (held_after c x bs) ≡ next (event_of c) (state a r bs) = call_next a r bs R c b q x e in
    let x' : x ≡ answer_numbers (answer_of (call_of c a r)) = ap numbers_back (e ∙ sym (result-is (call_of c a r))) in
    numbers_more (event_of c) (state a r bs) es (answer-next a r bs R c)
    ∙ ap (λ (k : HeapAnswer). k ∷ numbers es (next (event_of c) (state a r bs))) (sym x')
    ∙ ap (λ (l : List HeapAnswer). x ∷ l) (ap (numbers es) (sym n) ∙ did-numbers (subst ReadyAt (sym n) (next-ready (event_of c) (state a r bs) R)) d)
did-numbers R (stored p v s {es} d) = numbers-stored p v s es ∙ did-numbers (next-ready (Store p v) s R) d

-- ---- and every run can be performed, from its open on
pub begin-began : (a r : List ℕ) (q : Choice) → Began a r q (answer_numbers (answer_of (open_call a r q.key q.edition))) (begin a r q)
begin-began a r q =
    let y : After = open_call a r q.key q.edition in
    let B : Began a r q (answer_numbers (answer_of y)) (state (arena_left y) (record_left y) []) = began (result-is y) in
    subst (Began a r q (answer_numbers (answer_of y))) (began-is B) B

call-did : (c : Call) (es : List Event) (s t : State) → ReadyAt s → Did (next (event_of c) s) es (numbers es (next (event_of c) s)) t
    → Did s (event_of c ∷ es) (numbers (event_of c ∷ es) s) t
call-did c es (state a r bs) t R d =
    let y : After = call_of c a r in
    let n = call_next a r bs R c (arena_left y) (record_left y) (answer_numbers (answer_of y)) (result-is y) in
    subst (λ (l : List HeapAnswer). Did (state a r bs) (event_of c ∷ es) l t) (sym (numbers_more (event_of c) (state a r bs) es (answer-next a r bs R c)))
    (called c a r (arena_left y) (record_left y) bs (answer_numbers (answer_of y)) (result-is y)
    (subst (λ (s : State). Did s es (numbers es (next (event_of c) (state a r bs))) t) (sym n) d))

none-did : (s : State) → Did s [] (numbers [] s) s
unfolding numbers answers
none-did s = none

pub run-did : (es : List Event) (s : State) → ReadyAt s → Did s es (numbers es s) (run es s)
unfolding run
run-did [] s R = none-did s
run-did (Grant n ∷ es) s R = let t : State = next (Grant n) s in call-did (C.Grant n) es s (run es t) R (run-did es t (next-ready (Grant n) s R))
run-did (Release m ∷ es) s R = let t : State = next (Release m) s in call-did (C.Release m) es s (run es t) R (run-did es t (next-ready (Release m) s R))
run-did (Resize m n ∷ es) s R = let t : State = next (Resize m n) s in call-did (C.Resize m n) es s (run es t) R (run-did es t (next-ready (Resize m n) s R))
run-did (Emptying ∷ es) s R = let t : State = next Emptying s in call-did C.Emptying es s (run es t) R (run-did es t (next-ready Emptying s R))
run-did (Joining ∷ es) s R = let t : State = next Joining s in call-did C.Joining es s (run es t) R (run-did es t (next-ready Joining s R))
run-did (Store p v ∷ es) s R =
    let t : State = next (Store p v) s in
    subst (λ (l : List HeapAnswer). Did s (Store p v ∷ es) l (run es t)) (sym (numbers-stored p v s es)) (stored p v s (run-did es t (next-ready (Store p v) s R)))
