-- In a run no call is refused for shape or soundness, an audit finds no fault, an emptying and a joining are never refused, and a release exactly of what is
-- not held: the live blocks are those granted and not yet released. Read off what holds between events. Assumes nothing.
use Rattle.std.specs.Prelude.{◌≡◌, refl, List, [], ◌∷◌, ◌++◌, map, Bool, true, false, ℕ, ◌+◌, ◌-◌, ◌≤◌, eqb, leb, ltb, Option, Some, None, Ok, Err}
use Rattle.std.proofs.Common.{sym, ap, ◌∙◌, subst, ⊎_elim, arith, lt-ltb, ne_eqb, leb-true, leb-false}
use Rattle.le.specs.Arena.{arena_words}
use Rattle.sizes.specs.Sizes.{need}
use Rattle.machine.specs.Lists.{both, either, ind, cnt}
use Rattle.machine.specs.Heap.{Heap, starts, live?, total}
use Rattle.machine.specs.Writes.{Ran, ran}
use Rattle.machine.specs.Release.{release, emptying, joining}
use Rattle.machine.specs.Grant.{grant}
use Rattle.machine.specs.Resize.{resize}
use Rattle.machine.specs.Audit.{audit_of}
use Rattle.machine.specs.Calls as C
use Rattle.machine.specs.declared.Answer.TheVariants.{Done}
use Rattle.machine.specs.declared.Refusal.TheVariants as N
use Rattle.sound.specs.Tiles.{lt-or-le, zero_or}
use Rattle.sound.specs.Live.{loose-live}
use Rattle.audit.specs.Exact.{audit-complete}
use Rattle.history.specs.Histories.{Event, Grant, Release, Resize, Emptying, Joining, Store, Block, State, state, answer_of, answer_to, answers, numbers, next, run, Choice, Allowed, begin}
use Rattle.calls.specs.Ways.{audit-good}
use Rattle.calls_consequences.specs.Results.{Lent}
use Rattle.calls_consequences.specs.Left.{lent-shape}
use Rattle.history.specs.Demand3.{held?, LiveAt, AuditsAt, Fair, AllFair}
use Rattle.history.specs.Ready.{held_at, Ready, ReadyAt}
use Rattle.history.specs.Called.{grant-large, grant-called, release-called, job-called, Way, Null, Zero, Large, Dead, Through, way, resize_by, resize-called}
use Rattle.history.proofs.Runs.{begin-ready, next-ready, run-ready}
use Rattle.machine.specs.Calls.{Answered}

-- ---- live is held
held_none : (bs : List Block) (m : ℕ) → held_at m bs ≡ 0 → held? bs m ≡ false
held_none [] m e = refl
held_none (b ∷ bs) m e = go (eqb m b.mem) refl (λ k. held_none bs m k)
  where
    go : (t : Bool) → eqb m b.mem ≡ t → (held_at m bs ≡ 0 → held? bs m ≡ false) → either t (held? bs m) ≡ false
    go true q f = absurd (omega (arith, ap ind q))
    go false q f = f (omega arith)

held-some : (bs : List Block) (m : ℕ) → 1 ≤ held_at m bs → held? bs m ≡ true
held-some [] m e = absurd (omega (arith, e))
held-some (b ∷ bs) m e = go (eqb m b.mem) refl (λ k. held-some bs m k)
  where
    go : (t : Bool) → eqb m b.mem ≡ t → (1 ≤ held_at m bs → held? bs m ≡ true) → either t (held? bs m) ≡ true
    go true q f = refl
    go false q f = f (omega (arith, ap ind q))

not_live : (h : Heap) (c : ℕ) → cnt c (starts h) ≡ total c h → live? h c ≡ false
not_live h c e = ⊎_elim
    (λ z. ap (λ (n : ℕ). both (ltb 0 n) (eqb (total c h) 0)) (e ∙ z))
    (λ z. ap (λ (t : Bool). both t (eqb (total c h) 0)) (lt-ltb 0 (cnt c (starts h)) (omega arith)) ∙ ne_eqb (total c h) 0 (λ q. omega arith))
    (zero_or (total c h))

pub ready-live : (s : State) → ReadyAt s → LiveAt s
ready-live (state a r bs) R = λ c. ⊎_elim
    (λ z. not_live (C.heap_in a r) c (omega (arith, R.holds.count c)) ∙ sym (held_none bs (c + 16) z))
    (λ z. loose-live (C.heap_in a r) c R.sound.good.shape (omega (arith, R.holds.count c)) ∙ sym (held-some bs (c + 16) z))
    (zero_or (held_at (c + 16) bs))

pub run-live : (a r : List ℕ) (q : Choice) → Lent a r → Allowed q → (es : List Event) → LiveAt (run es (begin a r q))
run-live a r q L k es = ready-live (run es (begin a r q)) (run-ready es (begin a r q) (begin-ready a r q L k))

-- ---- an audit finds no fault
pub ready-audits : (s : State) → ReadyAt s → AuditsAt s
ready-audits (state a r bs) R =
    ap C.fault_numbers
    (sym (audit-good a r (C.words_of r) (audit_of (arena_words a) (C.words_of r)) (lent-shape a r R.lent).1 refl refl)
    ∙ audit-complete (C.heap_in a r) (arena_words a) (C.words_of r) R.sound)

-- ---- no answer has number 1 or number 3
abbrev FairOf : C.After → Type 0
FairOf x = Fair (C.answer_numbers (answer_of x))

fair-got : (a : List ℕ) (x : Ran (Option ℕ)) → FairOf (C.granted a x)
fair-got a (ran g ws (Some c)) = record { shape = λ e. omega arith; sound = λ e. omega arith }
fair-got a (ran g ws None) = record { shape = λ e. omega arith; sound = λ e. omega arith }

pub done-answer : {A : Type 0} (a : List ℕ) (x : Ran A) → answer_of (C.done a x) ≡ Ok Done
done-answer a (ran g ws y) = refl

-- ---- the two jobs
job-done : (f : Heap → Ran (Unit {0})) (a r : List ℕ) (bs : List Block) → Ready a r bs → answer_of (C.job_call f a r) ∷ [] ≡ Ok Done ∷ []
job-done f a r bs R = ap (λ (x : C.After). answer_of x ∷ []) (job-called a r R.lent R.sound f) ∙ ap (λ (x : Answered). x ∷ []) (done-answer a (f (C.heap_in a r)))

emptying-done : (s : State) → ReadyAt s → answer_to Emptying s ≡ Ok Done ∷ []
emptying-done (state a r bs) R = job-done emptying a r bs R

joining-done : (s : State) → ReadyAt s → answer_to Joining s ≡ Ok Done ∷ []
joining-done (state a r bs) R = job-done joining a r bs R

done-numbers : (e : Event) (s : State) → answer_to e s ≡ Ok Done ∷ [] → numbers (e ∷ []) s ≡ record { no = 0; mem = 0; usable = 0 } ∷ []
unfolding numbers answers
done-numbers e s p = ap (λ (l : List Answered). map C.answer_numbers (l ++ [])) p

pub emptying-numbers : (s : State) → ReadyAt s → numbers (Emptying ∷ []) s ≡ record { no = 0; mem = 0; usable = 0 } ∷ []
emptying-numbers s R = done-numbers Emptying s (emptying-done s R)

pub joining-numbers : (s : State) → ReadyAt s → numbers (Joining ∷ []) s ≡ record { no = 0; mem = 0; usable = 0 } ∷ []
joining-numbers s R = done-numbers Joining s (joining-done s R)

-- a release answers by what is held
abbrev pub release_answer : List Block → ℕ → Answered
release_answer bs m = elim (either (eqb m 0) (held? bs m)) [ true ↦ Ok Done | false ↦ Err N.NotLive ]

pub release-answered : (a r : List ℕ) (bs : List Block) → Ready a r bs → (m : ℕ) → answer_of (C.release_call a r m) ≡ release_answer bs m
release-answered a r bs R m = ap answer_of (release-called a r R.lent R.sound m) ∙ null (eqb m 0) refl
  where
    chunk : (t : Bool) → leb 16 m ≡ t
        → answer_of (elim (both t (live? (C.heap_in a r) (m - 16))) [ true ↦ C.done a (release (m - 16) (C.heap_in a r)) | false ↦ C.refused a r N.NotLive ])
        ≡ elim (held? bs m) [ true ↦ Ok Done | false ↦ Err N.NotLive ]
    chunk true e = live (live? (C.heap_in a r) (m - 16)) refl
      where
        at : held? bs m ≡ live? (C.heap_in a r) (m - 16)
        at =
            let q : m - 16 + 16 ≡ m = omega (arith, leb-true 16 m e) in
            ap (held? bs) (sym q) ∙ sym (ready-live (state a r bs) R (m - 16))

        live : (t : Bool) → live? (C.heap_in a r) (m - 16) ≡ t
            → answer_of (elim t [ true ↦ C.done a (release (m - 16) (C.heap_in a r)) | false ↦ C.refused a r N.NotLive ])
            ≡ elim (held? bs m) [ true ↦ Ok Done | false ↦ Err N.NotLive ]
        live true q = done-answer a (release (m - 16) (C.heap_in a r)) ∙ sym (ap (λ (t : Bool). elim t [ true ↦ Ok Done | false ↦ Err N.NotLive ]) (at ∙ q))
        live false q = sym (ap (λ (t : Bool). elim t [ true ↦ Ok Done | false ↦ Err N.NotLive ]) (at ∙ q))
    chunk false e = sym (ap (λ (t : Bool). elim t [ true ↦ Ok Done | false ↦ Err N.NotLive ]) (held_none bs m (R.holds.low m (leb-false 16 m e))))

    null : (t : Bool) → eqb m 0 ≡ t → answer_of (elim t [
      | true ↦ C.after a r (Ok Done)
      | false ↦ elim (both (leb 16 m) (live? (C.heap_in a r) (m - 16))) [ true ↦ C.done a (release (m - 16) (C.heap_in a r)) | false ↦ C.refused a r N.NotLive ]
    ]) ≡ elim (either t (held? bs m)) [ true ↦ Ok Done | false ↦ Err N.NotLive ]
    null true e = refl
    null false e = chunk (leb 16 m) refl

fair-release : (bs : List Block) (m : ℕ) → Fair (C.answer_numbers (release_answer bs m))
fair-release bs m = go (either (eqb m 0) (held? bs m))
  where
    go : (t : Bool) → Fair (C.answer_numbers (elim t [ true ↦ Ok Done | false ↦ Err N.NotLive ]))
    go true = record { shape = λ e. omega arith; sound = λ e. omega arith }
    go false = record { shape = λ e. omega arith; sound = λ e. omega arith }

module _ (a r : List ℕ) (bs : List Block) (R : Ready a r bs) where
  grant-fair : (n : ℕ) → FairOf (C.grant_call a r n)
  grant-fair n = ⊎_elim
      (λ l. subst FairOf (sym (grant-large a r R.lent R.sound n l)) (record { shape = λ e. omega arith; sound = λ e. omega arith }))
      (λ l. subst FairOf (sym (grant-called a r R.lent R.sound n l)) (fair-got a (grant (need n) (C.heap_in a r))))
      (lt-or-le 262144 n)

  release-fair : (m : ℕ) → FairOf (C.release_call a r m)
  release-fair m = subst (λ (x : Answered). Fair (C.answer_numbers x)) (sym (release-answered a r bs R m)) (fair-release bs m)

  resize-fair : (m n : ℕ) → FairOf (C.resize_call a r m n)
  resize-fair m n =
      let w = way (C.heap_in a r) m n in
      subst FairOf (sym (resize-called a r R.lent R.sound m n w)) (go w)
    where
      go : (w : Way (C.heap_in a r) m n) → FairOf (resize_by a r m n w)
      go (Null z) = grant-fair n
      go (Zero z k) = release-fair m
      go (Large z k l) = record { shape = λ e. omega arith; sound = λ e. omega arith }
      go (Dead z k l v) = record { shape = λ e. omega arith; sound = λ e. omega arith }
      go (Through z k l v) = fair-got a (resize (m - 16) (need n) (C.heap_in a r))

abbrev AllFairOf : List Answered → Type 0
AllFairOf xs = AllFair (map C.answer_numbers xs)

done-fair : (e : Event) (s : State) → answer_to e s ≡ Ok Done ∷ [] → AllFairOf (answer_to e s)
done-fair e s p = subst AllFairOf (sym p) (record { shape = λ e. omega arith; sound = λ e. omega arith }, tt)

next-fair : (e : Event) (s : State) → ReadyAt s → AllFairOf (answer_to e s)
next-fair (Grant n) (state a r bs) R = (grant-fair a r bs R n, tt)
next-fair (Release m) (state a r bs) R = (release-fair a r bs R m, tt)
next-fair (Resize m n) (state a r bs) R = (resize-fair a r bs R m n, tt)
next-fair Emptying s R = done-fair Emptying s (emptying-done s R)
next-fair Joining s R = done-fair Joining s (joining-done s R)
next-fair (Store p v) (state a r bs) R = tt

fair-append : (xs ys : List Answered) → AllFairOf xs → AllFairOf ys → AllFairOf (xs ++ ys)
fair-append [] ys p q = q
fair-append (x ∷ xs) ys p q = (p.0, fair-append xs ys p.1 q)

answers-fair : (es : List Event) (s : State) → ReadyAt s → AllFairOf (answers es s)
unfolding answers
answers-fair [] s R = tt
answers-fair (e ∷ es) s R = fair-append (answer_to e s) (answers es (next e s)) (next-fair e s R) (answers-fair es (next e s) (next-ready e s R))

pub ready-fair : (es : List Event) (s : State) → ReadyAt s → AllFair (numbers es s)
unfolding numbers
ready-fair es s R = answers-fair es s R

-- ---- in every run
pub run-fair : (a r : List ℕ) (q : Choice) → Lent a r → Allowed q → (es : List Event) → AllFair (numbers es (begin a r q))
run-fair a r q L k es = ready-fair es (begin a r q) (begin-ready a r q L k)
