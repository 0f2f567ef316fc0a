-- Demand 3 holds of every history that is performed by the exported calls: nothing stays cut up, and an emptied heap is a new one. What is performed is a run
-- (PerformedRuns), and the files before have each part of runs. Assumes nothing.
use Rattle.std.specs.Prelude.{◌≡◌, List, [], ◌∷◌, ◌++◌, ℕ, length}
use Rattle.std.proofs.Common.{sym, ap, ◌∙◌, subst}
use Rattle.machine.specs.declared.HeapAnswer.{HeapAnswer}
use Rattle.calls_consequences.specs.Results.{Lent}
use Rattle.history.specs.Histories.{Event, Emptying, Joining, State, blocks_in, run, numbers, Choice, Allowed, begin}
use Rattle.history.specs.Performed.{Began, Did}
use Rattle.history.specs.Demand3.{AllFair, LiveAt, MendedAt, Quiet, New, Demand}
use Rattle.history.specs.Ready.{ReadyAt}
use Rattle.history.proofs.Runs.{run-ready}
use Rattle.history.proofs.Sure.{ready-audits, ready-fair, run-fair, run-live, emptying-numbers, joining-numbers}
use Rattle.history.proofs.Calm.{run-append, then_joined, run-mended}
use Rattle.history.specs.Agrees.{but_choice, AgreesPerformed}
use Rattle.history.proofs.Alike.{Alike, ButChoice, Any, butchoice-steady, any-always}
use Rattle.history.proofs.RecordBytes.{records-choice}
use Rattle.history.proofs.AgreesHold.{alike-performed}
use Rattle.history.proofs.Emptied.{emptied-alike}
use Rattle.history.proofs.PerformedRuns.{began-is, began-zeros, began-ready, did-run, did-numbers}

abbrev head_of : HeapAnswer → List HeapAnswer → HeapAnswer
head_of y [] = y
head_of y (x ∷ xs) = x

module _ (a r : List ℕ) (q : Choice) (x : HeapAnswer) (s : State) (L : Lent a r) (k : Allowed q) (B : Began a r q x s) (es : List Event) (xs : List HeapAnswer) (t : State) (D : Did s es xs t)
    (y : HeapAnswer) (u : State) (E : Did t (Emptying ∷ []) (y ∷ []) u) (fs : List Event) (Q : Quiet fs) (ys : List HeapAnswer) (v : State) (F : Did u fs ys v)
    (z : HeapAnswer) (w : State) (J : Did v (Joining ∷ []) (z ∷ []) w) where
  ready : ReadyAt s
  ready = began-ready L k B

  came : run es (begin a r q) ≡ t
  came = ap (run es) (sym (began-is B)) ∙ did-run ready D

  did-ready : {s t : State} {es : List Event} {xs : List HeapAnswer} → ReadyAt s → Did s es xs t → ReadyAt t
  did-ready {s} {es = es} R D = subst ReadyAt (did-run R D) (run-ready es s R)

  ready-t : ReadyAt t
  ready-t = did-ready ready D

  ready-u : ReadyAt u
  ready-u = did-ready ready-t E

  ready-v : ReadyAt v
  ready-v = did-ready ready-u F

  ready-w : ReadyAt w
  ready-w = did-ready ready-v J

  joined : run (then_joined es fs) (begin a r q) ≡ w
  joined = run-append es (Emptying ∷ (fs ++ Joining ∷ [])) (begin a r q)
      ∙ ap (run (Emptying ∷ (fs ++ Joining ∷ []))) came
      ∙ run-append (Emptying ∷ []) (fs ++ Joining ∷ []) t
      ∙ ap (run (fs ++ Joining ∷ [])) (did-run ready-t E)
      ∙ run-append fs (Joining ∷ []) u
      ∙ ap (run (Joining ∷ [])) (did-run ready-u F)
      ∙ did-run ready-v J

  empty : blocks_in w ≡ [] → blocks_in (run (then_joined es fs) (begin a r q)) ≡ []
  empty e = ap blocks_in joined ∙ e

  agrees : blocks_in w ≡ [] → (b c : List ℕ) (p : Choice) (i : HeapAnswer) (o : State) → Lent b c → Allowed p → length b ≡ length a → Began b c p i o
      → (gs : List Event) (xs ys : List HeapAnswer) (t u : State) → Did w gs xs t → Did o gs ys u → AgreesPerformed but_choice gs w xs ys t u
  agrees e b c p i o M l n O gs xs ys t u G H =
      alike-performed (ButChoice p) Any (butchoice-steady p) but_choice (records-choice p) gs w o (any-always gs w o)
      (subst (λ (z : State). Alike (ButChoice p) z o) joined
      (subst (λ (z : State). Alike (ButChoice p) (run (then_joined es fs) (begin a r q)) z) (sym (began-is O)) (emptied-alike a r q L k es fs Q (empty e) b c p M l n)))
      ready-w (began-ready M l O) xs ys t u G H

  new : blocks_in w ≡ [] → New (length a) w
  new e = record {
    told = λ b c p i o M l n O gs xs ys t u G H. (agrees e b c p i o M l n O gs xs ys t u G H).told;
    recs = λ b c p i o M l n O gs xs ys t u G H. (agrees e b c p i o M l n O gs xs ys t u G H).records;
  }

  demand : Demand (length a) x xs t y ys v z w
  demand = record {
    opens = began-zeros L k B;
    fair = subst AllFair (ap (numbers es) (sym (began-is B)) ∙ did-numbers ready D) (run-fair a r q L k es);
    audits = ready-audits t ready-t;
    live = subst LiveAt came (run-live a r q L k es);
    empties = ap (head_of y) (sym (did-numbers ready-t E) ∙ emptying-numbers t ready-t);
    between = subst AllFair (did-numbers ready-u F) (ready-fair fs u ready-u);
    halfway = ready-audits v ready-v;
    joins = ap (head_of z) (sym (did-numbers ready-v J) ∙ joining-numbers v ready-v);
    mended = subst MendedAt joined (run-mended a r q L k es fs Q);
    emptied = new;
  }

-- ---- the theorem: an open of lent bytes with any key and in either edition, any events performed, and then an emptying and, with no grant, release or resize
-- between, a joining
pub demand3 : (a r : List ℕ) (q : Choice) (x : HeapAnswer) (s : State) → Lent a r → Allowed q → Began a r q x s → (es : List Event) (xs : List HeapAnswer) (t : State) → Did s es xs t
    → (y : HeapAnswer) (u : State) → Did t (Emptying ∷ []) (y ∷ []) u → (fs : List Event) → Quiet fs → (ys : List HeapAnswer) (v : State) → Did u fs ys v
    → (z : HeapAnswer) (w : State) → Did v (Joining ∷ []) (z ∷ []) w → Demand (length a) x xs t y ys v z w
demand3 a r q x s L k B es xs t D y u E fs Q ys v F z w J = demand a r q x s L k B es xs t D y u E fs Q ys v F z w J
