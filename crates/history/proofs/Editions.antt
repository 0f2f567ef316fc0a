-- Document 02, (xi) and (viii): the same calls and holders' writes on two newly opened arenas of one length, each in either edition and with any key, over any
-- contents, give the same answers and the same written bytes, resizes included; an instance of the relation that the emptied heap uses. Assumes nothing.
use Rattle.std.specs.Prelude.{◌≡◌, List, ℕ, length}
use Rattle.std.proofs.Common.{sym, ap, ◌∙◌, subst}
use Rattle.machine.specs.Heap.{opened}
use Rattle.machine.specs.declared.HeapAnswer.{HeapAnswer}
use Rattle.calls_consequences.specs.Results.{Lent}
use Rattle.history.specs.Histories.{Event, State, Choice, Allowed, begin}
use Rattle.history.specs.Performed.{Began, Did}
use Rattle.history.specs.Agrees.{but_choice, Agrees, AgreesPerformed}
use Rattle.history.proofs.PerformedRuns.{began-is, began-ready}
use Rattle.history.proofs.Runs.{begin-ready}
use Rattle.history.specs.Chosen.{with_choice}
use Rattle.history.proofs.Alike.{Alike, alike_of, ButChoice, Any, butchoice-steady, any-always}
use Rattle.history.proofs.RecordBytes.{records-choice}
use Rattle.history.proofs.AgreesHold.{alike-agrees, alike-performed}
use Rattle.history.proofs.Emptied.{begin-opened, begin-blocks}

module _ (a r a' r' : List ℕ) (q q' : Choice) (L : Lent a r) (L' : Lent a' r') (k : Allowed q) (k' : Allowed q') (same : length a ≡ length a') where
  first : Alike (ButChoice q') (begin a r q) (begin a' r' q')
  first = alike_of (ButChoice q') (begin a r q) (begin a' r' q')
      (begin-opened a' r' q' L' k' ∙ ap (λ (n : ℕ). opened n q'.key q'.edition) (sym same) ∙ ap (with_choice q') (sym (begin-opened a r q L k)))
      (begin-blocks a r q L k ∙ sym (begin-blocks a' r' q' L' k'))

  -- ---- of the calls on bytes: every answer, the records but for what was chosen, the blocks held, and each byte that a holder has written
  pub editions-agree : (es : List Event) → Agrees but_choice es (begin a r q) (begin a' r' q')
  editions-agree es =
      alike-agrees (ButChoice q') Any (butchoice-steady q') but_choice (records-choice q') es (begin a r q) (begin a' r' q') (any-always es (begin a r q) (begin a' r' q')) first
      (begin-ready a r q L k) (begin-ready a' r' q' L' k')

  -- ---- and of the exported calls
  pub editions-performed : (x x' : HeapAnswer) (s s' : State) → Began a r q x s → Began a' r' q' x' s' → (es : List Event) (xs ys : List HeapAnswer) (t u : State)
      → Did s es xs t → Did s' es ys u → AgreesPerformed but_choice es s xs ys t u
  editions-performed x x' s s' B B' es xs ys t u D D' =
      alike-performed (ButChoice q') Any (butchoice-steady q') but_choice (records-choice q') es s s' (any-always es s s')
      (subst (λ (z : State). Alike (ButChoice q') z s') (sym (began-is B)) (subst (λ (z : State). Alike (ButChoice q') (begin a r q) z) (sym (began-is B')) first))
      (began-ready L k B) (began-ready L' k' B') xs ys t u D D'
