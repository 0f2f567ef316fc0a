-- An arena keeps its length in every run: no call writes outside it, and none makes it shorter. Assumes nothing.
use Rattle.std.specs.Prelude.{◌≡◌, refl, List, [], ◌∷◌, Bool, true, false, ℕ, ◌-◌, ◌%◌, eqb, leb, length, set, Option, Some, None, Ok}
use Rattle.std.proofs.Common.{ap, ◌∙◌, ⊎_elim, length-set}
use Rattle.sizes.specs.Sizes.{need}
use Rattle.machine.specs.Lists.{both}
use Rattle.machine.specs.Heap.{Heap, live?}
use Rattle.machine.specs.Writes.{Ran, ran, size}
use Rattle.machine.specs.Release.{release, emptying, joining}
use Rattle.machine.specs.Grant.{grant}
use Rattle.machine.specs.Resize.{resize}
use Rattle.machine.specs.Calls as C
use Rattle.machine.specs.declared.Answer.TheVariants.{Done}
use Rattle.machine.specs.declared.Refusal.TheVariants as N
use Rattle.sound.specs.Tiles.{lt-or-le}
use Rattle.history.specs.Histories.{Event, Grant, Release, Resize, Emptying, Joining, Store, Block, holds?, State, state, arena_in, granted, released, resized, kept, next, run, Choice, Allowed, begin}
use Rattle.calls_consequences.specs.Results.{Lent}
use Rattle.calls_consequences.specs.Left.{left-length}
use Rattle.history.specs.Ready.{Ready, ReadyAt}
use Rattle.history.specs.Called.{open_lent, grant-large, grant-called, release-called, job-called, Way, Null, Zero, Large, Dead, Through, way, resize_by, resize-called}
use Rattle.history.proofs.Runs.{resized-null, resized-zero, next-ready}

module _ (a r : List ℕ) (bs : List Block) (R : Ready a r bs) where
  granted-length : (x : Ran (Option ℕ)) → length (arena_in (granted bs (C.granted a x))) ≡ length a
  granted-length (ran g ws (Some c)) = left-length a r R.lent ws
  granted-length (ran g ws None) = left-length a r R.lent ws

  grant-length : (n : ℕ) → length (arena_in (granted bs (C.grant_call a r n))) ≡ length a
  grant-length n = ⊎_elim
      (λ l. ap (λ (x : C.After). length (arena_in (granted bs x))) (grant-large a r R.lent R.sound n l))
      (λ l. ap (λ (x : C.After). length (arena_in (granted bs x))) (grant-called a r R.lent R.sound n l) ∙ granted-length (grant (need n) (C.heap_in a r)))
      (lt-or-le 262144 n)

  released-length : {A : Type 0} (m : ℕ) (x : Ran A) → length (arena_in (released m bs (C.done a x))) ≡ length a
  released-length m (ran g ws y) = left-length a r R.lent ws

  release_length : (m : ℕ) → length (arena_in (released m bs (C.release_call a r m))) ≡ length a
  release_length m = ap (λ (x : C.After). length (arena_in (released m bs x))) (release-called a r R.lent R.sound m)
      ∙ null (eqb m 0) (both (leb 16 m) (live? (C.heap_in a r) (m - 16)))
    where
      null : (t u : Bool) → length (arena_in (released m bs (elim t [
        | true ↦ C.after a r (Ok Done)
        | false ↦ elim u [ true ↦ C.done a (release (m - 16) (C.heap_in a r)) | false ↦ C.refused a r N.NotLive ]
      ]))) ≡ length a
      null true u = refl
      null false true = released-length m (release (m - 16) (C.heap_in a r))
      null false false = refl

  resized-length : (m : ℕ) (x : Ran (Option ℕ)) → length (arena_in (resized m bs (C.granted a x))) ≡ length a
  resized-length m (ran g ws (Some c)) = left-length a r R.lent ws
  resized-length m (ran g ws None) = left-length a r R.lent ws

  resize-length : (m n : ℕ) → length (arena_in (resized m bs (C.resize_call a r m n))) ≡ length a
  resize-length m n =
      let w = way (C.heap_in a r) m n in
      ap (λ (x : C.After). length (arena_in (resized m bs x))) (resize-called a r R.lent R.sound m n w) ∙ go w
    where
      go : (w : Way (C.heap_in a r) m n) → length (arena_in (resized m bs (resize_by a r m n w))) ≡ length a
      go (Null z) = ap (λ (s : State). length (arena_in s)) (resized-null a r bs R m z (C.grant_call a r n)) ∙ grant-length n
      go (Zero z k) = ap (λ (s : State). length (arena_in s)) (resized-zero a r bs R m) ∙ release_length m
      go (Large z k l) = refl
      go (Dead z k l v) = refl
      go (Through z k l v) = resized-length m (resize (m - 16) (need n) (C.heap_in a r))

  kept-length : {A : Type 0} (x : Ran A) → length (arena_in (kept bs (C.done a x))) ≡ length a
  kept-length (ran g ws y) = left-length a r R.lent ws

  job-length : (f : Heap → Ran (Unit {0})) → length (arena_in (kept bs (C.job_call f a r))) ≡ length a
  job-length f = ap (λ (x : C.After). length (arena_in (kept bs x))) (job-called a r R.lent R.sound f) ∙ kept-length (f (C.heap_in a r))

  store_length : (p v : ℕ) (t : Bool) → length (arena_in (elim t [ true ↦ state (set a p (v % 256)) r bs | false ↦ state a r bs ])) ≡ length a
  store_length p v true = length-set a p (v % 256)
  store_length p v false = refl

next-length : (e : Event) (s : State) → ReadyAt s → length (arena_in (next e s)) ≡ length (arena_in s)
unfolding next
next-length (Grant n) (state a r bs) R = grant-length a r bs R n
next-length (Release m) (state a r bs) R = release_length a r bs R m
next-length (Resize m n) (state a r bs) R = resize-length a r bs R m n
next-length Emptying (state a r bs) R = job-length a r bs R emptying
next-length Joining (state a r bs) R = job-length a r bs R joining
next-length (Store p v) (state a r bs) R = store_length a r bs R p v (holds? bs p)

pub run_length : (es : List Event) (s : State) → ReadyAt s → length (arena_in (run es s)) ≡ length (arena_in s)
unfolding run
run_length [] s R = refl
run_length (e ∷ es) s R = run_length es (next e s) (next-ready e s R) ∙ next-length e s R

pub begin-length : (a r : List ℕ) (q : Choice) → Lent a r → Allowed q → length (arena_in (begin a r q)) ≡ length a
unfolding begin
begin-length a r q L k = ap (λ (x : C.After). length (arena_in (kept [] x))) (open_lent a r q L k) ∙ left-length a r L (size 0 (length a) 1 ∷ [])
