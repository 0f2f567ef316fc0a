-- The calls on bytes that are lent and sound: none is refused for shape or soundness, so each is its step on the heap that is read, and a resize one of its
-- ways. By the audit's completeness. Assumes nothing.
use Rattle.std.specs.Prelude.{◌≡◌, refl, List, [], ◌∷◌, Bool, ℕ, ◌-◌, ◌%◌, ◌≤◌, ◌<◌, eqb, ltb, leb, length, Ok}
use Rattle.std.proofs.Common.{sym, ◌∙◌, ⊎_elim}
use Rattle.std.proofs.Math.Path.{ap}
use Rattle.std.proofs.Math.Bool.{true, false}
use borrow.Author.Tests.{eq-eqb, le-leb, lt-ltb, le-ltb}
use Rattle.le.specs.Arena.{arena_words}
use Rattle.sizes.specs.Limits.{most_request}
use Rattle.sizes.specs.Sizes.{need}
use Rattle.machine.specs.Lists.{both}
use Rattle.machine.specs.Heap.{Heap, live?, opened}
use Rattle.machine.specs.Writes.{size, Ran}
use Rattle.machine.specs.Release.{release}
use Rattle.machine.specs.Grant.{grant}
use Rattle.machine.specs.Resize.{resize}
use Rattle.machine.specs.Audit.{sound?, audit_of}
use Rattle.machine.specs.Calls.{After, after, left, shape?, arena_allowed?, heap_in, words_of, on_sound, refused, granted, done, open_call, grant_call, release_call, resize_call, job_call}
use Rattle.machine.specs.declared.Refusal.TheVariants as R
use Rattle.machine.specs.declared.Answer.TheVariants.{Done}
use Rattle.sound.specs.Relation.{Sound}
use Rattle.sound.specs.Tiles.{lt-or-le}
use Rattle.audit.specs.Exact.{audit-complete}
use Rattle.calls.specs.Ways.{resize-null, resize-zero, resize-request, resize-dead, resize-live}
use Rattle.calls_consequences.specs.Results.{Lent}
use Rattle.calls_consequences.specs.Cases.{open-called}
use Rattle.history.specs.Histories.{Choice, Allowed}

pub lent-shape : (a r : List ℕ) → Lent a r → (eqb (length r) 1584 ≡ true) × (arena_allowed? (length a) ≡ true)
lent-shape a r L = (
  eq-eqb (length r) 1584 L.long,
  ap (λ (t : Bool). both t (both (leb 32 (length a)) (leb (length a) 262144))) (eq-eqb (length a % 16) 0 L.even)
      ∙ ap (λ (t : Bool). both t (leb (length a) 262144)) (le-leb 32 (length a) L.least) ∙ le-leb (length a) 262144 L.most,
)

shape-both : (a r : List ℕ) → Lent a r → shape? a r ≡ true
shape-both a r L = let s = lent-shape a r L in ap (λ (t : Bool). both t (arena_allowed? (length a))) s.0 ∙ s.1

if : (t : Bool) (x y : After) → After
if t x y = elim t [ true ↦ x | false ↦ y ]

pub open_lent : (a r : List ℕ) (q : Choice) → Lent a r → Allowed q
    → open_call a r q.key q.edition ≡ left a (opened (length a) q.key q.edition) (size 0 (length a) 1 ∷ []) (Ok Done)
open_lent a r q L k = sym (open-called a r q.key q.edition L k.edition)

-- ---- the ways through a resize of m to n on a heap h: null is a grant; else a new length of 0 is a release; else numbers 2 and 4; else its steps
pub data Way (h : Heap) (m n : ℕ) : Type 0 where
  Null : eqb m 0 ≡ true → Way h m n
  Zero : eqb m 0 ≡ false → eqb n 0 ≡ true → Way h m n
  Large : eqb m 0 ≡ false → eqb n 0 ≡ false → 262144 < n → Way h m n
  Dead : eqb m 0 ≡ false → eqb n 0 ≡ false → n ≤ 262144 → both (leb 16 m) (live? h (m - 16)) ≡ false → Way h m n
  Through : eqb m 0 ≡ false → eqb n 0 ≡ false → n ≤ 262144 → both (leb 16 m) (live? h (m - 16)) ≡ true → Way h m n

pub way : (h : Heap) (m n : ℕ) → Way h m n
way h m n = null (eqb m 0) refl
  where
    live : eqb m 0 ≡ false → eqb n 0 ≡ false → n ≤ 262144 → (t : Bool) → both (leb 16 m) (live? h (m - 16)) ≡ t → Way h m n
    live z k l true v = Through z k l v
    live z k l false v = Dead z k l v

    zero : eqb m 0 ≡ false → (t : Bool) → eqb n 0 ≡ t → Way h m n
    zero z true k = Zero z k
    zero z false k = ⊎_elim (λ l. Large z k l) (λ l. live z k l (both (leb 16 m) (live? h (m - 16))) refl) (lt-or-le 262144 n)

    null : (t : Bool) → eqb m 0 ≡ t → Way h m n
    null true z = Null z
    null false z = zero z (eqb n 0) refl

-- what it comes to in each of them
abbrev pub resize_by : (a r : List ℕ) (m n : ℕ) → Way (heap_in a r) m n → After
resize_by a r m n (Null z) = grant_call a r n
resize_by a r m n (Zero z k) = release_call a r m
resize_by a r m n (Large z k l) = refused a r R.Request
resize_by a r m n (Dead z k l v) = refused a r R.NotLive
resize_by a r m n (Through z k l v) = granted a (resize (m - 16) (need n) (heap_in a r))

module _ (a r : List ℕ) (L : Lent a r) (S : Sound (heap_in a r) (arena_words a) (words_of r)) where
  pub sound-in : sound? (audit_of (arena_words a) (words_of r)) ≡ true
  sound-in = ap sound? (audit-complete (heap_in a r) (arena_words a) (words_of r) S)

  on-sound : (f : Heap → After) → on_sound a r f ≡ f (heap_in a r)
  unfolding if
  on-sound f =
      ap (λ (t : Bool). if t (if (sound? (audit_of (arena_words a) (words_of r))) (f (heap_in a r)) (refused a r R.Unsound)) (refused a r R.Shape)) (shape-both a r L)
      ∙ ap (λ (t : Bool). if t (f (heap_in a r)) (refused a r R.Unsound)) sound-in

  pub grant-large : (n : ℕ) → 262144 < n → grant_call a r n ≡ refused a r R.Request
  unfolding grant_call if
  grant-large n l =
      ap (λ (t : Bool). if t (refused a r R.Request) (on_sound a r (λ h. granted a (grant (need n) h))))
      (ap (λ (t : Bool). both t (ltb most_request n)) (shape-both a r L) ∙ lt-ltb most_request n l)

  pub grant-called : (n : ℕ) → n ≤ 262144 → grant_call a r n ≡ granted a (grant (need n) (heap_in a r))
  unfolding grant_call if
  grant-called n l =
      ap (λ (t : Bool). if t (refused a r R.Request) (on_sound a r (λ h. granted a (grant (need n) h))))
      (ap (λ (t : Bool). both t (ltb most_request n)) (shape-both a r L) ∙ le-ltb most_request n l)
      ∙ on-sound (λ h. granted a (grant (need n) h))

  pub release-called : (m : ℕ) → release_call a r m ≡ elim (eqb m 0) [
    | true ↦ after a r (Ok Done)
    | false ↦ elim (both (leb 16 m) (live? (heap_in a r) (m - 16))) [
      | true ↦ done a (release (m - 16) (heap_in a r))
      | false ↦ refused a r R.NotLive
    ]
  ]
  unfolding release_call
  release-called m = on-sound (λ h. elim (eqb m 0) [
    | true ↦ after a r (Ok Done)
    | false ↦ elim (both (leb 16 m) (live? h (m - 16))) [
      | true ↦ done a (release (m - 16) h)
      | false ↦ refused a r R.NotLive
    ]
  ])

  pub job-called : (f : Heap → Ran (Unit {0})) → job_call f a r ≡ done a (f (heap_in a r))
  unfolding job_call
  job-called f = on-sound (λ h. done a (f h))

  pub resize-called : (m n : ℕ) (w : Way (heap_in a r) m n) → resize_call a r m n ≡ resize_by a r m n w
  resize-called m n (Null z) = sym (resize-null a r m n z)
  resize-called m n (Zero z k) = sym (resize-zero a r m n z k)
  resize-called m n (Large z k l) = sym (resize-request a r m n z k (shape-both a r L) (lt-ltb most_request n l))
  resize-called m n (Dead z k l v) = sym (resize-dead a r m n z k (shape-both a r L) (le-ltb most_request n l) sound-in v)
  resize-called m n (Through z k l v) = sym (resize-live a r m n z k (shape-both a r L) (le-ltb most_request n l) sound-in v)
