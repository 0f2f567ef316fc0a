-- Each way through a call is the machine's: one lemma for each refusal, and one for the call that goes through. Assumes nothing.
use Rattle.std.specs.Prelude.{◌≡◌, refl, Bool, true, false, List, ℕ, ◌+◌, ◌-◌, ◌%◌, ◌≤◌, ◌<◌, eqb, ltb, leb, length, get_or, Option, Some, None, Ok, Err}
use Rattle.std.proofs.Common.{sym, ap, ◌∙◌, eq-eqb, eqb-true, leb-true}
use Rattle.le.specs.Number.{bytes}
use Rattle.le.specs.Arena.{arena_words}
use Rattle.le.specs.ArenaLaws.{bytes-arena_words}
use Rattle.sizes.specs.Limits.{most_request, record_bytes}
use Rattle.sizes.specs.Sizes.{need, usable}
use Rattle.machine.specs.Lists.{both}
use Rattle.machine.specs.Heap.{Heap, size_of, live?}
use Rattle.machine.specs.Writes.{size, put, apply, Ran, ran, heap_of, writes}
use Rattle.machine.specs.Release.{release}
use Rattle.machine.specs.Grant.{grant}
use Rattle.machine.specs.Resize.{resize}
use Rattle.machine.specs.Audit.{sound?, audit_of, edition?, Audited}
use Rattle.machine.specs.Calls.{After, after, left, refused, shape?, arena_allowed?, words_of, heap_in, on_sound, on_request, on_live, open_call, granted, grant_call, done, release_call, resize_call, job_call, audit_call, Answered}
use Rattle.machine.specs.declared.Fault.TheVariants as A
use Rattle.machine.specs.declared.Refusal.TheVariants as R
use Rattle.machine.specs.declared.Answer.TheVariants.{Done, Granted}
use Rattle.primitives.specs.Follow.{answer, Gave}
use Rattle.sound.specs.Release.{both_true}
use Rattle.calls.specs.Blank.{blank, opened-blank, closed-blank}

-- bytes of a slice, a whole number of words
pub record Octets (a : List ℕ) : Type 0 where
  pub even : length a % 8 ≡ 0
  pub small : (i : ℕ) → get_or a i 0 < 256

-- what a followed step leaves in the two buffers
pub left_is : {A : Type 0} (a b q : List ℕ) (s : Ran A) (g : A) (x : Answered) → Octets b → Gave A s g (arena_words a) (arena_words b) q
    → after b (bytes 4 q) x ≡ left a (heap_of s) (writes s) x
left_is a b q s g x o m =
    ap (λ (l : List ℕ). after l (bytes 4 q) x) (sym (bytes-arena_words b o.even o.small) ∙ ap (bytes 8) m.bytes)
    ∙ ap (λ (l : List ℕ). after (bytes 8 (apply (writes s) (arena_words a))) (bytes 4 l) x) m.rec

-- the record is left as its words' bytes
pub kept : (b v q : List ℕ) (x : Answered) {y : After} → v ≡ bytes 4 q → after b (bytes 4 q) x ≡ y → after b v x ≡ y
kept b v q x e p = ap (λ (l : List ℕ). after b l x) e ∙ p

-- what an allowed length is
pub allowed-true : (n : ℕ) → arena_allowed? n ≡ true → (n % 16 ≡ 0) × (32 ≤ n) × (n ≤ 262144)
allowed-true n e =
    let p = both_true (eqb (n % 16) 0) (both (leb 32 n) (leb n 262144)) e in
    let q = both_true (leb 32 n) (leb n 262144) p.1 in
    (eqb-true (n % 16) 0 p.0, leb-true 32 n q.0, leb-true n 262144 q.1)

-- good shape
pub shape-true : (a r : List ℕ) → length r ≡ 1584 → arena_allowed? (length a) ≡ true → shape? a r ≡ true
shape-true a r e f = rw (eq-eqb (length r) 1584 e) f

-- and what it says
shape-parts : (a r : List ℕ) → shape? a r ≡ true → (eqb (length r) record_bytes ≡ true) × (arena_allowed? (length a) ≡ true)
shape-parts a r e = both_true (eqb (length r) record_bytes) (arena_allowed? (length a)) e

pub shape-long : (a r : List ℕ) → shape? a r ≡ true → length r ≡ 1584
shape-long a r e = eqb-true (length r) record_bytes (shape-parts a r e).0

pub shape-allowed : (a r : List ℕ) → shape? a r ≡ true → arena_allowed? (length a) ≡ true
shape-allowed a r e = (shape-parts a r e).1

-- ---- open
pub open-small : (a r : List ℕ) (q d : ℕ) → eqb (length r) record_bytes ≡ false → after a r (Err R.Shape) ≡ open_call a r q d
unfolding open_call
open-small a r q d e = rw (e, open_call)

pub open-refused : (a r : List ℕ) (q d : ℕ) → eqb (length r) record_bytes ≡ true → arena_allowed? (length a) ≡ false
    → after a (bytes 4 (blank 0 4294967295 0 0)) (Err R.Shape) ≡ open_call a r q d
unfolding open_call
open-refused a r q d e f = rw (e, open_call) (rw f (ap (λ (l : List ℕ). after a (bytes 4 l) (Err R.Shape)) (sym closed-blank)))

pub open-edition : (a r : List ℕ) (q d : ℕ) → eqb (length r) record_bytes ≡ true → arena_allowed? (length a) ≡ true → edition? d ≡ false
    → after a (bytes 4 (blank 0 4294967295 0 0)) (Err R.Edition) ≡ open_call a r q d
unfolding open_call
open-edition a r q d e f g = rw (e, open_call) (rw f (rw g (ap (λ (l : List ℕ). after a (bytes 4 l) (Err R.Edition)) (sym closed-blank))))

pub open_done : (a r b : List ℕ) (q d : ℕ) → eqb (length r) record_bytes ≡ true → arena_allowed? (length a) ≡ true → edition? d ≡ true → Octets b
    → arena_words b ≡ put (size 0 (length a) 1) (arena_words a) → after b (bytes 4 (blank (length a) 0 q d)) (Ok Done) ≡ open_call a r q d
unfolding open_call
open_done a r b q d e f g o p =
    rw (e, open_call) (rw f (rw g
    (ap (λ (l : List ℕ). after l (bytes 4 (blank (length a) 0 q d)) (Ok Done)) (sym (bytes-arena_words b o.even o.small) ∙ ap (bytes 8) p)
    ∙ ap (λ (l : List ℕ). after (bytes 8 (put (size 0 (length a) 1) (arena_words a))) (bytes 4 l) (Ok Done)) (sym (opened-blank (length a) q d)))))

-- ---- audit
pub audit-shape : (a r : List ℕ) → shape? a r ≡ false → Err A.Shape ≡ audit_call a r
unfolding audit_call
audit-shape a r e = ap (λ (t : Bool). elim t [ true ↦ audit_of (arena_words a) (words_of r) | false ↦ Err A.Shape ]) (sym e)

pub audit-good : (a r q : List ℕ) (x : Audited) → shape? a r ≡ true → q ≡ words_of r → x ≡ audit_of (arena_words a) q → x ≡ audit_call a r
unfolding audit_call
audit-good a r q x e p f =
    f ∙ ap (audit_of (arena_words a)) p ∙ ap (λ (t : Bool). elim t [ true ↦ audit_of (arena_words a) (words_of r) | false ↦ Err A.Shape ]) (sym e)

-- ---- numbers 1 and 3, of every call on a heap
pub on_shape : (a r : List ℕ) (f : Heap → After) → shape? a r ≡ false → refused a r R.Shape ≡ on_sound a r f
on_shape a r f e = rw (e, on_sound)

pub on-unsound : (a r : List ℕ) (f : Heap → After) → shape? a r ≡ true → sound? (audit_of (arena_words a) (words_of r)) ≡ false → refused a r R.Unsound ≡ on_sound a r f
on-unsound a r f e s = rw (e, on_sound) (rw s)

pub on-sound : (a r : List ℕ) (f : Heap → After) → shape? a r ≡ true → sound? (audit_of (arena_words a) (words_of r)) ≡ true → f (heap_in a r) ≡ on_sound a r f
on-sound a r f e s = rw (e, on_sound) (rw s)

-- ---- the two jobs
done-is : {A : Type 0} (a : List ℕ) (s : Ran A) → done a s ≡ left a (heap_of s) (writes s) (Ok Done)
done-is a (ran h ws x) = refl

module _ (f : Heap → Ran (Unit {0})) (a r : List ℕ) where
  pub job-shape : shape? a r ≡ false → after a r (Err R.Shape) ≡ job_call f a r
  unfolding job_call
  job-shape e = on_shape a r (λ h. done a (f h)) e

  pub job-unsound : shape? a r ≡ true → sound? (audit_of (arena_words a) (words_of r)) ≡ false → after a r (Err R.Unsound) ≡ job_call f a r
  unfolding job_call
  job-unsound e s = on-unsound a r (λ h. done a (f h)) e s

  pub job-sound : shape? a r ≡ true → sound? (audit_of (arena_words a) (words_of r)) ≡ true → done a (f (heap_in a r)) ≡ job_call f a r
  unfolding job_call
  job-sound e s = on-sound a r (λ h. done a (f h)) e s

  pub job-done : (b q : List ℕ) → shape? a r ≡ true → sound? (audit_of (arena_words a) (words_of r)) ≡ true → Octets b
      → Gave (Unit {0}) (f (heap_in a r)) tt (arena_words a) (arena_words b) q → after b (bytes 4 q) (Ok Done) ≡ job_call f a r
  job-done b q e s o m = left_is a b q (f (heap_in a r)) tt (Ok Done) o m ∙ sym (done-is a (f (heap_in a r))) ∙ job-sound e s

-- ---- numbers 1, 2 and 3, of every call with a request
both-no : (t : Bool) → both t false ≡ false
both-no true = refl
both-no false = refl

request-test : (a r : List ℕ) (n : ℕ) (f : Heap → After) (t : Bool) → both (shape? a r) (ltb most_request n) ≡ t
    → ◌≡◌ {A = After} (elim t [ true ↦ refused a r R.Request | false ↦ on_sound a r f ]) (on_request a r n f)
request-test a r n f t e = ap (λ (x : Bool). elim x [ true ↦ refused a r R.Request | false ↦ on_sound a r f ]) (sym e)

request-small : (a r : List ℕ) (n : ℕ) (f : Heap → After) → ltb most_request n ≡ false → on_sound a r f ≡ on_request a r n f
request-small a r n f l = request-test a r n f false (ap (both (shape? a r)) l ∙ both-no (shape? a r))

request-shape : (a r : List ℕ) (n : ℕ) (f : Heap → After) → shape? a r ≡ false → refused a r R.Shape ≡ on_request a r n f
request-shape a r n f e = on_shape a r f e ∙ request-test a r n f false (ap (λ (t : Bool). both t (ltb most_request n)) e)

request-large : (a r : List ℕ) (n : ℕ) (f : Heap → After) → shape? a r ≡ true → ltb most_request n ≡ true → refused a r R.Request ≡ on_request a r n f
request-large a r n f e l = request-test a r n f true (ap (λ (t : Bool). both t (ltb most_request n)) e ∙ l)

request-unsound : (a r : List ℕ) (n : ℕ) (f : Heap → After) → shape? a r ≡ true → ltb most_request n ≡ false → sound? (audit_of (arena_words a) (words_of r)) ≡ false
    → refused a r R.Unsound ≡ on_request a r n f
request-unsound a r n f e l s = on-unsound a r f e s ∙ request-small a r n f l

pub request-sound : (a r : List ℕ) (n : ℕ) (f : Heap → After) → shape? a r ≡ true → ltb most_request n ≡ false → sound? (audit_of (arena_words a) (words_of r)) ≡ true
    → f (heap_in a r) ≡ on_request a r n f
request-sound a r n f e l s = on-sound a r f e s ∙ request-small a r n f l

-- ---- number 4
pub live-yes : (a r : List ℕ) (m : ℕ) (h : Heap) (x : After) → both (leb 16 m) (live? h (m - 16)) ≡ true → x ≡ on_live a r m h x
live-yes a r m h x e = ap (λ (t : Bool). elim t [ true ↦ x | false ↦ refused a r R.NotLive ]) (sym e)

live-no : (a r : List ℕ) (m : ℕ) (h : Heap) (x : After) → both (leb 16 m) (live? h (m - 16)) ≡ false → refused a r R.NotLive ≡ on_live a r m h x
live-no a r m h x e = ap (λ (t : Bool). elim t [ true ↦ x | false ↦ refused a r R.NotLive ]) (sym e)

-- ---- a chunk was sought
granted-at : (a : List ℕ) (s : Ran (Option ℕ)) (c : ℕ) → answer s ≡ Some c → granted a s ≡ left a (heap_of s) (writes s) (Ok (Granted (c + 16) (usable (size_of (heap_of s) c))))
granted-at a (ran h ws x) c e = rw e

granted-none : (a : List ℕ) (s : Ran (Option ℕ)) → answer s ≡ None → granted a s ≡ left a (heap_of s) (writes s) (Err R.NoRoom)
granted-none a (ran h ws x) e = rw e

gave-none : (a b q : List ℕ) (s : Ran (Option ℕ)) → Octets b → Gave (Option ℕ) s None (arena_words a) (arena_words b) q → after b (bytes 4 q) (Err R.NoRoom) ≡ granted a s
gave-none a b q s o m = left_is a b q s None (Err R.NoRoom) o m ∙ sym (granted-none a s m.says)

gave_at : (a b q : List ℕ) (s : Ran (Option ℕ)) (c u : ℕ) → Octets b → Gave (Option ℕ) s (Some c) (arena_words a) (arena_words b) q → u ≡ usable (size_of (heap_of s) c)
    → after b (bytes 4 q) (Ok (Granted (c + 16) u)) ≡ granted a s
gave_at a b q s c u o m z =
    left_is a b q s (Some c) (Ok (Granted (c + 16) u)) o m ∙ ap (λ (v : ℕ). left a (heap_of s) (writes s) (Ok (Granted (c + 16) v))) z ∙ sym (granted-at a s c m.says)

-- ---- grant
granting : (a : List ℕ) (n : ℕ) → Heap → After
granting a n h = granted a (grant (need n) h)

grant-is : (a r : List ℕ) (n : ℕ) → on_request a r n (granting a n) ≡ grant_call a r n
unfolding grant_call granting
grant-is a r n = refl

pub grant-shape : (a r : List ℕ) (n : ℕ) → shape? a r ≡ false → after a r (Err R.Shape) ≡ grant_call a r n
grant-shape a r n e = request-shape a r n (granting a n) e ∙ grant-is a r n

pub grant-request : (a r : List ℕ) (n : ℕ) → shape? a r ≡ true → ltb most_request n ≡ true → after a r (Err R.Request) ≡ grant_call a r n
grant-request a r n e l = request-large a r n (granting a n) e l ∙ grant-is a r n

pub grant-unsound : (a r : List ℕ) (n : ℕ) → shape? a r ≡ true → ltb most_request n ≡ false → sound? (audit_of (arena_words a) (words_of r)) ≡ false
    → after a r (Err R.Unsound) ≡ grant_call a r n
grant-unsound a r n e l s = request-unsound a r n (granting a n) e l s ∙ grant-is a r n

pub grant-none : (a r b q : List ℕ) (n : ℕ) → shape? a r ≡ true → ltb most_request n ≡ false → sound? (audit_of (arena_words a) (words_of r)) ≡ true → Octets b
    → Gave (Option ℕ) (grant (need n) (heap_in a r)) None (arena_words a) (arena_words b) q → after b (bytes 4 q) (Err R.NoRoom) ≡ grant_call a r n
unfolding granting
grant-none a r b q n e l s o m = gave-none a b q (grant (need n) (heap_in a r)) o m ∙ request-sound a r n (granting a n) e l s ∙ grant-is a r n

pub grant-at : (a r b q : List ℕ) (n c u : ℕ) → shape? a r ≡ true → ltb most_request n ≡ false → sound? (audit_of (arena_words a) (words_of r)) ≡ true → Octets b
    → Gave (Option ℕ) (grant (need n) (heap_in a r)) (Some c) (arena_words a) (arena_words b) q → u ≡ usable (size_of (heap_of (grant (need n) (heap_in a r))) c)
    → after b (bytes 4 q) (Ok (Granted (c + 16) u)) ≡ grant_call a r n
unfolding granting
grant-at a r b q n c u e l s o m z = gave_at a b q (grant (need n) (heap_in a r)) c u o m z ∙ request-sound a r n (granting a n) e l s ∙ grant-is a r n

-- ---- release
releasing : (a r : List ℕ) (m : ℕ) → Heap → After
releasing a r m h = elim (eqb m 0) [ true ↦ after a r (Ok Done) | false ↦ on_live a r m h (done a (release (m - 16) h)) ]

release-is : (a r : List ℕ) (m : ℕ) → on_sound a r (releasing a r m) ≡ release_call a r m
unfolding release_call releasing
release-is a r m = refl

pub release-shape : (a r : List ℕ) (m : ℕ) → shape? a r ≡ false → after a r (Err R.Shape) ≡ release_call a r m
release-shape a r m e = on_shape a r (releasing a r m) e ∙ release-is a r m

pub release-unsound : (a r : List ℕ) (m : ℕ) → shape? a r ≡ true → sound? (audit_of (arena_words a) (words_of r)) ≡ false → after a r (Err R.Unsound) ≡ release_call a r m
release-unsound a r m e s = on-unsound a r (releasing a r m) e s ∙ release-is a r m

-- null's test
null-test : (a r : List ℕ) (m : ℕ) (t : Bool) → eqb m 0 ≡ t
    → ◌≡◌ {A = After} (elim t [ true ↦ after a r (Ok Done) | false ↦ on_live a r m (heap_in a r) (done a (release (m - 16) (heap_in a r))) ]) (releasing a r m (heap_in a r))
unfolding releasing
null-test a r m t z =
    ap (λ (x : Bool). elim x [ true ↦ after a r (Ok Done) | false ↦ on_live a r m (heap_in a r) (done a (release (m - 16) (heap_in a r))) ]) (sym z)

pub release-null : (a r : List ℕ) (m : ℕ) → shape? a r ≡ true → sound? (audit_of (arena_words a) (words_of r)) ≡ true → eqb m 0 ≡ true → after a r (Ok Done) ≡ release_call a r m
release-null a r m e s z = null-test a r m true z ∙ on-sound a r (releasing a r m) e s ∙ release-is a r m

pub release_dead : (a r : List ℕ) (m : ℕ) → shape? a r ≡ true → sound? (audit_of (arena_words a) (words_of r)) ≡ true → eqb m 0 ≡ false
    → both (leb 16 m) (live? (heap_in a r) (m - 16)) ≡ false → after a r (Err R.NotLive) ≡ release_call a r m
release_dead a r m e s z l =
    live-no a r m (heap_in a r) (done a (release (m - 16) (heap_in a r))) l ∙ null-test a r m false z ∙ on-sound a r (releasing a r m) e s ∙ release-is a r m

-- the block is live
pub release_live : (a r : List ℕ) (m : ℕ) → shape? a r ≡ true → sound? (audit_of (arena_words a) (words_of r)) ≡ true → eqb m 0 ≡ false
    → both (leb 16 m) (live? (heap_in a r) (m - 16)) ≡ true → done a (release (m - 16) (heap_in a r)) ≡ release_call a r m
release_live a r m e s z l =
    live-yes a r m (heap_in a r) (done a (release (m - 16) (heap_in a r))) l ∙ null-test a r m false z ∙ on-sound a r (releasing a r m) e s ∙ release-is a r m

pub release-done : (a r b q : List ℕ) (m g : ℕ) → shape? a r ≡ true → sound? (audit_of (arena_words a) (words_of r)) ≡ true → eqb m 0 ≡ false
    → both (leb 16 m) (live? (heap_in a r) (m - 16)) ≡ true → Octets b → Gave ℕ (release (m - 16) (heap_in a r)) g (arena_words a) (arena_words b) q
    → after b (bytes 4 q) (Ok Done) ≡ release_call a r m
release-done a r b q m g e s z l o k =
    left_is a b q (release (m - 16) (heap_in a r)) g (Ok Done) o k ∙ sym (done-is a (release (m - 16) (heap_in a r))) ∙ release_live a r m e s z l

-- ---- resize: null is a grant; else a new length of 0 is a release
pub resize-null : (a r : List ℕ) (m n : ℕ) → eqb m 0 ≡ true → grant_call a r n ≡ resize_call a r m n
unfolding resize_call
resize-null a r m n z = rw (z, resize_call)

pub resize-zero : (a r : List ℕ) (m n : ℕ) → eqb m 0 ≡ false → eqb n 0 ≡ true → release_call a r m ≡ resize_call a r m n
unfolding resize_call
resize-zero a r m n z k = rw (z, resize_call) (rw k)

-- ---- else
resizing : (a r : List ℕ) (m n : ℕ) → Heap → After
resizing a r m n h = on_live a r m h (granted a (resize (m - 16) (need n) h))

module _ (a r : List ℕ) (m n : ℕ) (z : eqb m 0 ≡ false) (k : eqb n 0 ≡ false) where
  resize-is : on_request a r n (resizing a r m n) ≡ resize_call a r m n
  unfolding resize_call resizing
  resize-is = rw (z, resize_call) (rw k)

  pub resize-shape : shape? a r ≡ false → after a r (Err R.Shape) ≡ resize_call a r m n
  resize-shape e = request-shape a r n (resizing a r m n) e ∙ resize-is

  module _ (e : shape? a r ≡ true) where
    pub resize-request : ltb most_request n ≡ true → after a r (Err R.Request) ≡ resize_call a r m n
    resize-request l = request-large a r n (resizing a r m n) e l ∙ resize-is

    module _ (l : ltb most_request n ≡ false) where
      pub resize-unsound : sound? (audit_of (arena_words a) (words_of r)) ≡ false → after a r (Err R.Unsound) ≡ resize_call a r m n
      resize-unsound s = request-unsound a r n (resizing a r m n) e l s ∙ resize-is

      module _ (s : sound? (audit_of (arena_words a) (words_of r)) ≡ true) where
        pub resize-dead : both (leb 16 m) (live? (heap_in a r) (m - 16)) ≡ false → after a r (Err R.NotLive) ≡ resize_call a r m n
        unfolding resizing
        resize-dead v =
            live-no a r m (heap_in a r) (granted a (resize (m - 16) (need n) (heap_in a r))) v ∙ request-sound a r n (resizing a r m n) e l s ∙ resize-is

        -- the block is live
        module _ (v : both (leb 16 m) (live? (heap_in a r) (m - 16)) ≡ true) where
          pub resize-live : granted a (resize (m - 16) (need n) (heap_in a r)) ≡ resize_call a r m n
          unfolding resizing
          resize-live =
              live-yes a r m (heap_in a r) (granted a (resize (m - 16) (need n) (heap_in a r))) v ∙ request-sound a r n (resizing a r m n) e l s ∙ resize-is

          pub resize-none : (b q : List ℕ) → Octets b → Gave (Option ℕ) (resize (m - 16) (need n) (heap_in a r)) None (arena_words a) (arena_words b) q
              → after b (bytes 4 q) (Err R.NoRoom) ≡ resize_call a r m n
          resize-none b q o g = gave-none a b q (resize (m - 16) (need n) (heap_in a r)) o g ∙ resize-live

          pub resize-at : (b q : List ℕ) (c u : ℕ) → Octets b → Gave (Option ℕ) (resize (m - 16) (need n) (heap_in a r)) (Some c) (arena_words a) (arena_words b) q
              → u ≡ usable (size_of (heap_of (resize (m - 16) (need n) (heap_in a r))) c) → after b (bytes 4 q) (Ok (Granted (c + 16) u)) ≡ resize_call a r m n
          resize-at b q c u o g w = gave_at a b q (resize (m - 16) (need n) (heap_in a r)) c u o g w ∙ resize-live
