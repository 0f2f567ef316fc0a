-- The ways through each call, on bytes of good shape: what holds in each of them holds of the call. Assumes nothing.
use Rattle.std.specs.Prelude.{◌≡◌, refl, List, [], ◌∷◌, Bool, true, false, ℕ, ◌+◌, ◌-◌, ◌≤◌, ◌<◌, leb, length, Option, Some, None, Ok, Err}
use Rattle.std.proofs.Common.{sym, ap, ◌∙◌, subst, ⊎_elim, arith, eq-eqb, ne_eqb, lt-ltb, le-ltb, le-leb, leb-true}
use Rattle.le.specs.Number.{bytes}
use Rattle.le.specs.Arena.{arena_words}
use Rattle.sizes.specs.Limits.{most_request}
use Rattle.sizes.specs.Sizes.{need, usable}
use Rattle.machine.specs.Lists.{both}
use Rattle.machine.specs.Count.{eq?}
use Rattle.machine.specs.Heap.{Heap, opened, size_of, live?}
use Rattle.machine.specs.Writes.{size, Ran, ran, heap_of, writes}
use Rattle.machine.specs.Release.{release}
use Rattle.machine.specs.Grant.{grant}
use Rattle.machine.specs.Resize.{resize}
use Rattle.machine.specs.Audit.{sound?, audit_of, edition?}
use Rattle.machine.specs.Calls.{After, after, left, shape?, words_of, heap_in, closed_record, open_call, granted, grant_call, done, release_call, resize_call, job_call}
use Rattle.machine.specs.declared.Refusal.TheVariants as R
use Rattle.machine.specs.declared.Answer.TheVariants.{Done, Granted}
use Rattle.sound.specs.Tiles.{lt-or-le}
use Rattle.sound.specs.Moves.{answer_of}
use Rattle.sound.specs.Release.{both_true}
use Rattle.calls.specs.Ways.{request-sound, grant-request, grant-unsound, release-unsound, release-null, release_dead, release_live, resize-null, resize-zero, resize-request, resize-unsound, resize-dead, resize-live, job-unsound, job-sound}
use Rattle.calls_consequences.specs.Results.{Lent, SoundIn, UnsoundIn, LiveMem}
use Rattle.calls_consequences.specs.Left.{lent-shape}

-- the audit says one or the other
pub sound-or-not : {B : Type 0} (a r : List ℕ) → (SoundIn a r → B) → (UnsoundIn a r → B) → B
sound-or-not a r f g = go (sound? (audit_of (arena_words a) (words_of r))) f g
  where
    go : {B : Type 0} (t : Bool) → (t ≡ true → B) → (t ≡ false → B) → B
    go true f g = f refl
    go false f g = g refl

-- ---- what a step comes to
got-cases : (a : List ℕ) (s : Ran (Option ℕ)) (P : After → Type 0) → (answer_of s ≡ None → P (left a (heap_of s) (writes s) (Err R.NoRoom)))
    → ((c : ℕ) → answer_of s ≡ Some c → P (left a (heap_of s) (writes s) (Ok (Granted (c + 16) (usable (size_of (heap_of s) c)))))) → P (granted a s)
got-cases a (ran h ws (Some c)) P f g = g c refl
got-cases a (ran h ws None) P f g = f refl

done-case : {A : Type 0} (a : List ℕ) (s : Ran A) (P : After → Type 0) → P (left a (heap_of s) (writes s) (Ok Done)) → P (done a s)
done-case a (ran h ws x) P p = p

both-live : (h : Heap) (m : ℕ) → 16 ≤ m → live? h (m - 16) ≡ true → both (leb 16 m) (live? h (m - 16)) ≡ true
both-live h m l e = ap (λ (t : Bool). both t (live? h (m - 16))) (le-leb 16 m l) ∙ e

-- ---- the calls
module _ (a r : List ℕ) (q d : ℕ) (L : Lent a r) where
  pub open-called : edition? d ≡ true → left a (opened (length a) q d) (size 0 (length a) 1 ∷ []) (Ok Done) ≡ open_call a r q d
  unfolding open_call
  open-called e = rw (eq-eqb (length r) 1584 L.long, open_call) (rw (lent-shape a r L).0 (rw e))

  pub open_none : edition? d ≡ false → after a (bytes 4 closed_record) (Err R.Edition) ≡ open_call a r q d
  unfolding open_call
  open_none e = rw (eq-eqb (length r) 1584 L.long, open_call) (rw (lent-shape a r L).0 (rw e))

  pub open-cases : (P : After → Type 0) → P (left a (opened (length a) q d) (size 0 (length a) 1 ∷ []) (Ok Done)) → P (after a (bytes 4 closed_record) (Err R.Edition))
      → P (open_call a r q d)
  open-cases P f g = go (edition? d) refl
    where
      go : (t : Bool) → edition? d ≡ t → P (open_call a r q d)
      go true e = subst P (open-called e) f
      go false e = subst P (open_none e) g

module _ (a r : List ℕ) (L : Lent a r) (P : After → Type 0) where
  good : shape? a r ≡ true
  good = (lent-shape a r L).1

  -- the mem is a live block's or not
  live-or-not : {B : Type 0} (m : ℕ) → (LiveMem a r m → both (leb 16 m) (live? (heap_in a r) (m - 16)) ≡ true → B)
      → ((LiveMem a r m → ⊥) → both (leb 16 m) (live? (heap_in a r) (m - 16)) ≡ false → B) → B
  live-or-not {B} m f g = go (both (leb 16 m) (live? (heap_in a r) (m - 16))) refl
    where
      go : (t : Bool) → both (leb 16 m) (live? (heap_in a r) (m - 16)) ≡ t → B
      go true e = let p = both_true (leb 16 m) (live? (heap_in a r) (m - 16)) e in f (leb-true 16 m p.0, p.1) e
      go false e =
          g (λ v. absurd (let q : true ≡ false = sym (both-live (heap_in a r) m v.0 v.1) ∙ e in let z : ◌≡◌ {A = ℕ} 0 1 = cc in omega arith)) e

  grant-called : (n : ℕ) → n ≤ 262144 → SoundIn a r → granted a (grant (need n) (heap_in a r)) ≡ grant_call a r n
  unfolding grant_call
  grant-called n l S = request-sound a r n (λ h. granted a (grant (need n) h)) good (le-ltb most_request n l) S

  pub grant-cases : (n : ℕ) → (262144 < n → P (after a r (Err R.Request))) → (UnsoundIn a r → P (after a r (Err R.Unsound)))
      → (n ≤ 262144 → SoundIn a r → answer_of (grant (need n) (heap_in a r)) ≡ None
      → P (left a (heap_of (grant (need n) (heap_in a r))) (writes (grant (need n) (heap_in a r))) (Err R.NoRoom)))
      → (n ≤ 262144 → SoundIn a r → (c : ℕ) → answer_of (grant (need n) (heap_in a r)) ≡ Some c
      → P (left a (heap_of (grant (need n) (heap_in a r))) (writes (grant (need n) (heap_in a r))) (Ok (Granted (c + 16) (usable (size_of (heap_of (grant (need n) (heap_in a r))) c))))))
      → P (grant_call a r n)
  grant-cases n large unsound none at = ⊎_elim
      (λ l. subst P (grant-request a r n good (lt-ltb most_request n l)) (large l))
      (λ l. sound-or-not a r
      (λ S. subst P (grant-called n l S) (got-cases a (grant (need n) (heap_in a r)) P (none l S) (at l S)))
      (λ U. subst P (grant-unsound a r n good (le-ltb most_request n l) U) (unsound U)))
      (lt-or-le 262144 n)

  pub release-cases : (m : ℕ) → (UnsoundIn a r → P (after a r (Err R.Unsound))) → (SoundIn a r → m ≡ 0 → P (after a r (Ok Done)))
      → (SoundIn a r → (m ≡ 0 → ⊥) → (LiveMem a r m → ⊥) → P (after a r (Err R.NotLive)))
      → (SoundIn a r → LiveMem a r m → P (left a (heap_of (release (m - 16) (heap_in a r))) (writes (release (m - 16) (heap_in a r))) (Ok Done)))
      → P (release_call a r m)
  release-cases m unsound null dead live =
      sound-or-not a r
      (λ S. ⊎_elim
      (λ z. subst P (release-null a r m good S (eq-eqb m 0 z)) (null S z))
      (λ z. live-or-not m
      (λ v e. subst P (release_live a r m good S (ne_eqb m 0 z) e) (done-case a (release (m - 16) (heap_in a r)) P (live S v)))
      (λ v e. subst P (release_dead a r m good S (ne_eqb m 0 z) e) (dead S z v)))
      (eq? m 0))
      (λ U. subst P (release-unsound a r m good U) (unsound U))

  pub resize-cases : (m n : ℕ) → (m ≡ 0 → P (grant_call a r n)) → ((m ≡ 0 → ⊥) → n ≡ 0 → P (release_call a r m))
      → ((m ≡ 0 → ⊥) → 262144 < n → P (after a r (Err R.Request))) → ((m ≡ 0 → ⊥) → n ≤ 262144 → UnsoundIn a r → P (after a r (Err R.Unsound)))
      → ((m ≡ 0 → ⊥) → n ≤ 262144 → SoundIn a r → (LiveMem a r m → ⊥) → P (after a r (Err R.NotLive)))
      → (1 ≤ n → n ≤ 262144 → SoundIn a r → LiveMem a r m → answer_of (resize (m - 16) (need n) (heap_in a r)) ≡ None
      → P (left a (heap_of (resize (m - 16) (need n) (heap_in a r))) (writes (resize (m - 16) (need n) (heap_in a r))) (Err R.NoRoom)))
      → (1 ≤ n → n ≤ 262144 → SoundIn a r → LiveMem a r m → (c : ℕ) → answer_of (resize (m - 16) (need n) (heap_in a r)) ≡ Some c
      → P (left a (heap_of (resize (m - 16) (need n) (heap_in a r))) (writes (resize (m - 16) (need n) (heap_in a r)))
      (Ok (Granted (c + 16) (usable (size_of (heap_of (resize (m - 16) (need n) (heap_in a r))) c))))))
      → P (resize_call a r m n)
  resize-cases m n null zero large unsound dead none at = ⊎_elim
      (λ z. subst P (resize-null a r m n (eq-eqb m 0 z)) (null z))
      (λ z. ⊎_elim
      (λ k. subst P (resize-zero a r m n (ne_eqb m 0 z) (eq-eqb n 0 k)) (zero z k))
      (λ k. ⊎_elim
      (λ l. subst P (resize-request a r m n (ne_eqb m 0 z) (ne_eqb n 0 k) good (lt-ltb most_request n l)) (large z l))
      (λ l. sound-or-not a r
      (λ S. live-or-not m
      (λ v e.
      subst P (resize-live a r m n (ne_eqb m 0 z) (ne_eqb n 0 k) good (le-ltb most_request n l) S e)
      (got-cases a (resize (m - 16) (need n) (heap_in a r)) P (none (some k) l S v) (at (some k) l S v)))
      (λ v e. subst P (resize-dead a r m n (ne_eqb m 0 z) (ne_eqb n 0 k) good (le-ltb most_request n l) S e) (dead z l S v)))
      (λ U. subst P (resize-unsound a r m n (ne_eqb m 0 z) (ne_eqb n 0 k) good (le-ltb most_request n l) U) (unsound z l U)))
      (lt-or-le 262144 n))
      (eq? n 0))
      (eq? m 0)
    where
      some : (n ≡ 0 → ⊥) → 1 ≤ n
      some k = ⊎_elim (λ l. absurd (k (omega arith))) (λ l. l) (lt-or-le n 1)

  -- the two jobs, emptying and joining
  pub job-cases : (f : Heap → Ran (Unit {0})) → (UnsoundIn a r → P (after a r (Err R.Unsound)))
      → (SoundIn a r → P (left a (heap_of (f (heap_in a r))) (writes (f (heap_in a r))) (Ok Done))) → P (job_call f a r)
  job-cases f unsound through =
      sound-or-not a r
      (λ S. subst P (job-sound f a r good S) (done-case a (f (heap_in a r)) P (through S)))
      (λ U. subst P (job-unsound f a r good U) (unsound U))
