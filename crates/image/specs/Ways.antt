-- What the tests of a file say, and each way through writing and reading: one lemma for each refusal, and one for the call that goes through. Assumes nothing.
use Rattle.std.specs.Prelude.{◌≡◌, Bool, List, ◌++◌, ◌⊎◌, eqb, ltb, leb, length, take, drop, Ok, Err}
use Rattle.std.proofs.Math.Path.{refl}
use Rattle.std.proofs.Common.{sym, ap, ◌∙◌, subst, append_assoc, inl, inr, ⊎_elim, arith, take_all}
use Rattle.std.proofs.Math.Bool.{true, false}
use Prim.Native.Nat.{ℕ, ◌+◌, ◌-◌, ◌≤◌, ◌<◌}
use Rattle.std.proofs.Math.ListN.{length-append, length-take, length-drop}
use borrow.Author.Tests.{eq-eqb, ne_eqb, eqb-true, leb-true, lt-ltb, le-ltb}
use Rattle.le.specs.Number.{digits}
use Rattle.le.specs.WordsLaws.{length_digits}
use Rattle.le.specs.Arena.{arena_words}
use Rattle.sizes.specs.Limits.{record_bytes, newest}
use Rattle.machine.specs.Lists.{both}
use Rattle.machine.specs.Audit.{sound?, audit_by}
use Rattle.machine.specs.Calls.{shape?, arena_allowed?, words_of, heap_in}
use Rattle.machine.specs.declared.Answer.TheVariants.{Done}
use Rattle.machine.specs.declared.Refusal.TheVariants as R
use Rattle.sound.specs.Tiles.{lt-or-le}
use Rattle.calls.specs.Ways.{shape-true, shape-long, shape-allowed}
use Rattle.image.specs.declared.Unread.TheVariants.{NoMark, NoVersion, WrongLength}
use Rattle.image.specs.Image.{mark, known?, record_bytes_by, image, image_bytes, length_at, Written, written, write_call, marked?, version_in, length_in, lacked_record, record_in, arena_in, fits?, completed, AfterReading, after_reading, heap_read, read_call}

-- ---- tests
pub clash : {B : Type 0} → ◌≡◌ {A = ℕ} 0 1 → B
clash z = absurd (omega arith)

pub never : {B : Type 0} → false ≡ true → B
never e = clash (cc)

pub both_yes : (s t : Bool) → both s t ≡ true → (s ≡ true) × (t ≡ true)
both_yes true t e = (refl, e)
both_yes false t e = never e

yes_both : (s t : Bool) → s ≡ true → t ≡ true → both s t ≡ true
yes_both s t e q = rw (e, both) q

-- a test that is true exactly where another is, is that test
same_test : (s t : Bool) → (s ≡ true → t ≡ true) → (t ≡ true → s ≡ true) → s ≡ t
same_test true t f g = sym (f refl)
same_test false true f g = g refl
same_test false false f g = refl

-- ---- a marked file has a mark and a version
pub marked-long : (f : List ℕ) → marked? f ≡ true → 5 ≤ length f
marked-long f e = leb-true 5 (length f) (both_yes (leb length_at (length f)) _ e).0

-- ---- what it is that a file fits the lent buffers
pub record Fits (f a r : List ℕ) : Type 0 where
  pub shape : shape? a r ≡ true
  pub file : length f ≡ image_bytes (version_in f) (length a)
  pub arena : length_in f ≡ length a

module _ (f a r : List ℕ) where
  pub fits-true : fits? f a r ≡ true → Fits f a r
  fits-true e =
      let p = both_yes (arena_allowed? (length_in f)) _ e in
      let q = both_yes (eqb (length f) (image_bytes (version_in f) (length_in f))) _ p.1 in
      let s = both_yes (eqb (length a) (length_in f)) _ q.1 in
      let n : length_in f ≡ length a = sym (eqb-true (length a) (length_in f) s.0) in
      record {
        shape = shape-true a r (eqb-true (length r) record_bytes s.1) (ap arena_allowed? (sym n) ∙ p.0);
        file = eqb-true (length f) (image_bytes (version_in f) (length_in f)) q.0 ∙ ap (image_bytes (version_in f)) n;
        arena = n;
      }

  pub true-fits : Fits f a r → fits? f a r ≡ true
  true-fits F =
      let n : length_in f ≡ length a = F.arena in
      yes_both (arena_allowed? (length_in f)) _ (ap arena_allowed? n ∙ shape-allowed a r F.shape)
      (yes_both (eqb (length f) (image_bytes (version_in f) (length_in f))) _ (eq-eqb (length f) (image_bytes (version_in f) (length_in f)) (F.file ∙ ap (image_bytes (version_in f)) (sym n)))
      (yes_both (eqb (length a) (length_in f)) _ (eq-eqb (length a) (length_in f) (sym n)) (eq-eqb (length r) record_bytes (shape-long a r F.shape))))

  pub not-fits : (Fits f a r → ⊥) → false ≡ fits? f a r
  not-fits h = same_test false (fits? f a r) never (λ e. absurd (h (fits-true e)))

  -- the test of the length in the file, after the others
  pub fits_last : shape? a r ≡ true → length f ≡ image_bytes (version_in f) (length a) → eqb (length_in f) (length a) ≡ fits? f a r
  fits_last s e =
      same_test (eqb (length_in f) (length a)) (fits? f a r)
      (λ q. true-fits (record { shape = s; file = e; arena = eqb-true (length_in f) (length a) q }))
      (λ q. eq-eqb (length_in f) (length a) (fits-true q).arena)

-- ---- a list that begins with another, and is as long
whole : (n : ℕ) (l t : List ℕ) → length l ≡ length t → take n l ≡ t → l ≡ t
whole n l t h e = sym (take_all n l (omega (arith, length-take n l, ap length e))) ∙ e

-- all that stands behind the first n
pub drop-whole : (n : ℕ) (l : List ℕ) → take (length l - n) (drop n l) ≡ drop n l
drop-whole n l = take_all (length l - n) (drop n l) (omega (arith, length-drop n l))

pub length-image : (a r : List ℕ) → length (image a r) ≡ 9 + (length r + length a)
unfolding image
length-image a r = simp (length-append, length_digits) (omega arith)

-- ---- writing
module _ (a r f : List ℕ) where
  pub write_shape : shape? a r ≡ false → written f (Err R.Shape) ≡ write_call a r f
  unfolding write_call
  write_shape e = rw (e, write_call)

  pub write-length : (length f ≡ image_bytes newest (length a) → ⊥) → written f (Err R.Shape) ≡ write_call a r f
  unfolding write_call
  write-length h = by (shape? a r) refl
    where
      by : (t : Bool) → shape? a r ≡ t → written f (Err R.Shape) ≡ write_call a r f
      by true e = rw (e, ne_eqb (length f) (image_bytes newest (length a)) h, write_call)
      by false e = write_shape e

  pub write-through : shape? a r ≡ true → length f ≡ image_bytes newest (length a) → written (image a r) (Ok Done) ≡ write_call a r f
  unfolding write_call
  write-through s e = rw (s, eq-eqb (length f) (image_bytes newest (length a)) e, write_call)

  -- g, as long as f, begins with the image, and so is the image
  pub write_done : (n : ℕ) (g : List ℕ) → shape? a r ≡ true → length f ≡ image_bytes newest (length a) → length g ≡ length f → take n g ≡ image a r
      → written g (Ok Done) ≡ write_call a r f
  write_done n g s e k q = rw (whole n g (image a r) (omega (arith, length-image a r, shape-long a r s)) q) (write-through s e)

-- the five parts, each put behind those before it
in_a_row : (m d e r a : List ℕ) → (((m ++ d) ++ e) ++ r) ++ a ≡ m ++ (d ++ (e ++ (r ++ a)))
in_a_row m d e r a = simp append_assoc

pub parts-image : (a r : List ℕ) {v n x y z u w : List ℕ} → v ≡ digits 2 newest → n ≡ digits 4 (length a) → x ≡ mark → y ≡ x ++ v → z ≡ y ++ n → u ≡ z ++ r
    → w ≡ u ++ a → w ≡ image a r
unfolding image
parts-image a r d e p q s t k = k ∙ rw (t, s, q, p, d, e) (in_a_row mark (digits 2 newest) (digits 4 (length a)) r a)

-- ---- the record of a file's version
pub by_old : (v : ℕ) → v < 2 → record_bytes_by v ≡ 1572
by_old v l = rw (lt-ltb v 2 l, record_bytes_by)

pub by-keyed : (v : ℕ) → 2 ≤ v → v < 4 → record_bytes_by v ≡ 1580
by-keyed v l m = rw (le-ltb v 2 l, lt-ltb v 4 m, record_bytes_by)

pub by-new : (v : ℕ) → 4 ≤ v → record_bytes_by v ≡ record_bytes
by-new v l = rw (le-ltb v 2 (omega arith), le-ltb v 4 l, record_bytes_by)

pub by_most : (v : ℕ) → (1572 ≤ record_bytes_by v) × (record_bytes_by v ≤ record_bytes)
by_most v = ⊎_elim
    (λ l. let e = by_old v l in (omega arith, omega arith))
    (λ l. ⊎_elim (λ m. let e = by-keyed v l m in (omega arith, omega arith)) (λ m. let e = by-new v m in (omega arith, omega arith)) (lt-or-le v 4))
    (lt-or-le v 2)

-- a record that is completed: z, what it lacks, is put behind the part p
pub record-completed : (p z q u : List ℕ) (n m : ℕ) → length q ≡ record_bytes → 1572 ≤ length p → length p ≤ record_bytes → n ≡ length p → m ≡ n + length z
    → z ≡ drop (length p - 1572) lacked_record → take n u ≡ p → take m q ≡ take n u ++ z → q ≡ p ++ drop (length p - 1572) lacked_record
unfolding digits
record-completed p z q u n m l j k en em ez eu e =
    sym (take_all m q (omega (arith, l, em, en, ap length ez ∙ length-drop (length p - 1572) lacked_record))) ∙ e ∙ rw (eu, ez)

-- ---- a version that is known is 1, 2, 3 or 4
pub known-true : (v : ℕ) → known? v ≡ true → (1 ≤ v) × (v ≤ newest)
known-true v e = let p = both_yes (leb 1 v) (leb v newest) e in (leb-true 1 v p.0, leb-true v newest p.1)

-- ---- what is made of a heap that was read
module _ (v : ℕ) (a r : List ℕ) where
  pub heap-new : newest ≤ v → after_reading a r (Ok (audit_by v (arena_words a) (words_of r))) ≡ heap_read v a r
  heap-new l = rw (le-ltb v newest l, heap_read)

  pub heap-unsound : sound? (audit_by v (arena_words a) (words_of r)) ≡ false → after_reading a r (Ok (audit_by v (arena_words a) (words_of r))) ≡ heap_read v a r
  heap-unsound e = ap (λ (t : Bool). elim t [
    | true ↦ after_reading (completed v (heap_in a r) a) r (Ok (audit_by v (arena_words a) (words_of r)))
    | false ↦ after_reading a r (Ok (audit_by v (arena_words a) (words_of r)))
  ]) (sym (ap (both (ltb v newest)) e ∙ never_both (ltb v newest)))
    where
      never_both : (t : Bool) → both t false ≡ false
      never_both true = refl
      never_both false = refl

  pub heap-completed : v < newest → sound? (audit_by v (arena_words a) (words_of r)) ≡ true → after_reading (completed v (heap_in a r) a) r (Ok (audit_by v (arena_words a) (words_of r))) ≡ heap_read v a r
  heap-completed l e = rw (lt-ltb v newest l, heap_read) (rw e)

-- what holds of each way to make it holds of what is made
pub heap-cases : (P : AfterReading → Type 0) (v : ℕ) (a r : List ℕ)
    → ((newest ≤ v) ⊎ (sound? (audit_by v (arena_words a) (words_of r)) ≡ false) → P (after_reading a r (Ok (audit_by v (arena_words a) (words_of r)))))
    → (v < newest → sound? (audit_by v (arena_words a) (words_of r)) ≡ true → P (after_reading (completed v (heap_in a r) a) r (Ok (audit_by v (arena_words a) (words_of r)))))
    → P (heap_read v a r)
heap-cases P v a r same full = ⊎_elim
    (λ l. by l (sound? (audit_by v (arena_words a) (words_of r))) refl)
    (λ l. subst P (heap-new v a r l) (same (inl l)))
    (lt-or-le v newest)
  where
    by : v < newest → (t : Bool) → sound? (audit_by v (arena_words a) (words_of r)) ≡ t → P (heap_read v a r)
    by l true e = subst P (heap-completed v a r l e) (full l e)
    by l false e = subst P (heap-unsound v a r e) (same (inr e))

-- ---- reading
module _ (f a r : List ℕ) where
  pub read-no-mark : marked? f ≡ false → after_reading a r (Err NoMark) ≡ read_call f a r
  unfolding read_call
  read-no-mark e = rw (e, read_call)

  pub read-no-version : marked? f ≡ true → known? (version_in f) ≡ false → after_reading a r (Err NoVersion) ≡ read_call f a r
  unfolding read_call
  read-no-version e v = rw (e, read_call) (rw v)

  pub read-wrong-length : marked? f ≡ true → known? (version_in f) ≡ true → fits? f a r ≡ false → after_reading a r (Err WrongLength) ≡ read_call f a r
  unfolding read_call
  read-wrong-length e v t = rw (e, read_call) (rw (v, t))

  pub read_through : marked? f ≡ true → known? (version_in f) ≡ true → fits? f a r ≡ true → heap_read (version_in f) (arena_in f) (record_in f) ≡ read_call f a r
  unfolding read_call
  read_through e v t = rw (e, read_call) (rw (v, t))

  -- the parts of a file that fits are as long as the lent buffers
  pub parts-long : Fits f a r → (length (arena_in f) ≡ length a) × (length (record_in f) ≡ record_bytes)
  unfolding digits
  parts-long F =
      let v : ℕ = record_bytes_by (version_in f) in
      let m = by_most (version_in f) in (
        omega (arith, F.file, length-drop (9 + v) f),
        length-append (take v (drop 9 f)) (drop (v - 1572) lacked_record)
            ∙ omega (arith, F.file, length-take v (drop 9 f), length-drop 9 f, length-drop (v - 1572) lacked_record),
      )

  -- b, as long as a, begins with the file's arena, and so is that; q is its record
  pub read_done : (v n : ℕ) (b q : List ℕ) {y : AfterReading} → v ≡ version_in f → marked? f ≡ true → known? (version_in f) ≡ true → Fits f a r → length b ≡ length a
      → take n b ≡ arena_in f → q ≡ record_in f → y ≡ heap_read v b q → y ≡ read_call f a r
  read_done v n b q w e t F k i j z =
      let i' : b ≡ arena_in f = whole n b (arena_in f) (k ∙ sym (parts-long F).0) i in
      z ∙ ap (λ (v : ℕ). heap_read v b q) w ∙ ap (λ (b : List ℕ). heap_read (version_in f) b q) i' ∙ ap (heap_read (version_in f) (arena_in f)) j ∙ read_through e t (true-fits f a r F)

-- the record as it is put: n bytes of the file, and what they lack
pub record-put : (f : List ℕ) (n k : ℕ) → n ≡ record_bytes_by (version_in f) → 9 + n ≤ length f → k ≡ n
    → take k (drop 9 f) ++ drop (length (take k (drop 9 f)) - 1572) lacked_record ≡ record_in f
record-put f n k e l h =
    let t : length (take k (drop 9 f)) ≡ n = omega (arith, length-take k (drop 9 f), length-drop 9 f) in
    ap (λ (i : ℕ). take k (drop 9 f) ++ drop (i - 1572) lacked_record) t
    ∙ ap (λ (i : ℕ). take i (drop 9 f) ++ drop (n - 1572) lacked_record) h
    ∙ ap (λ (i : ℕ). take i (drop 9 f) ++ drop (i - 1572) lacked_record) e

-- buffers of the same lengths have the same shape
pub same_shape : (m n m₀ n₀ : ℕ) → m ≡ m₀ → n ≡ n₀ → both (eqb n₀ record_bytes) (arena_allowed? m₀) ≡ true → both (eqb n record_bytes) (arena_allowed? m) ≡ true
same_shape m n m₀ n₀ e f s = rw (e, f) s

-- ---- what holds of each way through a call holds of the call
pub write-cases : (P : Written → Type 0) (a r f : List ℕ)
    → (((shape? a r ≡ true) × (length f ≡ image_bytes newest (length a)) → ⊥) → P (written f (Err R.Shape)))
    → (shape? a r ≡ true → length f ≡ image_bytes newest (length a) → P (written (image a r) (Ok Done)))
    → P (write_call a r f)
unfolding write_call
write-cases P a r f one ok = by (both (shape? a r) (eqb (length f) (image_bytes newest (length a)))) refl
  where
    by : (t : Bool) → both (shape? a r) (eqb (length f) (image_bytes newest (length a))) ≡ t
        → P (elim t [ true ↦ written (image a r) (Ok Done) | false ↦ written f (Err R.Shape) ])
    by true e = let p = both_yes (shape? a r) (eqb (length f) (image_bytes newest (length a))) e in ok p.0 (eqb-true (length f) (image_bytes newest (length a)) p.1)
    by false e = one (λ p. never (sym e ∙ yes_both (shape? a r) _ p.0 (eq-eqb (length f) (image_bytes newest (length a)) p.1)))
