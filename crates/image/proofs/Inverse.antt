-- What follows of a heap in a file: writing and reading undo each other, each refusal is given exactly where it is due, and a heap that was read goes on as the
-- one that was written. By the ways through a reading. What a reading makes of an older image stands in Older. Assumes nothing.
use Rattle.std.specs.Prelude.{◌≡◌, refl, true, false, List, ℕ, ◌+◌, ◌<◌, length, get_or, Ok, Err}
use Rattle.std.proofs.Common.{sym, ap, ◌∙◌, inl, arith}
use Rattle.le.specs.Arena.{arena_words}
use Rattle.sizes.specs.Limits.{record_bytes, newest}
use Rattle.machine.specs.Audit.{audit_by, Audited}
use Rattle.machine.specs.Calls.{arena_allowed?, shape?, words_of, audit_call, Answered}
use Rattle.machine.specs.declared.Answer.TheVariants.{Done}
use Rattle.machine.specs.declared.Refusal.TheVariants as R
use Rattle.calls.specs.Ways.{allowed-true, shape-true, shape-long, shape-allowed, audit-good}
use Rattle.image.specs.declared.Unread.TheVariants.{NoMark, NoVersion, WrongLength}
use Rattle.image.specs.Image.{known?, image, image_bytes, Written, written, write_call, marked?, version_in, record_in, arena_in, fits?, AfterReading, after_reading, heap_read, read_call, reading_numbers, Reading}
use Rattle.image.specs.Ways.{clash, never, Fits, true-fits, length-image, write-through, heap-new, heap-cases, read_through, write-cases}
use Rattle.image.proofs.Cases.{read-cases}
use Rattle.image.proofs.Parts.{image-marked, image-version, image-length, image-record, image-arena, file-image, taken, taken-shape}
use Rattle.image.specs.Audits.{zero-audit}

-- ---- what a writing left in the file and answered; what a reading left in arena and record and answered
abbrev pub file_left : Written → List ℕ
file_left (written f x) = f

abbrev pub write_answered : Written → Answered
write_answered (written f x) = x

abbrev pub arena_left : AfterReading → List ℕ
arena_left (after_reading a r x) = a

abbrev pub record_left : AfterReading → List ℕ
record_left (after_reading a r x) = r

abbrev pub read_answered : AfterReading → Reading
read_answered (after_reading a r x) = x

abbrev pub Exactly : Type 0 → Type 0 → Type 0
Exactly P Q = (P → Q) × (Q → P)

-- ---- what is written is read back, sound or not: arena and record as they were, with their audit's answer, whatever stands in the lent buffers
pub read-written : (a r b q : List ℕ) → shape? a r ≡ true → length b ≡ length a → length q ≡ record_bytes
    → read_call (image a r) b q ≡ after_reading a r (Ok (audit_call a r))
read-written a r b q s k l =
    let long : length r ≡ record_bytes = shape-long a r s in
    let most = (allowed-true (length a) (shape-allowed a r s)).2 in
    let F : Fits (image a r) b q = record {
      shape = shape-true b q l (ap arena_allowed? k ∙ shape-allowed a r s);
      file = length-image a r ∙ omega (arith, ap (λ (v : ℕ). image_bytes v (length b)) (image-version a r));
      arena = image-length a r (omega arith) ∙ sym k;
    } in
    sym (read_through (image a r) b q (image-marked a r) (ap known? (image-version a r)) (true-fits (image a r) b q F))
    ∙ ap (λ (v : ℕ). heap_read v (arena_in (image a r)) (record_in (image a r))) (image-version a r)
    ∙ rw (image-arena a r long, image-record a r long) (sym (heap-new newest a r (omega arith)) ∙ ap (λ (x : Audited). after_reading a r (Ok x)) (audit-good a r (words_of r) _ s refl refl))

-- and so of the calls: what a writing that is not refused leaves in the file
pub read-written-call : (a r g f b q : List ℕ) → write_call a r g ≡ written f (Ok Done) → length b ≡ length a → length q ≡ record_bytes
    → read_call f b q ≡ after_reading a r (Ok (audit_call a r))
read-written-call a r g f b q =
    write-cases (λ y. y ≡ written f (Ok Done) → length b ≡ length a → length q ≡ record_bytes → read_call f b q ≡ after_reading a r (Ok (audit_call a r))) a r g
    (λ h e k l. clash (cc))
    (λ s m e k l. rw (← ap file_left e) (read-written a r b q s k l))

-- ---- what is read of a file of the newest version is written back: the file, byte for byte
pub written_read : (f a r b q : List ℕ) (x : Audited) → ((i : ℕ) → get_or f i 0 < 256) → version_in f ≡ newest → read_call f a r ≡ after_reading b q (Ok x)
    → (image b q ≡ f) × ((g : List ℕ) → length g ≡ length f → write_call b q g ≡ written f (Ok Done))
written_read f a r b q x small v e =
    let T = taken f a r b q x e in
    let S = taken-shape f a r b q x T in
    let same : image b q ≡ f = rw (T.arena (inl (omega (arith, v))), T.control) (file-image f a r small T.mark v T.fits) in
    let l : length f ≡ image_bytes newest (length a) = T.fits.file ∙ ap (λ (n : ℕ). image_bytes n (length a)) v in
    (same, λ g k. sym (write-through b q g S.0 (omega (arith, S.1, l))) ∙ rw same)

-- ---- a heap that was read goes on as the one that was written: every call, and whatever else is made of arena and record, is the same of both
pub read-goes-on : (a r b q c s : List ℕ) (x : Audited) → read_call (image a r) b q ≡ after_reading c s (Ok x)
    → (X : Type 0) (call : List ℕ → List ℕ → X) → call c s ≡ call a r
read-goes-on a r b q c s x e X call =
    let T = taken (image a r) b q c s x e in
    let most = (allowed-true (length b) (shape-allowed b q T.fits.shape)).2 in
    let v = image-version a r in
    let all : 9 + (length r + length a) ≡ image_bytes newest (length b) = sym (length-image a r) ∙ T.fits.file ∙ ap (λ (n : ℕ). image_bytes n (length b)) v in
    let k : length a ≡ length b = sym (image-length a r (omega arith)) ∙ T.fits.arena in
    let long : length r ≡ record_bytes = omega arith in
    rw (T.arena (inl (omega (arith, v))) ∙ image-arena a r long, T.control ∙ image-record a r long)

-- ---- what was read is answered with number 0: whoever gets another number has both buffers as they were
pub read-answers-0 : (f a r b q : List ℕ) (x : Audited) → read_call f a r ≡ after_reading b q (Ok x) → (reading_numbers (Ok x)).no ≡ 0
read-answers-0 f a r b q x e =
    let T = taken f a r b q x e in
    rw T.audit (zero-audit (version_in f) (arena_words (arena_in f)) (words_of (record_in f)))

-- ---- the refusals, in their order
heap-answers : (v : ℕ) (a r : List ℕ) → read_answered (heap_read v a r) ≡ Ok (audit_by v (arena_words a) (words_of r))
heap-answers v a r = heap-cases (λ y. read_answered y ≡ Ok (audit_by v (arena_words a) (words_of r))) v a r (λ d. refl) (λ l s. refl)

module _ (f a r : List ℕ) where
  answers : read_answered (heap_read (version_in f) (arena_in f) (record_in f)) ≡ Ok (audit_by (version_in f) (arena_words (arena_in f)) (words_of (record_in f)))
  answers = heap-answers (version_in f) (arena_in f) (record_in f)

  -- ---- number 6 exactly: fewer than 5 bytes, or another mark
  pub read-6-exactly : Exactly (read_answered (read_call f a r) ≡ Err NoMark) (marked? f ≡ false)
  read-6-exactly = read-cases (λ y. Exactly (read_answered y ≡ Err NoMark) (marked? f ≡ false)) f a r
      (λ m. (λ e. m, λ e. refl))
      (λ m v. (λ e. clash (cc), λ e. clash (cc)))
      (λ m v t. (λ e. clash (cc), λ e. clash (cc)))
      (λ m v t. (λ e. let z = sym answers ∙ e in clash (cc), λ e. clash (cc)))

  -- ---- number 7 exactly: a mark, and a version that is not known
  pub read-7-exactly : Exactly (read_answered (read_call f a r) ≡ Err NoVersion) ((marked? f ≡ true) × (known? (version_in f) ≡ false))
  read-7-exactly = read-cases (λ y. Exactly (read_answered y ≡ Err NoVersion) ((marked? f ≡ true) × (known? (version_in f) ≡ false))) f a r
      (λ m. (λ e. clash (cc), λ e. clash (cc)))
      (λ m v. (λ e. (m, v), λ e. refl))
      (λ m v t. (λ e. clash (cc), λ e. never (sym e.1 ∙ v)))
      (λ m v t. (λ e. let z = sym answers ∙ e in clash (cc), λ e. never (sym e.1 ∙ v)))

  -- ---- number 1 exactly: a mark and a known version, and a length that is not allowed, not the file's or not a lent buffer's
  pub read-1-exactly : Exactly (read_answered (read_call f a r) ≡ Err WrongLength) ((marked? f ≡ true) × (known? (version_in f) ≡ true) × (fits? f a r ≡ false))
  read-1-exactly = read-cases (λ y. Exactly (read_answered y ≡ Err WrongLength) ((marked? f ≡ true) × (known? (version_in f) ≡ true) × (fits? f a r ≡ false))) f a r
      (λ m. (λ e. clash (cc), λ e. clash (cc)))
      (λ m v. (λ e. clash (cc), λ e. never (sym v ∙ e.1)))
      (λ m v t. (λ e. (m, v, t), λ e. refl))
      (λ m v t. (λ e. let z = sym answers ∙ e in clash (cc), λ e. never (sym e.2 ∙ t)))

  -- ---- a refused reading writes nothing
  pub refused-read-writes-nothing : ((x : Audited) → read_answered (read_call f a r) ≡ Ok x → ⊥)
      → (arena_left (read_call f a r) ≡ a) × (record_left (read_call f a r) ≡ r)
  refused-read-writes-nothing = read-cases (λ y. ((x : Audited) → read_answered y ≡ Ok x → ⊥) → (arena_left y ≡ a) × (record_left y ≡ r)) f a r
      (λ m h. (refl, refl))
      (λ m v h. (refl, refl))
      (λ m v t h. (refl, refl))
      (λ m v t h. absurd (h _ answers))

-- ---- a writing is refused, with number 1, exactly if arena or record have no good shape or the file's buffer is not as long as the image; it then writes
-- nothing
module _ (a r f : List ℕ) where
  pub write-1-exactly : Exactly (write_answered (write_call a r f) ≡ Err R.Shape) ((shape? a r ≡ true) × (length f ≡ image_bytes newest (length a)) → ⊥)
  write-1-exactly = write-cases (λ y. Exactly (write_answered y ≡ Err R.Shape) ((shape? a r ≡ true) × (length f ≡ image_bytes newest (length a)) → ⊥)) a r f
      (λ h. (λ e. h, λ e. refl))
      (λ s k. (λ e. clash (cc), λ h. absurd (h (s, k))))

  pub refused-write-writes-nothing : (write_answered (write_call a r f) ≡ Ok Done → ⊥) → file_left (write_call a r f) ≡ f
  refused-write-writes-nothing = write-cases (λ y. (write_answered y ≡ Ok Done → ⊥) → file_left y ≡ f) a r f
      (λ h d. refl)
      (λ s k d. absurd (d refl))
