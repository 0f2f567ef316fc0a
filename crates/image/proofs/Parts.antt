-- The parts of a file: those of an image are what it was made of, a file that is read is the image of its parts, and these are what was read. Assumes nothing.
use Rattle.std.specs.Prelude.{◌≡◌, Bool, true, false, List, ◌∷◌, ◌++◌, ◌⊎◌, ℕ, zero, suc, ◌+◌, ◌-◌, ◌*◌, ◌/◌, ◌%◌, ◌≤◌, ◌<◌, eqb, leb, length, get_or, take, drop, Ok}
use Rattle.std.proofs.Math.Path.{refl}
use Rattle.std.proofs.Common.{sym, ap, ◌∙◌, append-nil, inl, inr, ⊎_elim, add-suc, add-zero, take-append-drop, drop-cons, drop-drop, eqb-true, le-leb}
use native.Mathlib.Omega.{arith}
use Rattle.std.proofs.Math.Seq.{take_at, drop_at}
use Rattle.le.specs.Number.{number_from, number, digits}
use Rattle.le.specs.WordsLaws.{length-bytes}
use Rattle.le.specs.Arena.{arena_words}
use Rattle.le.specs.ArenaLaws.{length-arena_words}
use Rattle.sizes.specs.Limits.{record_bytes, newest}
use Rattle.machine.specs.Writes.{apply}
use Rattle.machine.specs.Audit.{sound?, audit_by, Audited}
use Rattle.machine.specs.Calls.{arena_allowed?, shape?, words_of, heap_in}
use Rattle.sound.specs.Tiles.{lt-or-le}
use Rattle.sound.specs.Frames.{apply-length}
use Rattle.calls.specs.Ways.{allowed-true, shape-true, shape-allowed}
use Rattle.image.specs.Image.{known?, record_bytes_by, image, length_at, record_at, image_bytes, marked?, version_in, length_in, lacked_record, record_in, arena_in, lacked, completed, after_reading, read_call}
use Rattle.image.specs.Ways.{clash, never, both_yes, Fits, marked-long, fits-true, parts-long, heap-cases}
use Rattle.image.proofs.Cases.{read-cases}

-- ---- of a file of the newest version
pub record-new : (f : List ℕ) → version_in f ≡ newest → record_in f ≡ take 1584 (drop 9 f)
unfolding digits
record-new f v = ap (λ (n : ℕ). take (record_bytes_by n) (drop record_at f) ++ drop (record_bytes_by n - 1572) lacked_record) v ∙ append-nil (take 1584 (drop 9 f))

pub arena-new : (f : List ℕ) → version_in f ≡ newest → arena_in f ≡ drop 1593 f
arena-new f v = ap (λ (n : ℕ). drop (record_at + record_bytes_by n) f) v

-- ---- of an image
module _ (a r : List ℕ) where
  pub image-marked : marked? (image a r) ≡ true
  unfolding image digits
  image-marked = rw (le-leb 5 (length (image a r)) (omega arith))

  pub image-version : version_in (image a r) ≡ newest
  unfolding image digits number number_from
  image-version = refl

  pub image-length : length a < 4294967296 → length_in (image a r) ≡ length a
  unfolding image digits number number_from
  image-length h = omega arith

  pub image-record : length r ≡ record_bytes → record_in (image a r) ≡ r
  unfolding image digits
  image-record h = record-new (image a r) image-version ∙ take_at r a record_bytes h

  pub image-arena : length r ≡ record_bytes → arena_in (image a r) ≡ a
  unfolding image digits
  image-arena h = arena-new (image a r) image-version ∙ drop_at r a record_bytes h

-- ---- the bytes of the number at a place, and what stands behind it, are what stands there
digits-from : (n : ℕ) (l : List ℕ) (at k : ℕ) → at + k + n ≤ length l → ((i : ℕ) → get_or l i 0 < 256)
    → digits n (number_from n l at k) ++ drop (at + k + n) l ≡ drop (at + k) l
unfolding digits number_from
digits-from zero l at k h small = rw add-zero
digits-from (suc n) l at k h small =
    let v = number_from n l at (suc k) in
    let b : get_or l (at + k) 0 < 256 = small (at + k) in
    let low : (get_or l (at + k) 0 + 256 * v) % 256 ≡ get_or l (at + k) 0 = omega arith in
    let rest : (get_or l (at + k) 0 + 256 * v) / 256 ≡ v = omega arith in
    let on : at + k + suc n ≡ at + suc k + n = omega arith in
    rw (low, rest, on, digits-from n l at (suc k) (omega arith) small, add-suc) (sym (drop-cons l (at + k) 0 (omega arith)))

digits-at : (n : ℕ) (l : List ℕ) (at : ℕ) → at + n ≤ length l → ((i : ℕ) → get_or l i 0 < 256) → digits n (number n l at) ++ drop (at + n) l ≡ drop at l
unfolding number
digits-at n l at h small = rw add-zero at (digits-from n l at 0 (omega arith) small)

-- ---- of a file
marked-starts : (f : List ℕ) → marked? f ≡ true → f ≡ 72 ∷ 80 ∷ 73 ∷ drop 3 f
marked-starts f e =
    let p = both_yes (leb length_at (length f)) _ e in
    let q = both_yes (eqb (get_or f 0 0) 72) _ p.1 in
    let s = both_yes (eqb (get_or f 1 0) 80) _ q.1 in
    let l : 5 ≤ length f = marked-long f e in
    let f0 : f ≡ get_or f 0 0 ∷ drop 1 f = drop-cons f 0 0 (omega arith) in
    let f1 : drop 1 f ≡ get_or f 1 0 ∷ drop 2 f = drop-cons f 1 0 (omega arith) in
    let f2 : drop 2 f ≡ get_or f 2 0 ∷ drop 3 f = drop-cons f 2 0 (omega arith) in
    cc (eqb-true (get_or f 0 0) 72 q.0, eqb-true (get_or f 1 0) 80 s.0, eqb-true (get_or f 2 0) 73 s.1)

pub file-image : (f a r : List ℕ) → ((i : ℕ) → get_or f i 0 < 256) → marked? f ≡ true → version_in f ≡ newest → Fits f a r → image (arena_in f) (record_in f) ≡ f
unfolding image
file-image f a r small e v F =
    let l : length f ≡ 1593 + length a = F.file ∙ ap (λ (n : ℕ). image_bytes n (length a)) v ∙ omega arith in
    let heap : record_in f ++ arena_in f ≡ drop 9 f =
    ap (λ (t : List ℕ). t ++ arena_in f) (record-new f v) ∙ ap (λ (t : List ℕ). take 1584 (drop 9 f) ++ t) (arena-new f v ∙ sym (drop-drop 1584 9 f)) ∙ take-append-drop 1584 (drop 9 f) in
    let long : length (arena_in f) ≡ length_in f = (parts-long f a r F).0 ∙ sym F.arena in
    let known : digits 2 newest ++ drop 5 f ≡ drop 3 f = ap (λ (n : ℕ). digits 2 n ++ drop 5 f) (sym v) ∙ digits-at 2 f 3 (omega arith) small in
    rw (heap, long, digits-at 4 f 5 (omega arith) small, known) (sym (marked-starts f e))

-- ---- what was read from a file: the file is good, the record stands in it, and the answer is the audit's by its version; the arena stands in it too, but that an
-- older heap that is sound got what it lacked
pub record TakenFrom (f a r b q : List ℕ) (x : Audited) : Type 0 where
  pub mark : marked? f ≡ true
  pub known : known? (version_in f) ≡ true
  pub fits : Fits f a r
  pub control : q ≡ record_in f
  pub audit : x ≡ audit_by (version_in f) (arena_words (arena_in f)) (words_of (record_in f))
  pub arena : (newest ≤ version_in f) ⊎ (sound? x ≡ false) → b ≡ arena_in f
  pub complete : version_in f < newest → sound? x ≡ true → b ≡ completed (version_in f) (heap_in (arena_in f) (record_in f)) (arena_in f)

pub taken : (f a r b q : List ℕ) (x : Audited) → read_call f a r ≡ after_reading b q (Ok x) → TakenFrom f a r b q x
taken f a r b q x = read-cases (λ y. y ≡ after_reading b q (Ok x) → TakenFrom f a r b q x) f a r
    (λ m e. clash (cc))
    (λ m v e. clash (cc))
    (λ m v t e. clash (cc))
    (λ m v t. heap-cases (λ y. y ≡ after_reading b q (Ok x) → TakenFrom f a r b q x) (version_in f) (arena_in f) (record_in f)
    (λ d e. record {
      mark = m;
      known = v;
      fits = fits-true f a r t;
      control = cc;
      audit = cc;
      arena = λ _. cc;
      complete = λ l s. absurd (⊎_elim (λ n. omega arith) (λ n. let z : x ≡ audit_by (version_in f) (arena_words (arena_in f)) (words_of (record_in f)) = cc in never (sym n ∙ ap sound? (sym z) ∙ s)) d);
    })
    (λ l s e. record {
      mark = m;
      known = v;
      fits = fits-true f a r t;
      control = cc;
      audit = cc;
      arena = λ d. absurd (⊎_elim (λ n. omega arith) (λ n. let z : x ≡ audit_by (version_in f) (arena_words (arena_in f)) (words_of (record_in f)) = cc in never (sym n ∙ ap sound? z ∙ s)) d);
      complete = λ _ _. cc;
    }))

-- what a good file says of the lengths of what was read
pub taken-shape : (f a r b q : List ℕ) (x : Audited) → TakenFrom f a r b q x → (shape? b q ≡ true) × (length b ≡ length a)
taken-shape f a r b q x T =
    let L = parts-long f a r T.fits in
    let ok = allowed-true (length a) (shape-allowed a r T.fits.shape) in
    let k : length b ≡ length a = ⊎_elim
    (λ l. by l (sound? x) refl)
    (λ l. ap length (T.arena (inl l)) ∙ L.0)
    (lt-or-le (version_in f) newest) in
    (shape-true b q (ap length T.control ∙ L.1) (ap arena_allowed? k ∙ shape-allowed a r T.fits.shape), k)
  where
    by : version_in f < newest → (t : Bool) → sound? x ≡ t → length b ≡ length a
    by l true s =
        let L = parts-long f a r T.fits in
        let ok = allowed-true (length a) (shape-allowed a r T.fits.shape) in
        let h = heap_in (arena_in f) (record_in f) in
        ap length (T.complete l s) ∙ length-bytes 8 (apply (lacked (version_in f) h) (arena_words (arena_in f)))
        ∙ omega (arith, apply-length (lacked (version_in f) h) (arena_words (arena_in f)), length-arena_words (arena_in f), L.0, ok.0)
    by l false s = ap length (T.arena (inr s)) ∙ (parts-long f a r T.fits).0
