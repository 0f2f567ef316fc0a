-- What a reading makes of an older image: its answer is the audit, by the rules of the file's version, of what it left; a heap of version 1, 2 or 3 that is sound
-- by those rules is the same heap after it, with edition 1, one of version 1 with key 0, and sound by the newest; an unsound one is left as it stands in the
-- file. Of any version, what was read may be lent to calls. Assumes nothing.
use Rattle.std.specs.Prelude.{◌≡◌, refl, Bool, true, false, List, [], ◌∷◌, ◌++◌, ◌⊎◌, ℕ, zero, suc, ◌+◌, ◌-◌, ◌/◌, ◌≤◌, ◌<◌, length, get_or, take, drop, replicate, Ok}
use Rattle.std.proofs.Common.{sym, ap, ◌∙◌, subst, inl, inr, ⊎_elim, arith, get_or-drop}
use Rattle.le.specs.Number.{digits, bytes}
use Rattle.le.specs.WordsLaws.{length-words}
use Rattle.le.specs.Arena.{arena_words}
use Rattle.le.specs.ArenaLaws.{bytes-arena_words}
use Rattle.sizes.specs.Limits.{newest, plain}
use Rattle.machine.specs.Heap.{Heap}
use Rattle.machine.specs.Writes.{apply}
use Rattle.machine.specs.Audit.{sound?, audit_by, Audited}
use Rattle.machine.specs.Calls.{shape?, arena_allowed?, words_of, heap_in, audit_call}
use Rattle.sound.specs.Relation.{SoundBy, Sound}
use Rattle.sound.specs.Tiles.{lt-or-le}
use Rattle.audit_walks.specs.Tests.{is-sound}
use Rattle.audit.specs.Exact.{arena-words, audit-sound-by, audit-read, audit-complete, audit-complete-by}
use Rattle.calls.specs.Ways.{Octets, allowed-true, shape-true, shape-long, shape-allowed, audit-good}
use Rattle.calls.specs.Through.{Came, came-arena, words_small}
use Rattle.calls_consequences.specs.Bytes.{bytes_small, arena_words-cut}
use Rattle.calls_consequences.specs.Results.{Lent}
use Rattle.calls_consequences.specs.Written.{mem-cut}
use Rattle.image.specs.Image.{known?, record_bytes_by, version_in, lacked_record, record_in, arena_in, lacked, completed, after_reading, heap_read, read_call}
use Rattle.image.specs.Ways.{known-true, heap-new, heap-unsound, heap-completed, parts-long}
use Rattle.image.specs.Completed.{Old, by-rules, lacked-sound}
use Rattle.image.proofs.Parts.{TakenFrom, taken, taken-shape}

-- ---- bytes of a file are bytes in its parts
abbrev pub Small : List ℕ → Type 0
Small l = (i : ℕ) → get_or l i 0 < 256

small-append : (l m : List ℕ) → Small l → Small m → Small (l ++ m)
small-append [] m s t i = t i
small-append (x ∷ l) m s t zero = s 0
small-append (x ∷ l) m s t (suc i) = small-append l m (λ i. s (suc i)) t i

small-take : (n : ℕ) (l : List ℕ) → Small l → Small (take n l)
small-take zero l s i = omega arith
small-take (suc n) [] s i = s i
small-take (suc n) (x ∷ l) s zero = s 0
small-take (suc n) (x ∷ l) s (suc i) = small-take n l (λ i. s (suc i)) i

small-drop : (n : ℕ) (l : List ℕ) → Small l → Small (drop n l)
small-drop n l s i = subst (λ (x : ℕ). x < 256) (sym (get_or-drop n l i 0)) (s (n + i))

small-zeros : (n : ℕ) → Small (replicate n 0)
small-zeros zero i = omega arith
small-zeros (suc n) zero = omega arith
small-zeros (suc n) (suc i) = small-zeros n i

small-digits : (n v : ℕ) → Small (digits n v)
unfolding digits
small-digits zero v i = omega arith
small-digits (suc n) v zero = omega arith
small-digits (suc n) v (suc i) = small-digits n (v / 256) i

record-small : (f : List ℕ) → Small f → Small (record_in f)
record-small f s = small-append (take (record_bytes_by (version_in f)) (drop 9 f)) (drop (record_bytes_by (version_in f) - 1572) lacked_record)
    (small-take (record_bytes_by (version_in f)) (drop 9 f) (small-drop 9 f s))
    (small-drop (record_bytes_by (version_in f) - 1572) lacked_record (small-append (replicate 8 0) (digits 4 plain) (small-zeros 8) (small-digits 4 plain)))

-- ---- arena a and record r of version v, sound by its rules: with what it lacks the heap is sound by the newest
module _ (v : ℕ) (a r : List ℕ) where
  old-sound : shape? a r ≡ true → Small r → audit_by v (arena_words a) (words_of r) ≡ Ok tt → SoundBy v (heap_in a r) (arena_words a) (words_of r)
  old-sound s small e =
      let c : Came a r (words_of r) = record { shape = s; small = small; words = refl } in
      audit-sound-by v (arena_words a) (words_of r) (arena-words a (came-arena a r (words_of r) c)) (length-words 4 396 r) (words_small r small) e

  completed-left : 1 ≤ v → v < newest → shape? a r ≡ true → Small r → audit_by v (arena_words a) (words_of r) ≡ Ok tt
      → Sound (heap_in a r) (arena_words (completed v (heap_in a r) a)) (words_of r)
  completed-left f o s small e =
      let h = heap_in a r in
      let S = lacked-sound v h (arena_words a) (words_of r) f o (old-sound s small e) in
      record {
        good = S.good;
        mem = rw (arena_words-cut (apply (lacked v h) (arena_words a))) (mem-cut h S.good (apply (lacked v h) (arena_words a)) S.mem);
        rec = S.rec;
      }

-- ---- the ways to read a heap, as the code has it: words q of the record, and the answer x about them
module _ (v : ℕ) (a r q : List ℕ) (x : Audited) (eq : q ≡ words_of r) (ex : x ≡ audit_by v (arena_words a) q) where
  by-record : x ≡ audit_by v (arena_words a) (words_of r)
  by-record = ex ∙ ap (audit_by v (arena_words a)) eq

  pub read-as-it-is : (newest ≤ v) ⊎ (sound? x ≡ false) → after_reading a r (Ok x) ≡ heap_read v a r
  read-as-it-is d =
      ap (λ (x : Audited). after_reading a r (Ok x)) by-record
      ∙ ⊎_elim (λ l. heap-new v a r l) (λ e. heap-unsound v a r (ap sound? (sym by-record) ∙ e)) d

  module _ (s : shape? a r ≡ true) (small : Small r) (known : known? v ≡ true) (old : v < newest) (e : sound? x ≡ true) where
    was-sound : SoundBy v (heap_in a r) (arena_words a) q
    was-sound = subst (SoundBy v (heap_in a r) (arena_words a)) (sym eq) (old-sound v a r s small (sym by-record ∙ is-sound x e))

    pub read-old : Old v (arena_words a) q
    read-old = record { first = (known-true v known).0; older = old; heap = heap_in a r; sound = was-sound }

    pub read-completed : (b : List ℕ) → Octets b → ((h : Heap) → SoundBy v h (arena_words a) q → arena_words b ≡ apply (lacked v h) (arena_words a)) → after_reading b r (Ok x) ≡ heap_read v a r
    read-completed b o k =
        ap (λ (b : List ℕ). after_reading b r (Ok x)) (sym (bytes-arena_words b o.even o.small) ∙ ap (bytes 8) (k (heap_in a r) was-sound))
        ∙ ap (λ (x : Audited). after_reading (completed v (heap_in a r) a) r (Ok x)) by-record ∙ heap-completed v a r old (ap sound? (sym by-record) ∙ e)

module _ (f a r b q : List ℕ) (x : Audited) (small : Small f) (e : read_call f a r ≡ after_reading b q (Ok x)) where
  T : TakenFrom f a r b q x
  T = taken f a r b q x e

  abbrev before : Heap
  before = heap_in (arena_in f) (record_in f)

  -- ---- an older version, and sound by its rules
  module _ (old : version_in f < newest) (s : sound? x ≡ true) where
    left-sound : Sound before (arena_words b) (words_of q)
    left-sound =
        let L = parts-long f a r T.fits in
        rw (T.complete old s, T.control) (completed-left (version_in f) (arena_in f) (record_in f) (known-true (version_in f) T.known).0 old (shape-true (arena_in f) (record_in f) L.1 (ap arena_allowed? L.0 ∙ shape-allowed a r T.fits.shape)) (record-small f small) (sym T.audit ∙ is-sound x s))

    -- it is left sound by the newest rules, the same heap
    pub read-old-sound : (audit_call b q ≡ Ok tt) × (heap_in b q ≡ before)
    read-old-sound = (
      sym (audit-good b q (words_of q) (Ok tt) (taken-shape f a r b q x T).0 refl (sym (audit-complete before (arena_words b) (words_of q) left-sound))),
      audit-read before (arena_words b) (words_of q) left-sound,
    )

    old-audits : x ≡ audit_by (version_in f) (arena_words b) (words_of q)
    old-audits = is-sound x s ∙ sym (audit-complete-by (version_in f) before (arena_words b) (words_of q) (by-rules (λ z. omega arith) (λ z. omega arith) left-sound))

  -- ---- unsound by the rules of its version it is as it stands in the file
  pub read-unsound-as-it-is : sound? x ≡ false → (b ≡ arena_in f) × (q ≡ record_in f)
  read-unsound-as-it-is s = (T.arena (inr s), T.control)

  same-audits : b ≡ arena_in f → x ≡ audit_by (version_in f) (arena_words b) (words_of q)
  same-audits z = T.audit ∙ ap (λ (a : List ℕ). audit_by (version_in f) (arena_words a) (words_of (record_in f))) (sym z) ∙ ap (λ (r : List ℕ). audit_by (version_in f) (arena_words b) (words_of r)) (sym T.control)

  -- ---- the answer of a reading is the audit, by the rules of the file's version, of what it left
  pub read-audits : x ≡ audit_by (version_in f) (arena_words b) (words_of q)
  read-audits = ⊎_elim (λ l. by l (sound? x) refl) (λ l. same-audits (T.arena (inl l))) (lt-or-le (version_in f) newest)
    where
      by : version_in f < newest → (t : Bool) → sound? x ≡ t → x ≡ audit_by (version_in f) (arena_words b) (words_of q)
      by l true s = old-audits l s
      by l false s = same-audits (T.arena (inr s))

  -- ---- sound by the rules of its version it is left sound by the newest
  pub read-sound : sound? x ≡ true → audit_call b q ≡ Ok tt
  read-sound s = ⊎_elim
      (λ l. (read-old-sound l s).0)
      (λ l.
      let v : version_in f ≡ newest = omega (arith, (known-true (version_in f) T.known).1) in
      sym (audit-good b q (words_of q) x (taken-shape f a r b q x T).0 refl (read-audits ∙ ap (λ (n : ℕ). audit_by n (arena_words b) (words_of q)) v)) ∙ is-sound x s)
      (lt-or-le (version_in f) newest)

  -- ---- what was read may be lent to calls: it has a good shape, and each byte is below 256
  arena-small : Small b
  arena-small = ⊎_elim (λ l. by l (sound? x) refl) (λ l. as-it-is (T.arena (inl l))) (lt-or-le (version_in f) newest)
    where
      as-it-is : b ≡ arena_in f → Small b
      as-it-is z = subst Small (sym z) (small-drop (9 + record_bytes_by (version_in f)) f small)

      by : version_in f < newest → (t : Bool) → sound? x ≡ t → Small b
      by l true s = subst Small (sym (T.complete l s)) (bytes_small 8 (apply (lacked (version_in f) before) (arena_words (arena_in f))))
      by l false s = as-it-is (T.arena (inr s))

  pub read-lent : Lent b q
  read-lent =
      let S = (taken-shape f a r b q x T).0 in
      let n = allowed-true (length b) (shape-allowed b q S) in
      record { even = n.0; least = n.1; most = n.2; long = shape-long b q S; bytes = arena-small; words = subst Small (sym T.control) (record-small f small) }
