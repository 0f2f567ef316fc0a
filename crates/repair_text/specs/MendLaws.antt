-- What heapmend does, by the names that reviewers ask for: a sound heap has no line, a mended image reads sound, and a file that is refused leaves no image. Assumes nothing.
use Rattle.std.specs.Prelude.{◌≡◌, refl, Bool, true, false, List, [], ◌∷◌, ℕ, ◌+◌, length, Ok}
use Rattle.std.proofs.Common.{sym, ap, ◌∙◌, subst, arith, eq-eqb}
use Rattle.le.specs.Arena.{arena_words}
use Rattle.machine.specs.Audit.{sound?, audit_by, Audited}
use Rattle.machine.specs.Calls.{shape?, words_of, audit_call}
use Rattle.audit_walks.specs.Tests.{is-sound}
use Rattle.audit_reached.specs.Reached.{tiled?}
use Rattle.calls.specs.Ways.{allowed-true, shape-allowed, audit-good}
use Rattle.calls_consequences.specs.Results.{arena_left, record_left}
use Rattle.calls_consequences.specs.Left.{lent-shape}
use Rattle.image.specs.Image.{image, version_in, after_reading, read_call}
use Rattle.image.specs.Ways.{clash, length-image}
use Rattle.image.proofs.Lent.{Lent}
use Rattle.image.proofs.Parts.{image-length}
use Rattle.image.proofs.Inverse.{Exactly, read_answered, read-written}
use Rattle.image.proofs.Older.{Small, read-audits, read-sound, read-lent}
use Rattle.repair.specs.RepairCall.{repair_by}
use Rattle.repair.proofs.Ways.{by-sound}
use Rattle.repair.proofs.Consequences.{mended_by, repair-mends, repair-passes}
use Rattle.repair_text.specs.Changes.{record_letter, arena_letter, changes_text, all_changes}
use Rattle.repair_text.specs.ChangesTurn.{change-same}
use Rattle.repair_text.specs.RepairText.{Mending, refused, mends, mends_to, mending, lines_of, image_of, mend_text, mended_image}
use Rattle.repair_text.specs.Mends.{read-mends}

-- ---- where nothing changed there is no line
changes-same : (x k p : ℕ) (os : List ℕ) → changes_text x k p os os ≡ []
unfolding changes_text
changes-same x k p [] = refl
changes-same x k p (o ∷ os) = rw (change-same x p o o (eq-eqb o o refl)) (changes-same x k (p + k) os)

none-changed : (a r : List ℕ) → all_changes a r a r ≡ []
none-changed a r = rw (changes-same record_letter 4 0 (words_of r)) (changes-same arena_letter 8 0 (arena_words a))

-- ---- an image of a heap that passes the audit reads sound
image-reads : (b q c s : List ℕ) → shape? b q ≡ true → audit_call b q ≡ Ok tt → Lent (image b q) c s → read_answered (read_call (image b q) c s) ≡ Ok (Ok tt)
image-reads b q c s h e l =
    let most = (allowed-true (length b) (shape-allowed b q h)).2 in
    let n = image-length b q (omega arith) in
    let k : length c ≡ length b = l.arena (omega (arith, length-image b q)) (omega arith) ∙ n in
    ap read_answered (read-written b q c s h k l.long) ∙ ap Ok e

-- ---- a file f of bytes, read into whatever is lent: what was read has arena bytes b and record bytes q, and the audit by the rules of its version says x
module _ (f a r b q : List ℕ) (x : Audited) (small : Small f) (l : Lent f a r) (e : read_call f a r ≡ after_reading b q (Ok x)) where
  shape : shape? b q ≡ true
  shape = (lent-shape b q (read-lent f a r b q x small e)).1

  audits : x ≡ audit_by (version_in f) (arena_words b) (words_of q)
  audits = read-audits f a r b q x small e

  mends-read : mends_to b q (repair_by (version_in f) b q) ≡ mending f
  mends-read = read-mends f a r b q l (sym e) refl

  as_read : sound? x ≡ true → mends b q b q ≡ mending f
  as_read s = ap (mends_to b q) (by-sound (version_in f) b q (words_of q) x shape refl audits s) ∙ mends-read

  -- sound: nothing is printed
  pub sound-silent : sound? x ≡ true → mend_text f ≡ []
  sound-silent s = ap lines_of (sym (as_read s)) ∙ none-changed b q

  -- no fault of record or tile: the image of what is left reads sound
  pub mended-reads : tiled? x ≡ true → (c s : List ℕ) → Lent (mended_image f) c s → read_answered (read_call (mended_image f) c s) ≡ Ok (Ok tt)
  mended-reads t c s = by (sound? x) refl
    where
      Reads : List ℕ → Type 0
      Reads g = Lent g c s → read_answered (read_call g c s) ≡ Ok (Ok tt)

      by : (u : Bool) → sound? x ≡ u → Reads (mended_image f)
      by true u = subst Reads (ap image_of (as_read u)) (image-reads b q c s shape (read-sound f a r b q x small e u))
      by false u =
          let v : ℕ = version_in f in
          let L = read-lent f a r b q x small e in
          let P = repair-passes v b q L (ap tiled? (sym audits) ∙ t) in
          let m = repair-mends v b q L (ap tiled? (sym audits) ∙ t) (ap sound? (sym audits) ∙ u) in
          let h = (lent-shape _ _ P.lent).1 in
          subst Reads (ap image_of (ap (mends_to b q) (sym m) ∙ mends-read))
          (image-reads (arena_left (mended_by v b q)) (record_left (mended_by v b q)) c s h (sym (audit-good _ _ _ _ h refl (sym (is-sound _ P.sound)))))

-- ---- there is an image of every file but those that are refused
pub refused-leaves-none : (f : List ℕ) → Exactly (mended_image f ≡ []) ((n : ℕ) × (mending f ≡ refused n))
refused-leaves-none f = by (mending f)
  where
    by : (m : Mending) → Exactly (image_of m ≡ []) ((n : ℕ) × (m ≡ refused n))
    by (refused n) = (λ e. (n, refl), λ p. refl)
    by (mends a r b q) = (λ e. absurd (omega (arith, length-image b q, ap length e)), λ p. let z = p.1 in clash (cc))
