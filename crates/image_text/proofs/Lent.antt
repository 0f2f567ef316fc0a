-- A file read into any buffers of the right lengths gives its text. A file that is read has a version, and what is answered is the audit by its rules.
-- Assumes nothing.
use Rattle.std.proofs.Common.{◌≡◌, ℕ, ◌≤◌, ◌<◌, Bool, List, length, get_or, refl, sym, ap, ◌∙◌, Ok}
use Rattle.image.specs.Image.{version_in, after_reading, read_call, Reading}
use Rattle.image.specs.Ways.{marked-long}
use Rattle.image.proofs.Lent.{Lent, lent-zeros, read_same}
use Rattle.image.proofs.Parts.{taken, taken-shape}
use Rattle.image.proofs.Older.{read-audits}
use Rattle.image_text.specs.ImageText.{AuditedBy, heap_text, read_text, image_text}
use Rattle.machine.specs.Audit.{Audited}

pub text_of : (d : Bool) (v : ℕ) (a r : List ℕ) {t : List ℕ} {x y : Reading} → x ≡ y → t ≡ read_text d v (after_reading a r y) → t ≡ read_text d v (after_reading a r x)
text_of d v a r e h = rw e h

pub heap-of : (d : Bool) (f a r : List ℕ) {t : List ℕ} {v : ℕ} {x : Reading} {y : Audited} → x ≡ Ok y → v ≡ version_in f → t ≡ heap_text d v a r y
    → t ≡ read_text d (version_in f) (after_reading a r x)
heap-of d f a r e k h = text_of d (version_in f) a r e (h ∙ rw k)

module _ (f : List ℕ) where
  pub read-text : (d : Bool) (a r b q : List ℕ) (x : Reading) → Lent f a r → after_reading b q x ≡ read_call f a r
      → read_text d (version_in f) (after_reading b q x) ≡ image_text d f
  unfolding image_text
  read-text d a r b q x l e =
      let text = read_text d (version_in f) in
      ap text e ∙ read_same text (λ a r b q. refl) (λ a r b q. refl) (λ a r b q. refl) f a r _ _ l (lent-zeros f)

  -- what was read has a version, by whose rules the answer is the audit's
  pub read-audited : (a r b q : List ℕ) (x : Reading) → ((i : ℕ) → get_or f i 0 < 256) → after_reading b q x ≡ read_call f a r
      → (y : Audited) → x ≡ Ok y → (5 ≤ length f) × AuditedBy (version_in f) b q y
  read-audited a r b q x small e y is =
      let k : read_call f a r ≡ after_reading b q (Ok y) = sym e ∙ ap (after_reading b q) is in
      let t = taken f a r b q y k in
      (marked-long f t.mark, record { shape = (taken-shape f a r b q y t).0; is = read-audits f a r b q y small k })
