-- A text that ends with the rectangles and what stands behind them has them; and a file read into any buffers of the right lengths gives the picture that it
-- gives read into zeros. Assumes nothing.
use Rattle.std.proofs.Common.{◌≡◌, ℕ, true, List, ◌++◌, refl, sym, ap, ◌∙◌, subst, append_assoc, Ok}
use Rattle.machine.specs.Calls.{words_of}
use Rattle.image.specs.Image.{version_in, AfterReading, after_reading, read_call, Reading}
use Rattle.image.proofs.Lent.{Lent, lent-zeros, read_same}
use Rattle.audit_reached.specs.Reached.{tiled?}
use Rattle.image_text.specs.ImageText.{arena_text}
use Rattle.image_text.specs.declared.Form.TheVariants.{Rects}
use Rattle.image_svg.specs.Picture.{HasRects, Shows, Pictured, PictureOf}
use Rattle.machine.specs.Audit.{Audited}

-- p: the text before the rectangles
pub rects-in : (v : ℕ) (a w t : List ℕ) {p q x y : List ℕ} → p ≡ q → x ≡ p ++ arena_text Rects v a w → y ≡ x ++ t → HasRects v a w y
rects-in v a w t {p = p} e f g = record { before = p; after = t; is = g ∙ rw (f, append_assoc) }

pub shows-of : (v : ℕ) (a r : List ℕ) {q t : List ℕ} → q ≡ words_of r → HasRects v a q t → Shows v a r t
shows-of v a r e h = rw e at h

pub pictured-of : (v : ℕ) (a r t : List ℕ) {x y : Reading} → x ≡ y → Pictured v (after_reading a r y) t → Pictured v (after_reading a r x) t
pictured-of v a r t e h = subst (λ z. Pictured v (after_reading a r z) t) (sym e) h

pub heap-pictured-of : (f a r t : List ℕ) {v : ℕ} {x : Reading} {y : Audited} → x ≡ Ok y → v ≡ version_in f → (tiled? y ≡ true → Shows v a r t)
    → Pictured (version_in f) (after_reading a r x) t
heap-pictured-of f a r t e k h = pictured-of (version_in f) a r t e (λ yes. subst (λ (n : ℕ). Shows n a r t) k (h yes))

pub read-picture : (f a r b q t u : List ℕ) (x : Reading) → Lent f a r → after_reading b q x ≡ read_call f a r
    → Pictured (version_in f) (after_reading b q x) t → t ≡ u → PictureOf f u
read-picture f a r b q t u x l e h same =
    let pictured : AfterReading → Type 0 = λ y. Pictured (version_in f) y t in
    subst (PictureOf f) same
    (subst (λ (P : Type 0). P) (ap pictured e ∙ read_same pictured (λ a r b q. refl) (λ a r b q. refl) (λ a r b q. refl) f a r _ _ l (lent-zeros f)) h)
