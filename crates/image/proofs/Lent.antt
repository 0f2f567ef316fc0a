-- A file read into any buffers of the right lengths gives the same: what is read does not depend on what the buffers held, and where the arena lent is not as
-- long as the file says, no arena would do. Assumes nothing.
use Rattle.std.specs.Prelude.{◌≡◌, refl, List, Bool, true, false, ℕ, ◌≤◌, eqb, length, replicate, Ok, Err}
use Rattle.std.proofs.Common.{sym, ap, ◌∙◌, arith, eqb-true, eq-eqb}
use Rattle.std.proofs.lemmas.List.{length-replicate}
use Rattle.sizes.specs.Limits.{record_bytes}
use Rattle.machine.specs.Lists.{both}
use Rattle.machine.specs.Calls.{arena_allowed?}
use Rattle.calls.specs.Ways.{allowed-true}
use Rattle.image.specs.declared.Unread.TheVariants.{NoMark, NoVersion, WrongLength}
use Rattle.image.specs.Image.{version_in, length_in, image_bytes, fits?, AfterReading, after_reading, read_call, Reading}
use Rattle.image.specs.Ways.{clash, read-no-mark, read-no-version, read-wrong-length, read_through}
use Rattle.image.proofs.Cases.{read-cases}
use Rattle.machine.specs.Audit.{Audited}

-- what is lent to read f into: a record, and an arena of the length that f says, unless that is none
pub record Lent (f a r : List ℕ) : Type 0 where
  pub arena : 9 ≤ length f → length_in f ≤ 262144 → length a ≡ length_in f
  pub long : length r ≡ record_bytes

tests_same : (p q s t : Bool) → (p ≡ true → q ≡ true → s ≡ t) → both p (both q s) ≡ both p (both q t)
tests_same true true s t h = h refl refl
tests_same true false s t h = refl
tests_same false q s t h = refl

module _ (f : List ℕ) where
  pub lent-zeros : Lent f (replicate (length_in f) 0) (replicate record_bytes 0)
  lent-zeros = record { arena = λ h k. length-replicate (length_in f) 0; long = refl }

  lent-lengths : (a r : List ℕ) → Lent f a r → arena_allowed? (length_in f) ≡ true → eqb (length f) (image_bytes (version_in f) (length_in f)) ≡ true
      → both (eqb (length a) (length_in f)) (eqb (length r) record_bytes) ≡ true
  lent-lengths a r l p q =
      let n : length f ≡ image_bytes (version_in f) (length_in f) = eqb-true (length f) (image_bytes (version_in f) (length_in f)) q in
      let e : length a ≡ length_in f = l.arena (omega arith) (allowed-true (length_in f) p).2 in
      rw (eq-eqb (length a) (length_in f) e, both) (eq-eqb (length r) record_bytes l.long)

  fits-same : (a r b q : List ℕ) → Lent f a r → Lent f b q → fits? f a r ≡ fits? f b q
  fits-same a r b q l k =
      tests_same (arena_allowed? (length_in f)) (eqb (length f) (image_bytes (version_in f) (length_in f))) _ _ (λ s t. lent-lengths a r l s t ∙ sym (lent-lengths b q k s t))

-- whatever is made of a reading, that does not look into the buffers of a refused one
abbrev pub Blind {ℓ} : {X : Type ℓ} → (AfterReading → X) → Reading → Type ℓ
Blind g x = (a r b q : List ℕ) → g (after_reading a r x) ≡ g (after_reading b q x)

pub read_same {ℓ} : {X : Type ℓ} (g : AfterReading → X) → Blind g (Err NoMark) → Blind g (Err NoVersion) → Blind g (Err WrongLength)
    → (f a r b q : List ℕ) → Lent f a r → Lent f b q → g (read_call f a r) ≡ g (read_call f b q)
read_same g six seven one f a r b q l k =
    let e : fits? f a r ≡ fits? f b q = fits-same f a r b q l k in
    read-cases (λ y. g y ≡ g (read_call f b q)) f a r
    (λ m. six a r b q ∙ ap g (read-no-mark f b q m))
    (λ m v. seven a r b q ∙ ap g (read-no-version f b q m v))
    (λ m v t. one a r b q ∙ ap g (read-wrong-length f b q m v (sym e ∙ t)))
    (λ m v t. ap g (read_through f b q m v (sym e ∙ t)))

-- what is read once is read again
pub read_again : (f a r b q c s : List ℕ) (x : Audited) → Lent f a r → Lent f b q → read_call f a r ≡ after_reading c s (Ok x) → read_call f b q ≡ after_reading c s (Ok x)
read_again f a r b q c s x l k =
    read-cases (λ y. y ≡ after_reading c s (Ok x) → read_call f b q ≡ after_reading c s (Ok x)) f a r
    (λ m e. clash (cc))
    (λ m v e. clash (cc))
    (λ m v t e. clash (cc))
    (λ m v t e. sym (read_through f b q m v (sym (fits-same f a r b q l k) ∙ t)) ∙ e)
