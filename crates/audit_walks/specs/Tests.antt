-- Tests of the audit taken apart: what holds where a chain of tests finds no fault. By cases on the tests. Assumes nothing.
use Rattle.std.specs.Prelude.{◌≡◌, refl, Bool, true, false, ◌⊎◌, T, Ok, Err}
use Rattle.std.proofs.Common.{sym, ap, ◌∙◌, subst, inl, inr}
use Rattle.machine.specs.Lists.{either}
use Rattle.machine.specs.Audit.{sound?, first, Audited}

pub false-true : {B : Type 0} → ◌≡◌ {A = Bool} false true → B
false-true {B} e = absurd (subst T (sym e) tt)

pub not_sound : {B : Type 0} (x : Audited) → sound? x ≡ false → x ≡ Ok tt → B
not_sound {B} x f e = false-true (sym f ∙ ap sound? e)

pub is-sound : (x : Audited) → sound? x ≡ true → x ≡ Ok tt
is-sound (Ok u) e = refl
is-sound (Err f) e = false-true e

pub either_true : (a b : Bool) → either a b ≡ true → (a ≡ true) ⊎ (b ≡ true)
either_true true b e = inl refl
either_true false b e = inr e

pub either_left : (a b : Bool) → a ≡ true → either a b ≡ true
either_left a b e = rw (e, either)

pub either-right : (a b : Bool) → b ≡ true → either a b ≡ true
either-right true b e = refl
either-right false b e = e

-- a fault where the test fails
pub sound-if : (b : Bool) (x y : Audited) → sound? y ≡ false → ◌≡◌ {A = Audited} (elim b [ true ↦ x | false ↦ y ]) (Ok tt) → (b ≡ true) × (x ≡ Ok tt)
sound-if true x y f e = (refl, e)
sound-if false x y f e = not_sound y f e

pub first-sound : (x y : Audited) → first x y ≡ Ok tt → (x ≡ Ok tt) × (y ≡ Ok tt)
first-sound x y e = go (sound? x) refl e
  where
    go : (b : Bool) → sound? x ≡ b → ◌≡◌ {A = Audited} (elim b [ true ↦ y | false ↦ x ]) (Ok tt) → (x ≡ Ok tt) × (y ≡ Ok tt)
    go true q e = (is-sound x q, e)
    go false q e = not_sound x q e

pub first-fault : (x y : Audited) → sound? x ≡ false → first x y ≡ x
first-fault x y e = rw (e, first)
