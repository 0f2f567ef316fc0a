-- `Page::decimal` meets its contract: by the number of places; with more than one digit the digits before the last are written first. Assumes nothing.
use Rattle.std.specs.Prelude.{◌≡◌, [], ◌∷◌, ℕ, zero, suc, ◌+◌, ◌-◌, ◌/◌, ◌%◌, ◌≤◌, ◌<◌}
use Rattle.std.proofs.Common.{arith, refl}
use borrow.Author.Tests.{le-ltb, lt-ltb}
use Rattle.text.specs.declared.Page.{Page}
use Rattle.text.specs.Text.{decimal}
use Rattle.text.specs.Pages.{Adds}
use Rattle.text.proofs.Pages.{adds-nothing, ◌▹◌, adds-as}
use Rattle.text.proofs.Page.+decimal.Goals as goal

no-places : (k n : ℕ) {p : Page} → k ≡ 0 → Adds k p p (decimal k n)
unfolding decimal
no-places zero n z = adds-nothing
no-places (suc k) n z = absurd (omega arith)

one-digit : (k n : ℕ) {p q : Page} → (k ≡ 0 → ⊥) → n < 10 → Adds 1 p q ((48 + n) ∷ []) → Adds k p q (decimal k n)
unfolding decimal
one-digit zero n z h a = absurd (z refl)
one-digit (suc k) n z h a = adds-as (omega arith) (rw (decimal, lt-ltb n 10 h)) a

more-digits : (k n : ℕ) {p q r : Page} → (k ≡ 0 → ⊥) → 10 ≤ n → Adds (k - 1) p q (decimal (k - 1) (n / 10)) → Adds 1 q r ((48 + n % 10) ∷ []) → Adds k p r (decimal k n)
unfolding decimal
more-digits zero n z h a b = absurd (z refl)
more-digits (suc k) n z h a b = let m : suc k - 1 ≡ k = omega arith in adds-as (omega arith) (rw (m, decimal, le-ltb n 10 h)) (a ▹ b)

pub returns-then-places-eq0 : goal.returns-then-places-eq0
returns-then-places-eq0 t c = no-places _ _ c.if-places-eq0.true

pub returns-then-n-lt10 : goal.returns-then-n-lt10
returns-then-n-lt10 t c = one-digit _ _ c.if-places-eq0.false c.if-n-lt10.true c.byte.ensures.adds

pub returns : goal.returns
returns t c = more-digits _ _ c.if-places-eq0.false c.if-n-lt10.false c.decimal.ensures c.byte-2.ensures.adds
