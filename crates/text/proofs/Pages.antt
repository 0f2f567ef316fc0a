-- What is printed in steps: the texts stand one behind the other. Assumes nothing.
use Rattle.std.specs.Prelude.{◌≡◌, List, [], ◌++◌, ℕ, ◌+◌, ◌≤◌}
use Rattle.std.proofs.Common.{arith, ◌∙◌, refl, append_assoc, append-nil}
use Rattle.text.specs.declared.Page.{Page}
use Rattle.text.specs.Pages.{Adds}

pub adds-nothing : {p : Page} → Adds 0 p p []
adds-nothing = record { within = omega arith; written = rw append-nil; room = refl; same = refl }

-- one text, and then another
infixr 5 ◌▹◌
pub ◌▹◌ : {m n : ℕ} {p q r : Page} {s t : List ℕ} → Adds m p q s → Adds n q r t → Adds (m + n) p r (s ++ t)
a ▹ b = record {
  within = omega arith;
  written = b.written ∙ rw a.written (simp append_assoc);
  room = b.room ∙ a.room;
  same = b.same ∙ a.same;
}

-- the same text in other words, and a larger bound
pub adds-as : {m n : ℕ} {p q : Page} {s t : List ℕ} → m ≤ n → s ≡ t → Adds m p q s → Adds n p q t
adds-as l e a = record { within = omega arith; written = a.written ∙ rw e; room = a.room; same = a.same }
