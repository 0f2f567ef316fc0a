-- A ring chunk by chunk: c comes next in the list, s is its size, the last group begins at q and is of the size z. Definitions only.
use Rattle.std.specs.Prelude.{List, [], ◌∷◌, true, false, ℕ, eqb}
use Rattle.machine.specs.Writes.{Write, skip_fwd, skip_back}
use Rattle.machine.specs.Skips.{no_skips}

-- from q forward to c and back
abbrev pub linked_by : ℕ → ℕ → List Write
linked_by q c = skip_fwd q c ∷ skip_back c q ∷ []

-- where the group that c is in begins, and what is written for c
abbrev pub group_of : ℕ → ℕ → ℕ → ℕ → ℕ
group_of z s q c = elim (eqb s z) [ true ↦ q | false ↦ c ]

abbrev pub member : ℕ → ℕ → ℕ → ℕ → List Write
member z s q c = elim (eqb s z) [ true ↦ no_skips c | false ↦ linked_by q c ]
