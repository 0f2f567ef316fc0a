-- What the skipping of empty lists speaks of: words of the record in a row, an empty list, a run of them. Definitions only.
use Rattle.std.specs.Prelude.{◌≡◌, List, true, ℕ, ◌+◌, ◌≤◌, ◌<◌, get_or}
use Rattle.sizes.specs.Limits.{none64}
use Rattle.machine.specs.View.{up, kind_at, head_word}
use Rattle.machine.specs.Audit.{may_end}
use Rattle.machine.specs.declared.ListKind.{ListKind}

-- n words of the record from f on are v
abbrev pub AllFrom : List ℕ → ℕ → ℕ → ℕ → Type 0
AllFrom r f n v = (i : ℕ) → i < n → get_or r (f + i) 0 ≡ v

-- a list that has no chunk and ends rightly
abbrev pub Empty : List ℕ → ListKind → Type 0
Empty r k = (up (get_or r (head_word k) 0) ≡ none64) × (may_end k r none64 0 ≡ true)

-- from list i on, up to list j, each list is so
pub record Skipped (r : List ℕ) (i j : ℕ) : Type 0 where
  pub low : i ≤ j
  pub high : j ≤ 200
  pub empty : (x : ℕ) → i ≤ x → x < j → Empty r (kind_at x)
