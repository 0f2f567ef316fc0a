-- The list of a kind, as it is read, and that a bin can be walked for its skip links. Definitions only.
use Rattle.std.specs.Prelude.{◌≡◌, List, ℕ, ◌≤◌, length, get_or}
use Rattle.sizes.specs.Limits.{large, first_large}
use Rattle.machine.specs.Lists.{cnt}
use Rattle.machine.specs.View.{size_at, up, chunks_by, head_word, edition_in, links_by}
use Rattle.machine.specs.declared.ListKind.{ListKind}
use Rattle.machine.specs.declared.ListKind.TheVariants.{Bin}
use Rattle.skip_links.specs.Walk.{Walk}

abbrev pub head_of : List ℕ → ListKind → ℕ
head_of r k = up (get_or r (head_word k) 0)

-- how its forward links are stored, by the record's edition
abbrev pub links_in : List ℕ → ListKind → ℕ
links_in r k = links_by k (edition_in r)

unfoldable pub list_of : List ℕ → List ℕ → ListKind → List ℕ
list_of w r k = chunks_by (links_in r k) (length w) w (head_of r k)

-- the chunks of a bin stand in the words w, along links that are as they are, and lie apart; those of a bin from 64 on are large
pub record KindWalk (k : ListKind) (w r : List ℕ) : Type 0 where
  pub walk : (j : ℕ) → k ≡ Bin j → Walk w (head_of r k) (list_of w r k)
  pub roomy : (j : ℕ) → k ≡ Bin j → first_large ≤ j → (y : ℕ) → 1 ≤ cnt y (list_of w r k) → large ≤ size_at w y
