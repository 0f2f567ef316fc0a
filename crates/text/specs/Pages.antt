-- What a function that prints does to a page. Definitions only.
use Rattle.std.specs.Prelude.{◌≡◌, List, ◌++◌, ℕ, ◌+◌, ◌≤◌, length, take}
use Rattle.text.specs.declared.Page.{Page}

-- n further bytes fit
abbrev pub Room : ℕ → Page → Type 0
Room n page = page.at + n ≤ length page.out.now

-- at most n bytes are written behind what was; the buffer is the same
abbrev pub Grows : ℕ → Page → Page → Type 0
Grows n old new = (new.at ≤ old.at + n) × (length new.out.now ≡ length old.out.now) × (new.out.ghost_name ≡ old.out.ghost_name)

-- behind what was written the page has the text, which is at most n bytes; the buffer is the same
pub record Adds (n : ℕ) (old new : Page) (text : List ℕ) : Type 0 where
  pub within : new.at ≤ old.at + n
  pub written : take new.at new.out.now ≡ take old.at old.out.now ++ text
  pub room : length new.out.now ≡ length old.out.now
  pub same : new.out.ghost_name ≡ old.out.ghost_name
