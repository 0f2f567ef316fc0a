-- Whether a cached chunk is asked for the key, and for which: by version v of the rules, and by the record r. Definitions only.
use Rattle.std.specs.Prelude.{◌≡◌, List, ℕ, ◌≤◌, ◌<◌, Option, Some, None}
use Rattle.machine.specs.View.{key_in}

abbrev pub Asks : ℕ → List ℕ → Option ℕ → Type 0
Asks v r (Some q) = (2 ≤ v) × (q ≡ key_in r)
Asks v r None = v < 2
