-- What a request of n bytes needs, with the refusal of number 2. A definition only.
use Rattle.std.specs.Prelude.{true, false, ℕ, ltb, Option, Some, None}
use Rattle.sizes.specs.Limits.{most_request}
use Rattle.sizes.specs.Sizes.{need}

unfoldable pub needed_of : ℕ → Option ℕ
needed_of n = elim (ltb most_request n) [ true ↦ None | false ↦ Some (need n) ]
