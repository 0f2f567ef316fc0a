-- A link of the arena as a word of the record: none is none. (`up` of the machine is the way back.) Definitions only.
use Rattle.std.specs.Prelude.{true, false, ℕ, eqb}
use Rattle.sizes.specs.Limits.{none64, none32}

abbrev pub down : ℕ → ℕ
down x = elim (eqb x none64) [ true ↦ none32 | false ↦ x ]
