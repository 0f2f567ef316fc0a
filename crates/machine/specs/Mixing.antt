-- Links as glibc 2.32 stores them (document 02, (xi)): how the forward link of a chunk in a cache or fast list stands in the arena, by the edition, and how it is
-- read. Edition 1 stores it as it is, edition 2 as the link exclusive-or the link field's own position divided by 4,096, the end mark alike. Definitions only.
use Rattle.std.specs.Prelude.{true, false, ℕ, ◌+◌, ◌/◌, eqb}
use Rattle.std.specs.Int.Bits.{bit_xor}
use Rattle.sizes.specs.Limits.{mixed}

-- the link x of the chunk c, stored; what is stored is read by the same rule (`stored-twice`)
abbrev pub stored : ℕ → ℕ → ℕ → ℕ
stored d c x = elim (eqb d mixed) [ true ↦ bit_xor ((c + 16) / 4096) x | false ↦ x ]
