-- Where a size belongs: document 01's numbers of a request and of a chunk size. Definitions only.
use Rattle.std.specs.Prelude.{true, false, List, [], ◌∷◌, ℕ, ◌+◌, ◌-◌, ◌*◌, ◌/◌, max, ltb, leb}
use Rattle.sizes.specs.declared.bins.Row.{Row}

-- the chunk size that a request of n bytes needs: n + 23 rounded down to a multiple of 16, and at least 32
unfoldable pub need : ℕ → ℕ
need n = max 32 ((n + 23) / 16 * 16)

-- the usable bytes of a chunk of size s
unfoldable pub usable : ℕ → ℕ
usable s = s - 8

-- the cache list of a size, for sizes up to 1,040
unfoldable pub cache_of : ℕ → ℕ
cache_of s = (s - 32) / 16

-- the fast list of a size, for sizes up to 128
unfoldable pub fast_of : ℕ → ℕ
fast_of s = s / 16 - 2

-- document 01's lines for the sizes of 1,024 or more, in its order: s/divisor ≤ limit gives base + s/divisor
abbrev pub rows : List Row
rows =
    record { divisor = 64; limit = 48; base = 48 }
    ∷ record { divisor = 512; limit = 20; base = 91 }
    ∷ record { divisor = 4096; limit = 10; base = 110 }
    ∷ record { divisor = 32768; limit = 4; base = 119 }
    ∷ record { divisor = 262144; limit = 2; base = 124 }
    ∷ []

-- the first line that applies; 126 after them
abbrev pub first_line : List Row → ℕ → ℕ
first_line [] s = 126
first_line (r ∷ rs) s = elim (leb (s / r.divisor) r.limit) [ true ↦ r.base + s / r.divisor | false ↦ first_line rs s ]

-- the bin of a size of 1,024 or more
unfoldable pub large_bin : ℕ → ℕ
large_bin s = first_line rows s

-- the bin of a size; 0, which is no bin, for what is no chunk's size
unfoldable pub bin_of : ℕ → ℕ
bin_of s = elim (ltb s 32) [ true ↦ 0 | false ↦ elim (ltb s 1024) [ true ↦ s / 16 | false ↦ large_bin s ] ]
