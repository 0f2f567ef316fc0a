-- Which sizes a list owns: the machine's test of a size, kind by kind, and that it is passed by the sizes from a least to a most one. Definitions only.
use Rattle.std.specs.Prelude.{◌≡◌, Bool, ℕ, ◌+◌, ◌*◌, ◌≤◌, ◌<◌, ◌^◌, eqb, leb}
use Rattle.sizes.specs.Limits.{most_fast, unsorted, last_bin}
use Rattle.sizes.specs.Sizes.{bin_of}
use Rattle.machine.specs.Lists.{both, either}
use Rattle.machine.specs.declared.ListKind.{ListKind}
use Rattle.machine.specs.declared.ListKind.TheVariants.{Cache, Fast, Bin}

-- what may_stand asks of a size alone
abbrev pub own_size : ListKind → ℕ → Bool
own_size (Cache k) s = eqb s (32 + 16 * k)
own_size (Fast k) s = both (eqb s (32 + 16 * k)) (leb s most_fast)
own_size (Bin j) s = either (eqb j unsorted) (eqb (bin_of s) j)

-- the 64-bit sizes from least to most are those that a list owns
abbrev pub Owns : ListKind → ℕ → ℕ → Type 0
Owns k least most = (s : ℕ) → s < 2 ^ 64 → own_size k s ≡ both (leb least s) (leb s most)

-- a bin has a number from 1 to 126
abbrev pub Numbered : ListKind → Type 0
Numbered (Cache k) = Unit {0}
Numbered (Fast k) = Unit {0}
Numbered (Bin j) = (unsorted ≤ j) × (j ≤ last_bin)
