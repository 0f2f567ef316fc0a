-- A chunk's offset and its mem's: 16 apart, and each conversion undoes the other. Assumes nothing.
use Rattle.std.specs.Prelude.{◌≡◌, ℕ, ◌+◌, ◌-◌, ◌≤◌}
use Rattle.std.proofs.Common.{arith}

abbrev pub mem_of : ℕ → ℕ
mem_of c = c + 16

abbrev pub chunk_of : ℕ → ℕ
chunk_of m = m - 16

pub chunk_of-mem_of : (c : ℕ) → chunk_of (mem_of c) ≡ c
chunk_of-mem_of c = omega arith

pub mem_of-chunk_of : (m : ℕ) → 16 ≤ m → mem_of (chunk_of m) ≡ m
mem_of-chunk_of m h = omega arith
