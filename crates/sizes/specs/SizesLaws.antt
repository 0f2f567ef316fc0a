-- The laws of what a request needs, and of the cache list and the fast list of a size. All are linear: omega shows each. Assumes nothing.
use Rattle.std.specs.Prelude.{◌≡◌, ℕ, ◌+◌, ◌*◌, ◌%◌, ◌≤◌, ◌<◌}
use Rattle.std.proofs.Common.{arith}
use Rattle.sizes.specs.Sizes.{need, usable, cache_of, fast_of}

-- what holds of the size that a request of n bytes needs
pub record NeedBounds (n s : ℕ) : Type 0 where
  pub least : 32 ≤ s
  pub whole : s % 16 ≡ 0
  pub holds : n + 8 ≤ s
  pub most : n ≤ 262144 → s ≤ 262160

pub need-bounds : (n : ℕ) → NeedBounds n (need n)
unfolding need
need-bounds n = record { least = omega arith; whole = omega arith; holds = omega arith; most = λ h. omega arith }

pub need-usable : (n : ℕ) → n ≤ usable (need n)
unfolding usable
need-usable n = omega (arith, (need-bounds n).holds)

-- a list takes one size
pub cache_of-size : (s : ℕ) → s % 16 ≡ 0 → 32 ≤ s → 32 + 16 * cache_of s ≡ s
unfolding cache_of
cache_of-size s e h = omega arith

pub fast_of-size : (s : ℕ) → s % 16 ≡ 0 → 32 ≤ s → 32 + 16 * fast_of s ≡ s
unfolding fast_of
fast_of-size s e h = omega arith

pub cache_of-fast_of : (s : ℕ) → 32 ≤ s → cache_of s ≡ fast_of s
unfolding cache_of fast_of
cache_of-fast_of s h = omega arith

pub cache_of-bound : (s : ℕ) → s ≤ 1040 → cache_of s < 64
unfolding cache_of
cache_of-bound s h = omega arith

pub fast_of-bound : (s : ℕ) → s ≤ 128 → fast_of s < 7
unfolding fast_of
fast_of-bound s h = omega arith
