-- Document 01's boundary figures, one statement over one list: antt computes that every one of them holds. Assumes nothing.
use Rattle.std.specs.Prelude.{◌≡◌, refl, Bool, true, false, List, [], ◌∷◌, ℕ, ltb, leb, eqb}
use Rattle.sizes.specs.Limits.{most_cached}
use Rattle.sizes.specs.Sizes.{need, cache_of, large_bin, bin_of}

pub data Figure : Type 0 where
  needs : ℕ → ℕ → Figure  -- a request of so many bytes needs this size
  cached : ℕ → ℕ → Figure  -- chunks of this size go to this cache list
  uncached : ℕ → Figure  -- chunks of this size are never cached
  binned : ℕ → ℕ → Figure  -- chunks of this size go to this bin

abbrev both : Bool → Bool → Bool
both true b = b
both false b = false

pub holds : Figure → Bool
holds (needs n s) = eqb (need n) s
holds (cached s k) = both (leb s most_cached) (eqb (cache_of s) k)
holds (uncached s) = ltb most_cached s
holds (binned s j) = eqb (bin_of s) j

pub hold : List Figure → Bool
hold [] = true
hold (f ∷ fs) = both (holds f) (hold fs)

pub figures : List Figure
figures =
    needs 0 32 ∷ needs 24 32 ∷ needs 25 48 ∷ needs 40 48 ∷ needs 41 64 ∷ needs 120 128 ∷ needs 121 144
    ∷ needs 1032 1040 ∷ cached 1040 63 ∷ needs 1033 1056 ∷ uncached 1056
    ∷ binned 1008 63 ∷ binned 1024 64 ∷ binned 3120 96 ∷ binned 3136 97 ∷ binned 45040 120 ∷ binned 45056 120 ∷ []

pub figures-hold : hold figures ≡ true
unfolding figures hold holds need cache_of large_bin bin_of
figures-hold = refl
