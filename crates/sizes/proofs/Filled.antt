-- The table that a function fills, and its entries. A constant table of the code that is the same list by computation has the same entries:
-- that comparison is the one test over the whole table. Assumes nothing.
use mathlib.Core.Path.{◌≡◌, ◌∙◌}
use mathlib.Core.List.{List, [], ◌∷◌}
use Prim.Native.Nat.{ℕ, zero, suc, ◌+◌, ◌<◌}
use native.Mathlib.Nat.{add-zero, zero-add, add-suc, suc-add, le_of_suc-le-suc, not-suc-le-zero}
use lib.ListN.{get_or}

-- f i, f (i + 1), .., n of them
abbrev pub filled_from : (ℕ → ℕ) → ℕ → ℕ → List ℕ
filled_from f i zero = []
filled_from f i (suc n) = f i ∷ filled_from f (suc i) n

get_d-filled_from : (f : ℕ → ℕ) (i n k : ℕ) → k < n → get_or (filled_from f i n) k 0 ≡ f (i + k)
get_d-filled_from f i zero k h = absurd (not-suc-le-zero h)
get_d-filled_from f i (suc n) zero h = rw add-zero
get_d-filled_from f i (suc n) (suc k) h = get_d-filled_from f (suc i) n k (le_of_suc-le-suc h) ∙ rw (suc-add i k, add-suc i k)

pub get_d-filled : (f : ℕ → ℕ) (n k : ℕ) → k < n → get_or (filled_from f 0 n) k 0 ≡ f k
get_d-filled f n k h = get_d-filled_from f 0 n k h ∙ rw zero-add
