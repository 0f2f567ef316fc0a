-- Little-endian numbers in a list of bytes, at any width: reading one, writing one, a whole list of them and back.
-- Definitions only; their laws stand in the files beside this one.
use Rattle.std.specs.Prelude.{List, [], ◌∷◌, ◌++◌, ℕ, zero, suc, ◌+◌, ◌*◌, ◌/◌, ◌%◌, get_or, set, drop}

-- the n bytes from at + k on as a number, low byte first; k counts the bytes passed
unfoldable pub number_from : ℕ → List ℕ → ℕ → ℕ → ℕ
number_from zero l at k = 0
number_from (suc n) l at k = get_or l (at + k) 0 + 256 * number_from n l at (suc k)

-- l with the n low bytes of v from at + k on
unfoldable pub put_from : ℕ → List ℕ → ℕ → ℕ → ℕ → List ℕ
put_from zero l at k v = l
put_from (suc n) l at k v = put_from n (set l (at + k) (v % 256)) at (suc k) (v / 256)

-- the number of n bytes at byte `at`
unfoldable pub number : ℕ → List ℕ → ℕ → ℕ
number n l at = number_from n l at 0

-- l with the number v of n bytes at byte `at`
unfoldable pub put : ℕ → List ℕ → ℕ → ℕ → List ℕ
put n l at v = put_from n l at 0 v

-- the first m numbers of n bytes each
unfoldable pub words : ℕ → ℕ → List ℕ → List ℕ
words n zero l = []
words n (suc m) l = number n l 0 ∷ words n m (drop n l)

-- the n low bytes of v, low byte first
unfoldable pub digits : ℕ → ℕ → List ℕ
digits zero v = []
digits (suc n) v = v % 256 ∷ digits n (v / 256)

-- the bytes of a list of numbers, n bytes each
unfoldable pub bytes : ℕ → List ℕ → List ℕ
bytes n [] = []
bytes n (v ∷ vs) = digits n v ++ bytes n vs
