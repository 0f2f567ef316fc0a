-- Skip links (document 02, (x)): the two words of each chunk of a bin, at c + 32 and c + 40, as writes. They follow from the bin's list and the chunks'
-- sizes; no step asks for them. Definitions only.
use Rattle.std.specs.Prelude.{List, [], ◌∷◌, ◌++◌, true, false, ℕ, eqb, ltb}
use Rattle.sizes.specs.Limits.{none64, large, unsorted, first_large}
use Rattle.machine.specs.Writes.{Write, skip_fwd, skip_back}

-- all ones in both
abbrev pub no_skips : ℕ → List Write
no_skips c = skip_fwd c none64 ∷ skip_back c none64 ∷ []

-- In bins 64 and up the first chunk of each group of equals is linked in a ring by size, forward to the next smaller; the other members hold all ones
-- in both. f: the first of all; q: the first of the group that the list goes on with
abbrev pub ring_from : (ℕ → ℕ) → ℕ → ℕ → List ℕ → List Write
ring_from sz f q [] = skip_fwd q f ∷ skip_back f q ∷ []
ring_from sz f q (c ∷ l) = elim (eqb (sz c) (sz q)) [
  | true ↦ skip_fwd c none64 ∷ skip_back c none64 ∷ ring_from sz f q l
  | false ↦ skip_fwd q c ∷ skip_back c q ∷ ring_from sz f c l
]

abbrev pub ring : (ℕ → ℕ) → List ℕ → List Write
ring sz [] = []
ring sz (c ∷ l) = ring_from sz c c l

-- A chunk of 1,024 or more that is put or left in unsorted gets all ones in both.
abbrev pub put_skips : (ℕ → ℕ) → ℕ → List Write
put_skips sz c = elim (ltb (sz c) large) [ true ↦ [] | false ↦ no_skips c ]

abbrev pub all_put : (ℕ → ℕ) → List ℕ → List Write
all_put sz [] = []
all_put sz (c ∷ l) = put_skips sz c ++ all_put sz l

-- the words of all chunks of bin j, whose list is l: nothing in a bin between unsorted and 64
abbrev pub skips : ℕ → (ℕ → ℕ) → List ℕ → List Write
skips j sz l = elim (ltb j first_large) [ true ↦ elim (eqb j unsorted) [ true ↦ all_put sz l | false ↦ [] ] | false ↦ ring sz l ]

-- what is written when c has come into bin j, whose list is l then, and when one has left it: the ring anew
abbrev pub skips_in : ℕ → (ℕ → ℕ) → ℕ → List ℕ → List Write
skips_in j sz c l = elim (ltb j first_large) [ true ↦ elim (eqb j unsorted) [ true ↦ put_skips sz c | false ↦ [] ] | false ↦ ring sz l ]

abbrev pub skips_out : ℕ → (ℕ → ℕ) → List ℕ → List Write
skips_out j sz l = elim (ltb j first_large) [ true ↦ [] | false ↦ ring sz l ]
