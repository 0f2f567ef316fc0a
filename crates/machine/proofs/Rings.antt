-- Skip links compute: the ring of a list with groups of equals, what two scripts write of them, and which of them an audit asks for. Assumes nothing.
use mathlib.Core.Path.{◌≡◌, refl}
use mathlib.Core.Bool.{Bool, true, false}
use mathlib.Core.List.{List, [], ◌∷◌, ◌++◌}
use Prim.Native.Nat.{ℕ, ◌/◌}
use lib.Dec.{eqb}
use Rattle.sizes.specs.Limits.{none64}
use Rattle.machine.specs.Lists.{both}
use Rattle.machine.specs.Writes.{Write, who, field, value}
use Rattle.machine.specs.Skips.{ring, all_put}
use Rattle.machine.specs.Audit.{skips_ok}
use Rattle.machine.specs.declared.ListKind.TheVariants.{Cache, Bin}
use Rattle.machine.proofs.Script.{Line, G, R, script, writes_after, same?}

-- what writes leave in the skip links of the chunk c, 7 where they write nothing
lastly : ℕ → ℕ → ℕ → List Write → ℕ
lastly c i x [] = x
lastly c i x (e ∷ ws) = elim (both (eqb (who e) c) (eqb (field e) i)) [ true ↦ lastly c i (value e []) ws | false ↦ lastly c i x ws ]

links : ℕ → List Write → List ℕ
links c ws = lastly c 4 7 ws ∷ lastly c 5 7 ws ∷ []

-- ---- the ring. A chunk's thousands stand for its size here: of 3,001 and 3,002 the first is in the ring
three-groups : same? (let ws : List Write = ring (λ x. x / 1000) (3001 ∷ 3002 ∷ 2001 ∷ 1001 ∷ []) in links 3001 ws ++ (links 3002 ws ++ (links 2001 ws ++ links 1001 ws)))
    (2001 ∷ 1001 ∷ none64 ∷ none64 ∷ 1001 ∷ 3001 ∷ 3001 ∷ 2001 ∷ []) ≡ true
unfolding lastly links
three-groups = refl

one-group : same? (let ws : List Write = ring (λ x. x / 1000) (3001 ∷ 3002 ∷ []) in links 3001 ws ++ links 3002 ws) (3001 ∷ 3001 ∷ none64 ∷ none64 ∷ []) ≡ true
unfolding lastly links
one-group = refl

-- unsorted: all ones from 1,024 bytes on, nothing below
from-1024 : same? (let ws : List Write = all_put (λ x. x) (1024 ∷ 1008 ∷ []) in links 1024 ws ++ links 1008 ws) (none64 ∷ none64 ∷ 7 ∷ 7 ∷ []) ≡ true
unfolding lastly links
from-1024 = refl

-- ---- scripts. Chunks of 1,072 and 1,056 bytes, at 0 and 1,104, with live ones behind them
two-large : List Line
two-large = G 1064 ∷ G 24 ∷ G 1048 ∷ G 24 ∷ []

links_after : ℕ → List Line → List ℕ
links_after c ls = links c (writes_after (script 8192 (two-large ++ ls)))

-- released they are in unsorted; sorted by a larger grant both are in bin 64, and each is the other's neighbour
ring-of-two : same? (links_after 0 (R 16 ∷ []) ++ (links_after 0 (R 16 ∷ R 1120 ∷ G 2000 ∷ []) ++ links_after 1104 (R 16 ∷ R 1120 ∷ G 2000 ∷ [])))
    (none64 ∷ none64 ∷ 1104 ∷ 1104 ∷ 0 ∷ 0 ∷ []) ≡ true
unfolding script lastly links links_after two-large
ring-of-two = refl

-- the smaller one leaves, by step 6: the ring closes, and its own words stay
ring-closes : same? (links_after 0 (R 16 ∷ R 1120 ∷ G 2000 ∷ G 1048 ∷ []) ++ links_after 1104 (R 16 ∷ R 1120 ∷ G 2000 ∷ G 1048 ∷ [])) (0 ∷ 0 ∷ 0 ∷ 0 ∷ []) ≡ true
unfolding script lastly links links_after two-large
ring-closes = refl

-- ---- the audit. One chunk of 1,024 bytes at 0, alone in bin 64, or in unsorted
alone : ℕ → ℕ → List ℕ
alone f b = 0 ∷ 1025 ∷ none64 ∷ none64 ∷ f ∷ b ∷ []

asked : List Bool
asked =
    skips_ok 3 (Bin 64) (alone 0 0) (0 ∷ []) ∷ skips_ok 3 (Bin 64) (alone 16 0) (0 ∷ []) ∷ skips_ok 3 (Bin 64) (alone 0 16) (0 ∷ [])
    ∷ skips_ok 3 (Bin 1) (alone none64 none64) (0 ∷ []) ∷ skips_ok 3 (Bin 1) (alone 0 none64) (0 ∷ []) ∷ skips_ok 3 (Bin 1) (alone none64 0) (0 ∷ [])
    ∷ skips_ok 3 (Bin 63) (alone 7 7) (0 ∷ []) ∷ skips_ok 2 (Bin 64) (alone 7 7) (0 ∷ []) ∷ skips_ok 3 (Cache 62) (alone 7 7) (0 ∷ []) ∷ []

asked_is : asked ≡ true ∷ false ∷ false ∷ true ∷ false ∷ false ∷ true ∷ true ∷ true ∷ []
unfolding alone asked
asked_is = refl
