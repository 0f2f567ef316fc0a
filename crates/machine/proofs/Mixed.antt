-- The two editions compute: how a link is stored, by its own position and not its chunk's, the end mark alike; which links a release writes so; and the numbers of an open
-- that is refused for its edition. Assumes nothing.
use Rattle.std.specs.Prelude.{Err}
use mathlib.Core.Path.{◌≡◌, refl}
use mathlib.Core.Bool.{true, false}
use mathlib.Core.List.{List, [], ◌∷◌}
use Prim.Native.Nat.{ℕ, ◌-◌}
use lib.Dec.{eqb}
use lib.ListN.{replicate}
use Rattle.le.specs.Number.{bytes}
use Rattle.sizes.specs.Limits.{none64, plain, mixed}
use Rattle.machine.specs.Lists.{both}
use Rattle.machine.specs.Mixing.{stored}
use Rattle.machine.specs.Writes.{Write, who, field, value}
use Rattle.machine.specs.Audit.{edition?}
use Rattle.machine.specs.Calls.{after, closed_record, open_call}
use Rattle.machine.specs.declared.Refusal.TheVariants as R
use Rattle.machine.proofs.Script.{Line, G, R, script_by, writes_after, same?}

-- ---- a link to the chunk 32, and the end mark, as edition 2 stores them: at 4,064 the link field's own position is 4,080, at 4,080 it is 4,096
stored-32 : same? (stored mixed 4064 32 ∷ stored mixed 4080 32 ∷ stored mixed 8176 32 ∷ stored plain 8176 32 ∷ []) (32 ∷ 33 ∷ 34 ∷ 32 ∷ []) ≡ true
stored-32 = refl

stored-none : same? (stored mixed 4064 none64 ∷ stored mixed 4080 none64 ∷ stored plain 4080 none64 ∷ []) (none64 ∷ (none64 - 1) ∷ none64 ∷ []) ≡ true
stored-none = refl

-- ---- scripts: the forward link that is last written of a chunk, 7 where none is
last_link : ℕ → ℕ → List Write → ℕ
last_link c x [] = x
last_link c x (e ∷ ws) = elim (both (eqb (who e) c) (eqb (field e) 2)) [ true ↦ last_link c (value e []) ws | false ↦ last_link c x ws ]

link_after : ℕ → ℕ → List Line → ℕ
link_after d c ls = last_link c 7 (writes_after (script_by d 8192 ls))

-- a block of 4,080 bytes, two of 32 at 4,080 and 4,112, a live one, and both released: the first has the end mark, the second the first
two-cached : List Line
two-cached = G 4072 ∷ G 24 ∷ G 24 ∷ G 24 ∷ R 4096 ∷ R 4128 ∷ []

cached-links : same? (link_after plain 4080 two-cached ∷ link_after plain 4112 two-cached ∷ link_after mixed 4080 two-cached ∷ link_after mixed 4112 two-cached ∷ [])
    (none64 ∷ 4080 ∷ (none64 - 1) ∷ 4081 ∷ []) ≡ true
unfolding script_by last_link link_after two-cached
cached-links = refl

-- blocks of 1,056 bytes at 4,080 and 5,168, too large for the cache, with live ones behind them: released they are in unsorted, and a bin's links stay as they are
two-binned : List Line
two-binned = G 4072 ∷ G 1048 ∷ G 24 ∷ G 1048 ∷ G 24 ∷ R 4096 ∷ R 5184 ∷ []

binned-links : same? (link_after mixed 4080 two-binned ∷ link_after mixed 5168 two-binned ∷ []) (none64 ∷ 4080 ∷ []) ≡ true
unfolding script_by last_link link_after two-binned
binned-links = refl

-- ---- the editions that there are, and the open of another: number 1 comes before number 12, and both leave the closed record
editions : edition? 0 ∷ edition? 1 ∷ edition? 2 ∷ edition? 3 ∷ [] ≡ false ∷ true ∷ true ∷ false ∷ []
editions = refl

number-12 : open_call (replicate 32 0) (replicate 1584 0) 99 3 ≡ after (replicate 32 0) (bytes 4 closed_record) (Err R.Edition)
unfolding open_call
number-12 = refl

number-1-first : open_call (replicate 24 0) (replicate 1584 0) 99 3 ≡ after (replicate 24 0) (bytes 4 closed_record) (Err R.Shape)
unfolding open_call
number-1-first = refl

number-1-writes-nothing : open_call (replicate 32 0) (replicate 1580 0) 99 3 ≡ after (replicate 32 0) (replicate 1580 0) (Err R.Shape)
unfolding open_call
number-1-writes-nothing = refl
