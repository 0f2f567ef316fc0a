-- Each list up to its first bad chunk, in the audit's order and by its rules of version v: no chunk, the top, one that was met before, one that may not stand
-- there. A wrong count, last or skip link condemns no chunk. Definitions only.
use Rattle.std.specs.Prelude.{◌≡◌, List, [], ◌∷◌, Bool, true, false, ℕ, suc, ◌+◌, ◌/◌, ◌≤◌, ltb, get_or, Ok, Err}
use Rattle.sizes.specs.Limits.{none64}
use Rattle.machine.specs.Lists.{both, cnt, has?, without, minus}
use Rattle.machine.specs.Heap.{starts, bin_from}
use Rattle.machine.specs.View.{kind_at, view}
use Rattle.machine.specs.Audit.{may_stand, lists, Audited}
use Rattle.machine.specs.declared.{ListKind.ListKind}
use Rattle.machine.specs.declared.Fault.TheVariants as A
use Rattle.audit_walks.specs.Marks.{unmet_mark, starts_of}

-- there are tiles, and lists to walk, unless the audit finds a fault of the record or of a tile
abbrev pub tiled? : Audited → Bool
tiled? (Ok u) = true
tiled? (Err A.Record) = false
tiled? (Err (A.Tile o)) = false
tiled? (Err (A.List k)) = true
tiled? (Err (A.Flag o)) = true
tiled? (Err A.Shape) = false

-- the chunks of a list before its first bad one, as good_from tests them. left: the chunks, the top not among them, that were not met before
unfoldable pub good_part : ℕ → ListKind → List ℕ → List ℕ → List ℕ → ℕ → ℕ → List ℕ → List ℕ
good_part v k w r left p n [] = []
good_part v k w r left p n (c ∷ l) =
    elim (both (has? c left) (may_stand v k w r p n c)) [ true ↦ c ∷ good_part v k w r (without c left) c (suc n) l | false ↦ [] ]

-- list after list, from number i on: what is met is what was reached as good
unfoldable pub reached_from : ℕ → List ℕ → List ℕ → ℕ → List ℕ → List (List ℕ) → List (List ℕ)
reached_from v w r i left [] = []
reached_from v w r i left (l ∷ ls) =
    good_part v (kind_at i) w r left none64 0 l ∷ reached_from v w r (suc i) (minus left (good_part v (kind_at i) w r left none64 0 l)) ls

unfoldable pub reached_of : ℕ → List ℕ → List ℕ → List (List ℕ)
reached_of v w r = reached_from v w r 0 (starts (view w r)) (lists (view w r))

-- the number, 0 to 199 in the audit's order, of the list in which c is reached; 200 if it is in none
unfoldable pub reached_in : ℕ → List ℕ → List ℕ → ℕ → ℕ
reached_in v w r c = bin_from 0 c (reached_of v w r)

-- ---- the marks that the code leaves: a chunk that no list reached, or its list's number behind the first one's mark
abbrev pub first_mark : ℕ
first_mark = 2

abbrev pub reached_mark : ℕ → ℕ
reached_mark i = elim (ltb i 200) [ true ↦ first_mark + i | false ↦ unmet_mark ]

abbrev pub ReachedBy : ℕ → List ℕ → List ℕ → List ℕ → Type 0
ReachedBy v w r m = (x : ℕ) → 1 ≤ cnt x (starts_of w) → get_or m (x / 16) 0 ≡ reached_mark (reached_in v w r x)
