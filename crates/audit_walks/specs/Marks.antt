-- The audit's marks, one for each 16 bytes of arena: what the code leaves in them, and what each walk over the tiles promises. Definitions only.
use Rattle.std.specs.Prelude.{◌≡◌, List, ℕ, ◌+◌, ◌*◌, ◌/◌, ◌%◌, ◌≤◌, ◌<◌, eqb, length, get_or, Ok}
use Rattle.machine.specs.Lists.{cnt, ind}
use Rattle.machine.specs.Heap.{starts_from, end_from}
use Rattle.machine.specs.View.{tile_at, tiles_of}
use Rattle.machine.specs.Audit.{tile_fault, flag_fault, Audited}
use Rattle.audit_walks.specs.Tiles.{TilesOk}

-- no chunk starts here, or the top does; a chunk that no list had yet; one that a stack has; one that a bin has
abbrev pub unmarked : ℕ
unmarked = 0

abbrev pub unmet_mark : ℕ
unmet_mark = 1

abbrev pub stacked_mark : ℕ
stacked_mark = 2

abbrev pub binned_mark : ℕ
binned_mark = 3

-- how often the bins have a chunk of this mark
abbrev pub binned_by : ℕ → ℕ
binned_by v = ind (eqb v binned_mark)

-- the allowed lengths of an arena
pub record ArenaBytes (a : List ℕ) : Type 0 where
  pub even : length a % 16 ≡ 0
  pub least : 32 ≤ length a
  pub small : length a ≤ 262144

-- an arena, and marks enough
pub record Bytes (a m : List ℕ) : Type 0 where
  pub arena : ArenaBytes a
  pub room : length a ≤ 16 * length m

abbrev pub Clear : List ℕ → Type 0
Clear m = (i : ℕ) → get_or m i 0 ≡ unmarked

-- left: the chunks that no list had yet; b: how often bins had one, s: how often stacks
pub record Marks (w m left : List ℕ) (b : ℕ → ℕ) : Type 0 where
  pub s : ℕ → ℕ
  pub is : (x : ℕ) → x % 16 ≡ 0 → get_or m (x / 16) 0 ≡ unmet_mark * cnt x left + stacked_mark * s x + binned_mark * b x
  pub once : (x : ℕ) → cnt x left + s x + b x ≤ 1
  pub even : (x : ℕ) → 1 ≤ cnt x left → x % 16 ≡ 0
  pub inside : (x : ℕ) → 1 ≤ cnt x left → x + 32 ≤ 8 * length w

abbrev pub starts_of : List ℕ → List ℕ
starts_of w = starts_from 0 (tiles_of w)

-- the tiles are good, and every chunk but the top is marked as one that no list had yet
pub record Started (w m : List ℕ) : Type 0 where
  pub tiles : TilesOk w 0 (tiles_of w)
  pub marks : Marks w m (starts_of w) (λ x. 0)
  pub few : length (starts_of w) < length w

pub record TilesDone (w : List ℕ) (top : ℕ) (f : Audited) (m : List ℕ) : Type 0 where
  pub is : f ≡ tile_fault w top 0 (tiles_of w)
  pub marks : f ≡ Ok tt → Started w m

-- what the flags need: the tiles are good, and end at the top
pub record Flagging (w : List ℕ) (top : ℕ) : Type 0 where
  pub tiles : TilesOk w 0 (tiles_of w)
  pub at_top : top ≡ end_from 0 (tiles_of w)

-- the marks tell how often the bins have a chunk
abbrev pub bin_at : List ℕ → ℕ → ℕ
bin_at m x = binned_by (get_or m (x / 16) 0)

abbrev pub Tells : List ℕ → List ℕ → (ℕ → ℕ) → Type 0
Tells w m b = (x : ℕ) → 1 ≤ cnt x (starts_of w) → b x ≡ bin_at m x

abbrev pub FlagsDone : List ℕ → List ℕ → Audited → Type 0
FlagsDone w m f = (b : ℕ → ℕ) → Tells w m b → f ≡ flag_fault b (tile_at w (end_from 0 (tiles_of w))) 0 0 0 (tiles_of w)
