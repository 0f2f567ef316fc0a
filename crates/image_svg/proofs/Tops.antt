-- Where the tiles are good, the top starts at a multiple of 16 and lies within the arena. By the tiles' end. Assumes nothing.
use Rattle.std.proofs.Common.{◌≡◌, ℕ, ◌+◌, ◌%◌, ◌≤◌, List, length, refl, arith}
use Rattle.le.specs.Arena.{arena_words}
use Rattle.machine.specs.View.{tiles_of}
use Rattle.sound.specs.Tiles.{end-even}
use Rattle.audit_walks.specs.Marks.{ArenaBytes, Flagging}
use Rattle.audit_walks.specs.TileTurn.{arena-length}

pub top-inside : (a : List ℕ) (top : ℕ) → ArenaBytes a → Flagging (arena_words a) top → (top % 8 ≡ 0) × (top + 16 ≤ length a)
top-inside a top b k =
    let e = end-even 0 (tiles_of (arena_words a)) refl k.tiles.sizes in
    (omega (arith, k.at_top, e), omega (arith, k.tiles.top, k.tiles.least, k.at_top, arena-length a b))
