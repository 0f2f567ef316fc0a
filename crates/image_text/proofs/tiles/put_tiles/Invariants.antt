-- `tiles::put_tiles` meets its contract: the loop keeps LinesIn, and the top's line ends the text. The measure is what is left before the top. Assumes nothing.
use mathlib.Core.Path.{◌≡◌}
use Prim.Native.Nat.{◌-◌}
use lib.ListN.{length, take}
use Rattle.le.specs.Arena.{arena_words}
use Rattle.image_text.proofs.Lines.{LinesIn}
use Rattle.image_text.proofs.tiles.put_tiles.Given as goal

abbrev pub invariant-loop-o : goal.invariant-loop-o
invariant-loop-o l =
    let before = l.initial.page in
    (length l.page.out.now ≡ length before.out.now)
    × (l.page.out.ghost_name ≡ before.out.ghost_name)
    × LinesIn l.form (arena_words l.a) l.m (length l.a) l.top before.at l.page.at l.o (take before.at before.out.now) (take l.page.at l.page.out.now)

abbrev pub decreases-loop-o : goal.decreases-loop-o
decreases-loop-o l = l.top - l.o
