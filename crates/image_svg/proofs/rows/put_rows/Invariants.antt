-- `image_svg::rows::put_rows` meets its contract: a row is 320 bytes at most. Assumes nothing.
use Rattle.std.proofs.Common.{◌*◌}
use Rattle.text.specs.Pages.{Grows}
use Rattle.image_svg.proofs.rows.put_rows.Given as goal

abbrev pub invariant-loop-i : goal.invariant-loop-i
invariant-loop-i l = Grows (320 * l.i) l.initial.page l.page
