-- `put_numbers` meets its contract. The invariant: the numbers passed have their lines, and the others are as they were (`Lined`). Assumes nothing.
use Rattle.std.proofs.Common.{◌≡◌, ◌+◌, ◌*◌, ◌/◌, ◌≤◌, length, take}
use Rattle.le.specs.Number.{words}
use Rattle.repair_text.specs.ChangesTurn.{Lined}
use Rattle.repair_text.proofs.changes.put_numbers.Given as goal

abbrev pub invariant-loop-i : goal.invariant-loop-i
invariant-loop-i l =
    let n = length l.old / l.width in
    let before = l.initial.page in
    let page = l.page in
    (page.at ≤ before.at + 65 * l.i)
    × (length page.out.now ≡ length before.out.now)
    × (page.out.ghost_name ≡ before.out.ghost_name)
    × Lined l.letter l.width (words l.width n l.old) (words l.width n l.new) (take before.at before.out.now) (take page.at page.out.now) l.i (l.width * l.i)
