-- `whole::put_heap` meets its contract: first lines and answer, and where there are tiles to show, the tiles. Assumes nothing.
use mathlib.Core.Path.{sym, ◌∙◌}
use native.Mathlib.Omega.{arith}
use borrow.Author.Rules.{rules}
use Rattle.calls.specs.Ways.{shape-long}
use Rattle.text.proofs.Pages.{◌▹◌, adds-as}
use Rattle.image_text.proofs.Shown.{Shown, tiled-shown}
use Rattle.image_text.proofs.Heaps.{heap-short, heap-long}
use Rattle.image_text.proofs.whole.put_heap.Goals as goal

pub put_first-requires : goal.put_first-requires
put_first-requires c = record { in_bounds = omega arith; control_len = shape-long c.args.arena.now c.args.control.now c.requires.audited_by.shape }

pub returns-else-tiled : goal.returns-else-tiled
returns-else-tiled c =
    let no = sym c.tiled.ensures ∙ c.if-tiled.false in
    adds-as (omega arith) (heap-short c.args.edition _ c.args.arena.now c.args.control.now _ no) (c.put_first.ensures ▹ c.put_audit.ensures)

pub read_words-requires : goal.read_words-requires
read_words-requires c =
    let shown : Shown c.args.v c.args.arena.now c.args.control.now = tiled-shown c.args.v c.args.arena.now c.args.control.now c.args.x c.requires.audited_by (sym c.tiled.ensures ∙ c.if-tiled.true) in
    (shown.long, search rules)

pub put_reached-requires : goal.put_reached-requires
put_reached-requires c =
    let shown : Shown c.args.v c.args.arena.now c.args.control.now = tiled-shown c.args.v c.args.arena.now c.args.control.now c.args.x c.requires.audited_by (sym c.tiled.ensures ∙ c.if-tiled.true) in
    record { arena_bytes = (shown.arena, search rules, rw c.read_words.ensures shown.tiled); a_in_bounds = omega (arith, shown.arena.small) }

pub returns-then-tiled : goal.returns-then-tiled
returns-then-tiled c =
    let yes = sym c.tiled.ensures ∙ c.if-tiled.true in
    let shown : Shown c.args.v c.args.arena.now c.args.control.now = tiled-shown c.args.v c.args.arena.now c.args.control.now c.args.x c.requires.audited_by yes in
    adds-as (omega (arith, shown.arena.small)) (heap-long c.args.edition _ c.args.arena.now c.args.control.now _ _ yes c.read_words.ensures)
    (c.put_first.ensures ▹ c.put_audit.ensures ▹ c.put_reached.ensures)
