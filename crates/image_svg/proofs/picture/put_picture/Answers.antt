-- `picture::put_picture` meets its contract: where there are tiles to show, the shape and the tiles are good. Assumes nothing.
use Rattle.std.proofs.Common.{sym, ◌∙◌, arith, rules}
use Rattle.audit_walks.specs.Tests.{false-true}
use Rattle.image_text.proofs.Shown.{Shown, tiled-shown}
use Rattle.image_svg.proofs.Pictures.{shows-of}
use Rattle.image_svg.proofs.picture.put_picture.Goals as goal

pub returns-then-not-tiled : goal.returns-then-not-tiled
returns-then-not-tiled c =
    let no = sym c.tiled.ensures ∙ c.if-not-tiled.true in
    record { grows = search rules; shows = λ yes. false-true (sym no ∙ yes) }

pub read_words-requires : goal.read_words-requires
read_words-requires c =
    let shown : Shown c.args.v c.args.arena.now c.args.control.now = tiled-shown c.args.v c.args.arena.now c.args.control.now c.args.x c.requires.audited_by (sym c.tiled.ensures ∙ c.if-not-tiled.false) in
    (shown.long, search rules)

pub put_tiled-requires : goal.put_tiled-requires
put_tiled-requires c =
    let shown : Shown c.args.v c.args.arena.now c.args.control.now = tiled-shown c.args.v c.args.arena.now c.args.control.now c.args.x c.requires.audited_by (sym c.tiled.ensures ∙ c.if-not-tiled.false) in
    record { arena_bytes = (shown.arena, search rules, rw c.read_words.ensures shown.tiled); y_bound = search rules; room = omega arith }

pub returns : goal.returns
returns c =
    record { grows = search rules; shows = λ yes. shows-of c.args.v c.args.arena.now c.args.control.now c.read_words.ensures c.put_tiled.ensures.has_rects }
