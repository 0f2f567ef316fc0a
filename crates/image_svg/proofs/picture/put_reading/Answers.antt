-- `picture::put_reading` meets its contract: a line for each refusal, or the picture. Assumes nothing.
use Rattle.std.proofs.Common.{◌≡◌, ◌∙◌, [], take, arith, rules}
use Rattle.image.specs.Image.{version_in}
use Rattle.image_svg.proofs.Pictures.{pictured-of, heap-pictured-of}
use Rattle.image_svg.proofs.picture.put_reading.Goals as goal

pub returns-in-Err : goal.returns-in-Err
returns-in-Err c =
    let n = c.from.ensures ∙ c.no.ensures in
    let page = c.args.page.now in
    let first : take page.at page.out.now ≡ [] = rw c.requires.first in
    record { grows = search rules; pictured = pictured-of (version_in c.args.file.now) c.args.arena.now c.args.control.now _ c.in-Err.is (c.question.ensures.written ∙ rw (first, n)) }

pub version_in-requires : goal.version_in-requires
version_in-requires c =
    (c.requires.in_bounds _ c.in-Ok.is).0

pub put_picture-requires : goal.put_picture-requires
put_picture-requires c =
    let k = (c.requires.in_bounds _ c.in-Ok.is).1 in
    record { audited_by = rw c.version_in.ensures k; arena_len_bound = search rules; room = omega arith }

pub returns-in-Ok : goal.returns-in-Ok
returns-in-Ok c =
    record { grows = search rules; pictured = heap-pictured-of c.args.file.now c.args.arena.now c.args.control.now _ c.in-Ok.is c.version_in.ensures c.put_picture.ensures.shows }
