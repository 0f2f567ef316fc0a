-- `picture::put_svg` meets its contract: the arena lent has the length that the file says, or none would do, so what is read gives the file's picture.
-- Assumes nothing.
use Rattle.std.proofs.Common.{◌≤◌, length, take, arith, refl, length-take, rules}
use Rattle.image.proofs.Lent.{Lent}
use Rattle.image_text.proofs.Lent.{read-audited}
use Rattle.image_svg.proofs.Pictures.{read-picture}
use Rattle.image_svg.proofs.picture.put_svg.Goals as goal

pub slice_bounds-lent-end-2 : goal.slice_bounds-lent-end-2
slice_bounds-lent-end-2 c = simp length-take (omega arith)

pub put_reading-requires : goal.put_reading-requires
put_reading-requires c =
    let l = c.length_in-n in
    let few : length (take l.result c.args.arena.now) ≤ 262144 = simp length-take (omega (arith, l.ensures.upper_bound)) in
    record { in_bounds = read-audited _ _ _ _ _ _ (λ i. search rules) c.read_image-x.ensures; arena_len_bound = omega (arith, c.read_image-x.auto.arena, few); first = refl; room = omega arith }

pub returns : goal.returns
returns c =
    let l = c.length_in-n in
    let lent : Lent c.args.file.now (take l.result c.args.arena.now) c.args.control.now =
    record { arena = λ h k. simp length-take (omega (arith, l.ensures.upper_bound, l.ensures.value h k, c.requires.arena_len)); long = c.requires.control_len } in
    record { upper_bound = c.put_reading.ensures.grows.0; picture_of = read-picture _ _ _ _ _ _ _ _ lent c.read_image-x.ensures c.put_reading.ensures.pictured (search rules) }
