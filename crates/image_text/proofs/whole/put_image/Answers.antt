-- `whole::put_image` meets its contract: the arena lent has the length that the file says, or none would do, so what is read gives the file's text.
-- Assumes nothing.
use mathlib.Core.Path.{◌∙◌}
use native.Mathlib.Omega.{arith}
use lib.ListN.{take, length-take}
use borrow.Author.Rules.{rules}
use Rattle.image.proofs.Lent.{Lent}
use Rattle.image_text.proofs.Lent.{read-text, read-audited}
use Rattle.image_text.proofs.whole.put_image.Goals as goal

pub slice_bounds-lent-end-2 : goal.slice_bounds-lent-end-2
slice_bounds-lent-end-2 c = simp length-take (omega arith)

pub put_reading-requires : goal.put_reading-requires
put_reading-requires c =
    record { in_bounds = read-audited _ _ _ _ _ _ (λ i. search rules) c.read_image-x.ensures; room = omega arith }

pub returns : goal.returns
returns c =
    let l = c.length_in-n in
    let lent : Lent c.args.file.now (take l.result c.args.arena.now) c.args.control.now =
    record { arena = λ h k. simp length-take (omega (arith, l.ensures.upper_bound, l.ensures.value h k, c.requires.arena_len)); long = c.requires.control_len } in
    let told = c.put_reading.ensures.written ∙ read-text _ c.args.edition _ _ _ _ _ lent c.read_image-x.ensures in
    record { upper_bound = c.put_reading.ensures.within; out_after = search rules }
