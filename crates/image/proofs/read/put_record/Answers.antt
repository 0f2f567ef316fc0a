-- `put_record` meets its contract: the part of the file, and what it lacks. Assumes nothing.
use mathlib.Core.Path.{◌∙◌}
use Prim.Native.Nat.{◌-◌}
use native.Mathlib.Omega.{arith}
use lib.ListN.{length, length-take, length-drop}
use borrow.Author.Rules.{rules}
use Rattle.le.specs.Number.{digits}
use Rattle.image.specs.Image.{lacked_record}
use Rattle.image.specs.Ways.{record-completed, drop-whole}
use Rattle.image.proofs.read.put_record.Goals as goal

pub bytes-requires-2 : goal.bytes-requires-2
bytes-requires-2 c = simp (length-take, length-drop) (omega (arith, c.bytes.ensures.exact, c.bytes.ensures.adds.room))

pub returns : goal.returns
unfolding digits
returns c =
    let a = c.bytes.ensures in
    let b = c.bytes-2.ensures in
    let told = record-completed c.args.part.now _ _ _ _ _ (b.adds.room ∙ a.adds.room ∙ c.requires.0) c.requires.1 c.requires.2 (a.exact ∙ omega arith) b.exact
    (drop-whole (length c.args.part.now - 1572) lacked_record) a.adds.written b.adds.written in
    search rules
