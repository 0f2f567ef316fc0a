-- `resize::move_to` meets its contract: the copies leave the heap as it is (`copied-has`), and c is released. Assumes nothing.
use native.Mathlib.Omega.{arith}
use lib.ListN.{length}
use Rattle.release_join.specs.Reads.{arena-words-within}
use Rattle.resize.specs.Moved.{Placed, moves-placed, copied-has, move-gave}
use Rattle.resize.proofs.moved.move_to.Goals as goal

pub overflow_sub-z : goal.overflow_sub-z
overflow_sub-z c =
    let placed : Placed (length c.args.a.now) c.args.c.0 c.args.z c.args.d.0 = moves-placed _ _ _ _ _ _ c.requires.ok c.requires.holds _ (arena-words-within c.args.a.now) in
    let k = placed in omega arith

pub copy_words-requires : goal.copy_words-requires
copy_words-requires c =
    let placed : Placed (length c.args.a.now) c.args.c.0 c.args.z c.args.d.0 = moves-placed _ _ _ _ _ _ c.requires.ok c.requires.holds _ (arena-words-within c.args.a.now) in
    let k = placed in (omega arith, omega arith, omega arith, omega arith)

pub release-requires : goal.release-requires
release-requires c = let p = c.requires in copied-has _ _ _ _ _ _ p.ok p.holds c.copy_words.ensures

pub returns : goal.returns
returns c = record { does = λ h o M. move-gave h _ _ _ _ _ o M c.copy_words.ensures c.release.ensures.does }
