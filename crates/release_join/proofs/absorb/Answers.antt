-- `release_join::absorb` meets its contract: c lies in the arena, and the two writes follow the machine's unlink and swallow. The second leaves s
-- as c's size. Assumes nothing.
use native.Mathlib.Omega.{arith}
use Rattle.release_join.specs.Reads.{arena-words-within}
use Rattle.release_join.specs.Parts.{taking-binned, taking-inside, taking-small, absorb-gave, absorb-size}
use Rattle.release_join.proofs.absorb.Goals as goal

pub unlink_wherever-requires : goal.unlink_wherever-requires
unlink_wherever-requires c =
    record { heap = c.requires.heap; ok = c.requires.ok; holds = taking-binned _ _ _ _ _ _ _ c.requires.ok c.requires.holds }

pub set_size-requires : goal.set_size-requires
set_size-requires c =
    let k = taking-inside _ _ _ _ _ _ _ c.requires.ok c.requires.holds _ (arena-words-within c.args.a.now) in
    omega (arith, c.unlink_wherever.auto.a, taking-small _ _ _ _ _ _ _ c.requires.ok c.requires.holds)

pub returns : goal.returns
returns c =
    let e = c.set_size.ensures in (
      record { does = λ h o t. absorb-gave h _ _ _ _ _ _ o t c.unlink_wherever.ensures e },
      absorb-size _ _ _ _ _ _ _ c.requires.ok c.requires.holds c.unlink_wherever.ensures e,
    )
