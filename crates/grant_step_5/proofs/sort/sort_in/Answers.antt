-- `grant_step_5::sort_in` meets its contract: first in a small bin, and between its neighbours in a large one (`sort-small-gave`, `sort-large-gave`). Assumes nothing.
use native.Mathlib.Omega.{arith}
use Rattle.sizes.specs.BinLaws.{bin_of-narrow}
use Rattle.grant_step_5.specs.Newcomer.{own-low, sort-small-gave, sort-large-gave}
use Rattle.grant_step_5.proofs.sort.sort_in.Goals as goal

pub put_first-requires : goal.put_first-requires
put_first-requires c =
    let p = c.requires in
    let j = c.bin_of-j.ensures in
    (omega (arith, j.0, own-low _ _ _ _ _ p.ok p.holds.0 p.holds.1), omega (arith, j.0, bin_of-narrow _ c.if-z-lt-LARGE.true), record { heap = p.heap; ok = p.ok; holds = p.holds.0 })

pub returns-then-z-lt-LARGE : goal.returns-then-z-lt-LARGE
returns-then-z-lt-LARGE c = record { does = λ h o k. sort-small-gave h _ _ _ _ _ _ _ o k.0 k.1 c.bin_of-j.ensures.0 c.if-z-lt-LARGE.true c.put_first.ensures }

pub place-g-requires : goal.place-g-requires
place-g-requires c =
    let p = c.requires in
    let j = c.bin_of-j.ensures in
    (omega (arith, j.0, own-low _ _ _ _ _ p.ok p.holds.0 p.holds.1), j.1, record { heap = p.heap; ok = p.ok; holds = tt })

pub link_in-requires : goal.link_in-requires
link_in-requires c =
    let p = c.requires in
    let j = c.bin_of-j.ensures in (
      omega (arith, j.0, own-low _ _ _ _ _ p.ok p.holds.0 p.holds.1),
      j.1,
      record { heap = p.heap; ok = p.ok; holds = (p.holds.0, record { xs = _; ys = _; gap = c.place-g.ensures p.heap p.ok }, λ z. omega (arith, p.holds.1, c.if-z-lt-LARGE.false)) },
    )

pub returns : goal.returns
returns c = record { does = λ h o k. sort-large-gave h _ _ _ _ _ _ _ o k.0 k.1 c.bin_of-j.ensures.0 c.if-z-lt-LARGE.false _ _ c.place-g.ensures c.link_in.ensures }
