-- `grant_steps_6_7::step6` meets its contract: a way for each end of its search, and what it finds is the machine's best fit (`found-has`, `found-gave`). Assumes nothing.
use native.Mathlib.Omega.{arith}
use Rattle.sizes.specs.BinLaws.{bin_of-bounds}
use Rattle.grant_steps_6_7.specs.Following.{small-gave, own-fit, none-gave, found-standing, found-has, found-gave}
use Rattle.grant_steps_6_7.proofs.step_6.step6.Goals as goal

pub returns-then-b-lt-LARGE : goal.returns-then-b-lt-LARGE
returns-then-b-lt-LARGE c = record { does = λ h o g. small-gave h _ _ c.args.b.bytes o c.if-b-lt-LARGE.true }

pub least_fit-c-requires : goal.least_fit-c-requires
least_fit-c-requires c =
    let p = c.requires in
    (omega (arith, c.bin_of-j.ensures.0, (bin_of-bounds c.args.b.bytes c.args.b.least).0), c.bin_of-j.ensures.1, record { heap = p.heap; ok = p.ok; holds = tt })

pub returns-then-c : goal.returns-then-c
returns-then-c c =
    let b = c.args.b.bytes in
    record { does = λ h o g. none-gave h _ _ b _ o c.if-b-lt-LARGE.false (own-fit h _ b _ c.bin_of-j.ensures.0 (c.least_fit-c.ensures h o)) c.if-c.true }

pub second_equal-d-requires : goal.second_equal-d-requires
second_equal-d-requires c =
    let p = c.requires in
    found-standing p.heap _ _ c.args.b.bytes _ p.ok c.if-b-lt-LARGE.false (own-fit p.heap _ c.args.b.bytes _ c.bin_of-j.ensures.0 (c.least_fit-c.ensures p.heap p.ok)) c.if-c.false

pub step8-requires : goal.step8-requires
step8-requires c =
    let p = c.requires in
    found-has p.heap _ _ c.args.b.bytes _ p.ok c.if-b-lt-LARGE.false (own-fit p.heap _ c.args.b.bytes _ c.bin_of-j.ensures.0 (c.least_fit-c.ensures p.heap p.ok))
    c.if-c.false p.holds _ c.second_equal-d.ensures _ c.bin_of-j.ensures.0

pub returns : goal.returns
returns c =
    let b = c.args.b.bytes in
    record {
      does = λ h o g.
          let l = own-fit h _ b _ c.bin_of-j.ensures.0 (c.least_fit-c.ensures h o) in
          let n = c.if-c.false in
          found-gave h _ _ b _ o c.if-b-lt-LARGE.false l n g _ c.second_equal-d.ensures _ c.bin_of-j.ensures.0 _ _ _ c.step8.ensures;
    }
