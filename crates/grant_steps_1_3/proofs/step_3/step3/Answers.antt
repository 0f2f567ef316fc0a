-- `grant_steps_1_3::step3` meets its contract: each way by the lemma of the tests that led there. Assumes nothing.
use mathlib.Core.Path.{ap, ◌∙◌}
use native.Mathlib.Omega.{arith}
use Rattle.sizes.specs.Layout.{bin_last}
use Rattle.primitives.specs.Stacks.{ok-length}
use Rattle.grant_steps_1_3.specs.Steps.{over3, none3, has3, left3, took3}
use borrow.Author.Rules.{rules}
use Rattle.grant_steps_1_3.proofs.step_3.step3.Goals as goal

pub returns-then-b-ge-LARGE : goal.returns-then-b-ge-LARGE
returns-then-b-ge-LARGE c = over3 c.args.b.bytes _ _ c.if-b-ge-LARGE.true

pub bin_last-requires : goal.bin_last-requires
bin_last-requires c = c.bin_of-j.ensures.1

pub offset_bounds-r-bin_last : goal.offset_bounds-r-bin_last
offset_bounds-r-bin_last c = omega (arith, c.bin_last.ensures, c.bin_of-j.ensures.1)

pub bounds-r-bin_last : goal.bounds-r-bin_last
bounds-r-bin_last c = omega (arith, c.bin_last.ensures, c.bin_of-j.ensures.1, ok-length _ _ _ c.requires.ok)

pub returns-then-c : goal.returns-then-c
returns-then-c c =
    none3 c.args.b.bytes _ c.args.b.whole c.args.b.least c.if-b-ge-LARGE.false (c.bin_last.ensures ∙ ap bin_last c.bin_of-j.ensures.0) _ _ c.if-c.true

pub overflow_cast-c : goal.overflow_cast-c
overflow_cast-c c = let g = c.slice_known-3-1.given c.bin_last.result in search rules

pub take_last-requires : goal.take_last-requires
take_last-requires c =
    (c.if-b-ge-LARGE.false, has3 c.args.b.bytes _ c.args.b.whole c.args.b.least c.if-b-ge-LARGE.false (c.bin_last.ensures ∙ ap bin_last c.bin_of-j.ensures.0) _ _ c.if-c.false c.requires, c.bin_of-j.ensures.0)

pub move_lasts-requires : goal.move_lasts-requires
move_lasts-requires c =
    (c.if-b-ge-LARGE.false, left3 c.args.b.bytes _ c.args.b.whole c.args.b.least c.if-b-ge-LARGE.false (c.bin_last.ensures ∙ ap bin_last c.bin_of-j.ensures.0) _ _ c.if-c.false _ _ c.take_last.ensures c.requires, c.bin_of-j.ensures.0)

pub returns : goal.returns
returns c =
    took3 c.args.b.bytes _ c.args.b.whole c.args.b.least c.if-b-ge-LARGE.false (c.bin_last.ensures ∙ ap bin_last c.bin_of-j.ensures.0) _ _ c.if-c.false _ _ c.take_last.ensures _ _ c.move_lasts.ensures
