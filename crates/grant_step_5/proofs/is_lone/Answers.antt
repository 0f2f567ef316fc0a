-- `grant_step_5::is_lone` meets its contract: a way for each test (`not-small`, `not-only`, `not-remainder`, `by-room`). Assumes nothing.
use Rattle.grant_step_5.specs.Turns.{not-small, not-only, not-remainder, by-room}
use borrow.Author.Rules.{rules}
use Rattle.grant_step_5.proofs.is_lone.Goals as goal

pub returns-then-b-ge-LARGE : goal.returns-then-b-ge-LARGE
returns-then-b-ge-LARGE c = not-small _ _ _ _ c.if-b-ge-LARGE.true

pub returns-then-r-bin_first : goal.returns-then-r-bin_first
returns-then-r-bin_first c = not-only _ _ _ _ c.if-b-ge-LARGE.false _ c.bin_first.ensures c.if-r-bin_first.true

pub returns-then-r-c : goal.returns-then-r-c
returns-then-r-c c = not-remainder _ _ _ _ c.if-b-ge-LARGE.false _ c.bin_first.ensures c.if-r-bin_first.false c.if-r-c.true

pub returns : goal.returns
returns c = by-room _ _ _ _ c.if-b-ge-LARGE.false _ c.bin_first.ensures c.if-r-bin_first.false c.if-r-c.false

pub overflow_cast-r : goal.overflow_cast-r
overflow_cast-r c = let g = c.shared_slice_known-2-1.given c.bin_first.result in search rules

pub overflow_cast-r-2 : goal.overflow_cast-r-2
overflow_cast-r-2 c = let g = c.shared_slice_known-3-1.given 2 in search rules
