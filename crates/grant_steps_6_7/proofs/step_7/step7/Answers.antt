-- `grant_steps_6_7::step7` meets its contract: the last chunk of a bin above b's own is large enough (`above_fit`). Assumes nothing.
use native.Mathlib.Omega.{arith}
use Rattle.primitives.specs.Stacks.{ok-length}
use Rattle.grant_steps_6_7.specs.Following.{own_first, above-none, above_fit, above-gave}
use borrow.Author.Rules.{rules}
use Rattle.grant_steps_6_7.proofs.step_7.step7.Goals as goal

pub first_bin-found-requires : goal.first_bin-found-requires
first_bin-found-requires c = (c.bin_of.ensures.1, ok-length _ _ _ c.requires.ok)

pub returns-in-None : goal.returns-in-None
returns-in-None c =
    let b = c.args.b.bytes in
    record { does = λ h o g. above-none h _ _ b _ o (own_first _ _ b _ c.bin_of.ensures.0 c.first_bin-found.ensures) c.in-None.is }

pub bin_last-requires : goal.bin_last-requires
bin_last-requires c = c.first_bin-found.ensures.most _ c.in-Some.is

pub offset_bounds-r-bin_last : goal.offset_bounds-r-bin_last
offset_bounds-r-bin_last c = omega (arith, c.bin_last.ensures, c.first_bin-found.ensures.most _ c.in-Some.is)

pub bounds-r-bin_last : goal.bounds-r-bin_last
bounds-r-bin_last c = omega (arith, c.bin_last.ensures, c.first_bin-found.ensures.most _ c.in-Some.is, ok-length _ _ _ c.requires.ok)

pub overflow_cast-c : goal.overflow_cast-c
overflow_cast-c c = let g = c.slice_known-in-Some-1.given c.bin_last.result in search rules

pub step8-requires : goal.step8-requires
step8-requires c =
    let p = c.requires in
    record {
      heap = p.heap;
      ok = p.ok;
      holds = (p.holds, above_fit p.heap _ _ c.args.b.bytes _ p.ok (own_first _ _ c.args.b.bytes _ c.bin_of.ensures.0 c.first_bin-found.ensures) _ c.in-Some.is p.holds c.args.b.least _ c.bin_last.ensures);
    }

pub returns-in-Some : goal.returns-in-Some
returns-in-Some c =
    record {
      does = λ h o g.
          above-gave h _ _ c.args.b.bytes _ o (own_first _ _ c.args.b.bytes _ c.bin_of.ensures.0 c.first_bin-found.ensures) _ c.in-Some.is g c.args.b.least _ c.bin_last.ensures
          _ c.rest_for.ensures _ _ _ c.step8.ensures;
    }
