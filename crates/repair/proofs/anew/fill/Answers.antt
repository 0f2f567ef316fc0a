-- `anew::fill` meets its contract: the words from i up to j are v, and those before and behind stay. Assumes nothing.
use Rattle.std.proofs.Common.{rules, ◌≡◌, ◌-◌, replicate, sym, subst, arith}
use borrow.Rule.Slice.PartMut.{put_mid}
use Rattle.repair.specs.Cleared.{Filled, filled_all}
use Rattle.repair.proofs.anew.fill.Goals as goal

pub returns : goal.returns
returns c =
    let s = c.args in
    let f : c.fill.new.self ≡ replicate (s.j - s.i) s.v = search rules in
    subst (λ z. Filled s.i s.j s.v s.r.now (put_mid s.i (s.j - s.i) s.r.now z)) (sym f)
    (filled_all s.i s.j s.v s.r.now c.requires.1 (omega (arith, c.requires.0, c.requires.2)))
