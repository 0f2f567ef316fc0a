-- `mend::clear_marks` meets its contract: one mark for each of them, all clear. Assumes nothing.
use Rattle.std.proofs.Common.{rules, ◌≡◌, ℕ, ◌∙◌, ap, ⊎_elim, arith, length, get_or, replicate}
use Rattle.std.proofs.lemmas.List.{length-replicate, get_or-replicate}
use lib.ListN.{get_or-eq_default}
use Rattle.sound.specs.Tiles.{lt-or-le}
use Rattle.repair.proofs.mend.clear_marks.Goals as goal

pub returns : goal.returns
returns c =
    let n = length c.args.m.now in
    let f : c.fill.new.self ≡ replicate n 0 = search rules in
    λ i. ap (λ m. get_or m i 0) f ∙ ⊎_elim (λ a. get_or-replicate n i 0 0 a) (λ a. get_or-eq_default (replicate n 0) 0 (omega (arith, a, length-replicate {A = ℕ} n 0))) (lt-or-le i n)
