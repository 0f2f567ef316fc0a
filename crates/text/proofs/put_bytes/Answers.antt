-- `text::put_bytes` meets its contract. The invariant: the bytes passed are those of the other slice. Assumes nothing.
use Rattle.std.proofs.Common.{arith, refl, sym, ap, ◌≡◌, ◌∙◌, ◌∷◌, [], ◌++◌, length, take, get_or, List, ℕ}
use Rattle.std.proofs.Math.Seq.{take-length}
use Rattle.std.proofs.lemmas.List.{take_more, take_more_set}
use Rattle.text.proofs.put_bytes.Goals as goal

pub loop-i-init : goal.loop-i-init
loop-i-init c = refl

pub loop-i-preserved : goal.loop-i-preserved
loop-i-preserved c =
    let h = c.loop-i in
    let from = c.args.from.now in
    take_more_set h.to h.i _ (omega arith) ∙ ap (λ (t : List ℕ). t ++ (get_or from h.i 0 ∷ [])) h.invariant ∙ sym (take_more from h.i 0 (omega arith))

pub returns : goal.returns
returns c =
    let h = c.loop-i in
    let from = c.args.from.now in
    let i : length h.to ≡ h.i = omega arith in
    let j : length from ≡ h.i = omega arith in
    sym (take-length h.to) ∙ ap (λ (n : ℕ). take n h.to) i ∙ h.invariant ∙ sym (ap (λ (n : ℕ). take n from) j) ∙ take-length from
