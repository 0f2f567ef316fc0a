-- `whole::put_repaired` meets its contract: lines and image of what was mended, or the line of a refusal. Assumes nothing.
use mathlib.Core.Path.{◌≡◌, sym, ap, ◌∙◌}
use mathlib.Core.List.{List}
use Prim.Native.Nat.{ℕ}
use lib.ListN.{take}
use borrow.Author.Rules.{rules}
use Rattle.text.specs.Text.{question_text}
use Rattle.repair.specs.RepairCall.{after_repair, Repaired}
use Rattle.repair_text.specs.RepairText.{Mending, mends_to, lines_of, image_of}
use Rattle.repair_text.proofs.whole.put_repaired.Goals as goal

-- by the answer
abbrev mend : List ℕ → List ℕ → List ℕ → List ℕ → Repaired → Mending
mend a r b q y = mends_to a r (after_repair b q y)

told : (a r b q : List ℕ) (x y : Repaired) → x ≡ y → mend a r b q y ≡ mend a r b q x
told a r b q x y e = ap (mend a r b q) (sym e)

pub returns-in-Ok : goal.returns-in-Ok
returns-in-Ok c =
    let m = told c.args.arena0.now c.args.control0.now c.args.arena.now c.args.control.now _ _ c.in-Ok.is in
    record {
      lines_bound = (c.put_changes-n.ensures.upper_bound, c.put_image-m.ensures.upper_bound);
      out_after = c.put_changes-n.ensures.out_after ∙ ap lines_of m;
      mended_after = c.put_image-m.ensures.mended_after ∙ ap image_of m;
    }

pub returns-in-Err : goal.returns-in-Err
returns-in-Err c =
    let m = told c.args.arena0.now c.args.control0.now c.args.arena.now c.args.control.now _ _ c.in-Err.is in
    let e = c.refuse.ensures in
    let n = c.from.ensures ∙ c.no.ensures in
    record {
      lines_bound = (e.lines_bound, search rules);
      out_after = e.out_after ∙ ap question_text n ∙ ap lines_of m;
      mended_after = ap (λ (n : ℕ). take n c.args.mended.now) e.image_value ∙ ap image_of m;
    }
