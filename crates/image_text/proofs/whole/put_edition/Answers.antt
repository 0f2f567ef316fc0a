-- `whole::put_edition` meets its contract: three texts, one behind the other; the number is the record's last word. Assumes nothing.
use mathlib.Core.Path.{sym, ap, ◌∙◌}
use native.Mathlib.Omega.{arith}
use Prim.Native.Nat.{ℕ}
use mathlib.Core.List.{List, ◌++◌, [], ◌∷◌}
use Rattle.le.specs.WordsLaws.{get_d_words}
use Rattle.sizes.specs.Limits.{record_words}
use Rattle.sizes.specs.Layout.{edition_word}
use Rattle.text.specs.Text.{newline, field}
use Rattle.image_text.specs.ImageText.{edition_name, edition_text}
use Rattle.text.proofs.Pages.{◌▹◌, adds-as}
use Rattle.image_text.proofs.whole.put_edition.Goals as goal

pub returns : goal.returns
unfolding edition_text
returns c =
    let told = get_d_words 4 record_words c.args.control.now edition_word (omega arith) ∙ sym c.read-d.ensures in
    let line : ℕ → List ℕ = λ x. edition_name ++ (field x ++ (newline ∷ [])) in
    adds-as (omega arith) (sym (ap line told)) (c.bytes.ensures.adds ▹ c.field.ensures ▹ c.byte.ensures.adds)
