-- `Page::bytes` meets its contract: one copy behind what was written. Assumes nothing.
use Rattle.std.proofs.Common.{rules, arith, sym, ap, length, take, ◌∙◌, ◌+◌, ◌++◌}
use Rattle.std.proofs.lemmas.Slice.{take-put_mid}
use Rattle.text.proofs.Page.bytes.Goals as goal

pub returns-clause-adds : goal.returns-clause-adds
returns-clause-adds c =
    let page = c.args.self.now in
    let copied = c.put_bytes.ensures in
    record {
      within = omega arith;
      written = take-put_mid _ _ _ _ _ (ap (λ t. page.at + length t) (sym copied)) (omega arith) ∙ ap (λ t. take page.at page.out.now ++ t) copied;
      room = search rules;
      same = search rules;
    }
