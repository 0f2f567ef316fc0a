-- `script::LineText::push` meets its contract where the text is full: what is kept is the whole text, and a byte behind it changes nothing. Assumes nothing.
use Rattle.std.proofs.Common.{◌≡◌, ℕ, List, [], ◌∷◌, ◌++◌, ◌≤◌, length, take, sym, take_all, arith, rules}
use Rattle.std.proofs.lemmas.List.{take-append-le}
use Rattle.script.specs.Grammar.{kept_bytes}
use Rattle.script.proofs.LineText.push.Goals as goal

kept_full : (t : List ℕ) (n b : ℕ) → length t ≡ kept_bytes → kept_bytes ≤ n → take n t ≡ take kept_bytes (take n t ++ (b ∷ []))
kept_full t n b e h =
    rw (take_all n t (omega arith), take-append-le kept_bytes t (b ∷ []) (omega arith)) (sym (take_all kept_bytes t (omega arith)))

pub returns-else-self-lt-KEPT_BYTES : goal.returns-else-self-lt-KEPT_BYTES
returns-else-self-lt-KEPT_BYTES c = kept_full _ _ _ (search rules) c.if-self-lt-KEPT_BYTES.false
