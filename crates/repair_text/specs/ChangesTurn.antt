-- The lines so far and those of the numbers that are left are all lines. By the numbers, one a turn. Assumes nothing.
use Rattle.std.specs.Prelude.{◌≡◌, true, false, eqb, length, get_or}
use Rattle.std.proofs.Math.Path.{sym, ap, subst}
use Rattle.std.proofs.Common.{◌∙◌, drop_of_length-le, drop-cons}
use mathlib.Core.List.{List, [], ◌∷◌, ◌++◌, append_assoc, append-nil}
use Prim.Native.Nat.{ℕ, suc, ◌+◌, ◌≤◌, ◌<◌}
use Rattle.std.proofs.Math.ListN.{drop}
use Rattle.repair_text.specs.Changes.{line_text, change_text, changes_text}

-- ---- one number
pub change-same : (x p o n : ℕ) → eqb o n ≡ true → change_text x p o n ≡ []
unfolding change_text
change-same x p o n e = rw (e, change_text)

pub change-line : (x p o n : ℕ) → eqb o n ≡ false → change_text x p o n ≡ line_text x p o n
unfolding change_text
change-line x p o n e = rw (e, change_text)

-- ---- p: the text before the loop; y: the text so far; i: which number is at hand, q: its byte place. os, ns: the numbers before and after
abbrev pub Lined : ℕ → ℕ → List ℕ → List ℕ → List ℕ → List ℕ → ℕ → ℕ → Type 0
Lined x k os ns p y i q = y ++ changes_text x k q (drop i os) (drop i ns) ≡ p ++ changes_text x k 0 os ns

module _ (x k : ℕ) (os ns p y : List ℕ) (i q : ℕ) (e : Lined x k os ns p y i q) where
  pub lined-end : length os ≤ i → y ≡ p ++ changes_text x k 0 os ns
  unfolding changes_text
  lined-end l = sym (append-nil y) ∙ ap (λ (u : List ℕ). y ++ changes_text x k q u (drop i ns)) (sym (drop_of_length-le os l)) ∙ e

  pub lined-turn : (j : ℕ) (u : List ℕ) → i < length os → i < length ns → j ≡ suc i → u ≡ y ++ change_text x q (get_or os i 0) (get_or ns i 0)
      → Lined x k os ns p u j (q + k)
  unfolding changes_text
  lined-turn j u lo ln z h =
      let rest : List ℕ = changes_text x k (q + k) (drop (suc i) os) (drop (suc i) ns) in
      subst (λ (j : ℕ). Lined x k os ns p u j (q + k)) (sym z)
      (ap (λ (v : List ℕ). v ++ rest) h
      ∙ append_assoc y (change_text x q (get_or os i 0) (get_or ns i 0)) rest
      ∙ ap (λ (v : List ℕ). y ++ changes_text x k q (get_or os i 0 ∷ drop (suc i) os) v) (sym (drop-cons ns i 0 ln))
      ∙ ap (λ (v : List ℕ). y ++ changes_text x k q v (drop i ns)) (sym (drop-cons os i 0 lo)) ∙ e)
