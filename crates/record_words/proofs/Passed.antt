-- What the loops over the record's words keep: the words passed are the numbers of the bytes. A store to a word, and a write to the bytes,
-- each carry it one word on. Stated over the width n. Assumes nothing.
use mathlib.Core.Path.{◌≡◌, sym, ◌∙◌}
use mathlib.Core.List.{List}
use mathlib.Core.Logic.{inr}
use Prim.Native.Nat.{ℕ, ◌+◌, ◌*◌, ◌^◌, ◌≤◌, ◌<◌}
use native.Mathlib.Nat.{mul-suc, mul-le-mul_left}
use native.Mathlib.Omega.{arith}
use lib.ListN.{length, get_or, set}
use lib.Seq.{get_or-set_same, get_or-set_other}
use borrow.Author.Count.{below_more}
use Rattle.le.specs.Number.{number, put}
use Rattle.le.specs.NumberLaws.{number-put-same, number-put-other}

-- the first i of r are the numbers that stand in b
abbrev pub Passed : ℕ → List ℕ → List ℕ → ℕ → Type 0
Passed n b r i = (k : ℕ) → k < i → get_or r k 0 ≡ number n b (n * k)

pub passed-set : (n : ℕ) (b r : List ℕ) (i v : ℕ) → Passed n b r i → i < length r → v ≡ number n b (n * i) → Passed n b (set r i v) (i + 1)
passed-set n b r i v all h e =
    below_more (λ k. get_or (set r i v) k 0 ≡ number n b (n * k)) i
    (λ k lt. get_or-set_other r i k v 0 (λ q. omega arith) ∙ all k lt)
    (get_or-set_same r i v 0 h ∙ e)

pub passed-put : (n : ℕ) (b r : List ℕ) (i : ℕ) → Passed n b r i → n * i + n ≤ length b → get_or r i 0 < 256 ^ n → Passed n (put n b (n * i) (get_or r i 0)) r (i + 1)
passed-put n b r i all h small =
    below_more (λ k. get_or r k 0 ≡ number n b' (n * k)) i
    (λ k lt. all k lt ∙ sym (number-put-other n n b (n * i) v (n * k) (inr (omega (arith, mul-le-mul_left n lt, mul-suc n k)))))
    (sym (number-put-same n b (n * i) v h small))
  where
    v : ℕ
    v = get_or r i 0

    b' : List ℕ
    b' = put n b (n * i) v
