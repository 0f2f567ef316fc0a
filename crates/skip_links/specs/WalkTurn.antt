-- A walk along the forward links, turn by turn: the chunks from n on are a rest of the list. Assumes nothing.
use Rattle.std.specs.Prelude.{◌≡◌, refl, List, [], ◌∷◌, ℕ, zero, suc, ◌+◌, ◌*◌, ◌%◌, ◌≤◌, ◌<◌, get_or}
use Rattle.std.proofs.Common.{sym, ◌∙◌, ⊎_elim, le_of_suc-le-suc, not-suc-le-zero, arith, ne_eqb}
use Rattle.std.proofs.Math.Path.{ap}
use Rattle.std.proofs.Math.ListN.{length}
use Rattle.le.specs.Arena.{arena_words}
use Rattle.le.specs.ArenaLaws.{length-arena_words}
use Rattle.sizes.specs.Limits.{none64}
use Rattle.sizes.specs.Layout.{fwd_word}
use Rattle.machine.specs.Lists.{hd, tl, cnt}
use Rattle.machine.specs.Count.{eq?, ind-same, cnt-here, pigeons}
use Rattle.machine.specs.View.{size_at, chunks_by, chunks_from}
use Rattle.sound.specs.Relation.{chain}
use Rattle.sound.specs.Tiles.{zero_or}
use Rattle.skip_links.specs.Walk.{Walk}

-- the chunks l that are left of the list m, with n the first of them
pub record Rest (w m : List ℕ) (n : ℕ) (l : List ℕ) : Type 0 where
  pub first : n ≡ hd none64 l
  pub chained : chain w l
  pub part : (y : ℕ) → cnt y l ≤ cnt y m

-- ---- a list of different offsets below n is no longer than n
abbrev below : ℕ → List ℕ
below zero = []
below (suc n) = n ∷ below n

below_length : (n : ℕ) → length (below n) ≡ n
below_length zero = refl
below_length (suc n) = ap suc (below_length n)

below-has : (n x : ℕ) → x < n → 1 ≤ cnt x (below n)
below-has zero x h = absurd (not-suc-le-zero h)
below-has (suc n) x h = ⊎_elim (λ e. omega (arith, ind-same n, ap (λ (y : ℕ). cnt y (n ∷ [])) e)) (λ e. omega (arith, below-has n x (omega arith))) (eq? x n)

-- ---- along the links the walk finds the list, if it may go that far
walk-list : (k : ℕ) (w l : List ℕ) → length l ≤ k → ((y : ℕ) → 1 ≤ cnt y l → y ≡ none64 → ⊥) → chain w l → chunks_from k w (hd none64 l) ≡ l
walk-list zero w [] f k c = refl
walk-list zero w (x ∷ l) f k c = absurd (not-suc-le-zero f)
walk-list (suc n) w [] f k c = refl
walk-list (suc n) w (x ∷ l) f k c =
    rw (ne_eqb x none64 (k x (cnt-here x l)), chunks_by)
    (ap (λ (m : List ℕ). x ∷ m) (ap (chunks_from n w) c.0 ∙ walk-list n w l (le_of_suc-le-suc f) (λ y i. k y (omega arith)) c.1))

-- how many they are, by the words
unfoldable pub left : List ℕ → ℕ → ℕ
left w n = length (chunks_from (8 * length w) w n)

module _ {w : List ℕ} {x : ℕ} {m : List ℕ} (W : Walk w x m) where
  pub no_none : (y : ℕ) → 1 ≤ cnt y m → y ≡ none64 → ⊥
  no_none y i e = omega (arith, W.inside y i, W.least y i, W.small)

  short : length m ≤ 8 * length w
  short =
      omega (
        arith,
        below_length (8 * length w),
        pigeons m (below (8 * length w)) (λ y. ⊎_elim (λ z. omega (arith, z))
            (λ i. omega (arith, W.once y, below-has (8 * length w) y (omega (arith, W.inside y i, W.least y i)))) (zero_or (cnt y m))),
      )

  pub rest-start : Rest w m x m
  rest-start = record { first = W.leads; chained = W.chained; part = λ y. omega arith }

  pub rest-left : (n : ℕ) (l : List ℕ) → Rest w m n l → left w n ≡ length l
  unfolding left
  rest-left n l r =
      ap (λ (k : ℕ). length (chunks_from (8 * length w) w k)) r.first
      ∙ ap length (walk-list (8 * length w) w l (omega (arith, short, pigeons l m r.part)) (λ y i. no_none y (omega (arith, r.part y))) r.chained)

  pub rest_end : (n : ℕ) (l : List ℕ) → Rest w m n l → n ≡ none64 → l ≡ []
  rest_end n [] r e = refl
  rest_end n (c ∷ l) r e = absurd (no_none c (omega (arith, r.part c, cnt-here c l)) (sym r.first ∙ e))

  pub rest_more : (n : ℕ) (l : List ℕ) → Rest w m n l → (n ≡ none64 → ⊥) → l ≡ n ∷ tl l
  rest_more n [] r e = absurd (e r.first)
  rest_more n (c ∷ l) r e = ap (λ (k : ℕ). k ∷ l) (sym r.first)

  pub rest_in : (n : ℕ) (l : List ℕ) → Rest w m n l → (n ≡ none64 → ⊥) → 1 ≤ cnt n m
  rest_in n l r e = omega (arith, r.part n, ap (cnt n) (rest_more n l r e), cnt-here n (tl l))

  pub rest-next : (n k : ℕ) (l : List ℕ) → Rest w m n l → (n ≡ none64 → ⊥) → k ≡ get_or w (fwd_word n) 0 → Rest w m k (tl l)
  rest-next n k [] r e g = absurd (e r.first)
  rest-next n k (c ∷ l) r e g = record {
    first = g ∙ ap (λ (i : ℕ). get_or w (fwd_word i) 0) r.first ∙ r.chained.0;
    chained = r.chained.1;
    part = λ y. omega (arith, r.part y);
  }

  pub rest-fewer : (n k : ℕ) (l : List ℕ) → Rest w m n l → (n ≡ none64 → ⊥) → k ≡ get_or w (fwd_word n) 0 → left w k < left w n
  rest-fewer n k l r e g = omega (arith, rest-left n l r, rest-left k (tl l) (rest-next n k l r e g), ap length (rest_more n l r e))

-- ---- where a chunk lies among the bytes
pub walk-bytes : (a : List ℕ) {x : ℕ} {m : List ℕ} → Walk (arena_words a) x m → (y : ℕ) → 1 ≤ cnt y m
    → (y % 8 ≡ 0) × (y + 32 ≤ length a) × (y + size_at (arena_words a) y ≤ length a)
walk-bytes a W y i =
    (omega (arith, W.even y i), omega (arith, W.inside y i, W.least y i, length-arena_words a), omega (arith, W.inside y i, length-arena_words a))
