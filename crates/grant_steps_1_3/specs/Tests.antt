-- What the last that the record has of a bin tells of the bin: none32 is that of an empty one, any other that of one with a chunk. By the chunks' offsets,
-- which are small. Assumes nothing.
use Rattle.std.specs.Prelude.{◌≡◌, refl, true, List, [], ◌∷◌, ℕ, ◌≤◌, get_or, Option, Some}
use Rattle.std.proofs.Common.{sym, ◌∙◌, arith}
use Rattle.sizes.specs.Limits.{none64, none32}
use Rattle.sizes.specs.Layout.{bin_last}
use Rattle.machine.specs.Lists.{hd, lst, some?, cnt}
use Rattle.machine.specs.Count.{cnt-here}
use Rattle.machine.specs.Heap.{Heap, bin}
use Rattle.sound.specs.Lists.{lst-in}
use Rattle.primitives.specs.Follow.{Ok}
use Rattle.primitives.specs.Chunks.{Chunks, bin-chunk}
use Rattle.primitives.specs.Bins.{ok-last}

lst-some : (l : List ℕ) → (lst none32 l ≡ none32 → ⊥) → (some? l ≡ true) × (lst none32 l ≡ lst none64 l)
lst-some [] n = absurd (n refl)
lst-some (x ∷ l) n = (refl, refl)

lst-empty : (w l : List ℕ) → Chunks w l → lst none32 l ≡ none32 → l ≡ []
lst-empty w [] k e = refl
lst-empty w (x ∷ l) k e = absurd (omega (arith, (k (lst x l) (lst-in x l)).small))

pub at_same : {x y : ℕ} → ◌≡◌ {A = Option ℕ} (Some x) (Some y) → x ≡ y
at_same e = cc

pub some-head : (l : List ℕ) → some? l ≡ true → 1 ≤ cnt (hd none64 l) l
some-head [] e = absurd (let z : ◌≡◌ {A = ℕ} 0 1 = cc in omega arith)
some-head (x ∷ l) e = cnt-here x l

module _ (h : Heap) (w r : List ℕ) (o : Ok h w r) where
  pub bin-some : (j : ℕ) → 1 ≤ j → j ≤ 126 → (get_or r (bin_last j) 0 ≡ none32 → ⊥) → (some? (bin h j) ≡ true) × (get_or r (bin_last j) 0 ≡ lst none64 (bin h j))
  bin-some j l m n = let k = lst-some (bin h j) (λ e. n (ok-last h w r o j l m ∙ e)) in (k.0, ok-last h w r o j l m ∙ k.1)

  pub bin-empty : (j : ℕ) → 1 ≤ j → j ≤ 126 → get_or r (bin_last j) 0 ≡ none32 → bin h j ≡ []
  bin-empty j l m e = lst-empty w (bin h j) (λ x i. bin-chunk h w o.shape o.mem j x i) (sym (ok-last h w r o j l m) ∙ e)
