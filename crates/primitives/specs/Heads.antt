-- What the head that the record has of a cache or fast list tells of the list: none32 is that of an empty one, any other that of one with a chunk. By the
-- chunks' offsets, which are small. Assumes nothing.
use Rattle.std.specs.Prelude.{◌≡◌, refl, true, List, [], ◌∷◌, ℕ, ◌<◌, get_or}
use Rattle.std.proofs.Common.{sym, ◌∙◌, arith}
use Rattle.sizes.specs.Limits.{none32}
use Rattle.sizes.specs.Layout.{cache_head, fast_head}
use Rattle.machine.specs.Lists.{hd, some?}
use Rattle.machine.specs.Count.{cnt-here}
use Rattle.machine.specs.Heap.{Heap, stack, fast_at}
use Rattle.primitives.specs.Follow.{Ok}
use Rattle.primitives.specs.Chunks.{Chunks}
use Rattle.primitives.specs.Stacks.{ok-stack, ok-cache_head, ok-fast_head}

hd-some : (l : List ℕ) → (hd none32 l ≡ none32 → ⊥) → some? l ≡ true
hd-some [] n = absurd (n refl)
hd-some (x ∷ l) n = refl

hd-empty : (w l : List ℕ) → Chunks w l → hd none32 l ≡ none32 → l ≡ []
hd-empty w [] k e = refl
hd-empty w (x ∷ l) k e = absurd (omega (arith, (k x (cnt-here x l)).small))

module _ (h : Heap) (w r : List ℕ) (o : Ok h w r) where
  pub cache-some : (k : ℕ) → k < 64 → (get_or r (cache_head k) 0 ≡ none32 → ⊥) → some? (stack h k) ≡ true
  cache-some k l n = hd-some (stack h k) (λ e. n (ok-cache_head h w r o k l ∙ e))

  pub cache-empty : (k : ℕ) → k < 64 → get_or r (cache_head k) 0 ≡ none32 → stack h k ≡ []
  cache-empty k l e = hd-empty w (stack h k) (ok-stack h w r o k) (sym (ok-cache_head h w r o k l) ∙ e)

  pub fast-some : (k : ℕ) → k < 10 → (get_or r (fast_head k) 0 ≡ none32 → ⊥) → some? (stack h (fast_at k)) ≡ true
  fast-some k l n = hd-some (stack h (fast_at k)) (λ e. n (ok-fast_head h w r o k l ∙ e))

  pub fast-empty : (k : ℕ) → k < 10 → get_or r (fast_head k) 0 ≡ none32 → stack h (fast_at k) ≡ []
  fast-empty k l e = hd-empty w (stack h (fast_at k)) (ok-stack h w r o (fast_at k)) (sym (ok-fast_head h w r o k l) ∙ e)
