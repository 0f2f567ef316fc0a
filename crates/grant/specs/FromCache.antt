-- Step 1, where it found a chunk, changed one cache list: which of the record's words changed. Assumes nothing.
use Rattle.std.specs.Prelude.{◌≡◌, refl, Bool, true, false, List, ℕ, ◌≤◌, ◌<◌, leb, Option, Some}
use Rattle.std.proofs.Common.{sym, ap, ◌∙◌, leb-true}
use Rattle.sizes.specs.Limits.{most_cached}
use Rattle.sizes.specs.Sizes.{cache_of}
use Rattle.machine.specs.Lists.{both, tl, some?}
use Rattle.machine.specs.Heap.{Heap, stack, with_stack, record_of}
use Rattle.machine.specs.Writes.{Ran, heap_of, nothing}
use Rattle.machine.specs.Primitives.{take_cache}
use Rattle.machine.specs.Grant.{step1}
use Rattle.machine.specs.Calls.{words_of}
use Rattle.sound.specs.Relation.{Good}
use Rattle.record_words.specs.CacheOnly.{CacheOnly}
use Rattle.primitives.specs.Follow.{Has, answer, Does}
use Rattle.primitives.specs.FollowLaws.{got-absurd}
use Rattle.primitives.specs.CacheList.{cache-only}

step1-found : (b : ℕ) (h : Heap) (c : ℕ) → answer (step1 b h) ≡ Some c → (b ≤ most_cached) × (heap_of (step1 b h) ≡ with_stack (cache_of b) (tl (stack h (cache_of b))) h)
unfolding step1
step1-found b h c e = go (leb b most_cached) refl (some? (stack h (cache_of b))) e
  where
    one : Bool → Ran (Option ℕ)
    one t = elim t [ true ↦ take_cache (cache_of b) h | false ↦ nothing h ]

    go : (t : Bool) → leb b most_cached ≡ t → (u : Bool) → answer (one (both t u)) ≡ Some c
        → (b ≤ most_cached) × (heap_of (one (both t u)) ≡ with_stack (cache_of b) (tl (stack h (cache_of b))) h)
    go true l true e = (leb-true b most_cached l, refl)
    go true l false e = got-absurd (sym e)
    go false l u e = got-absurd (sym e)

module _ (b c : ℕ) (w q v p : List ℕ) (g : Option ℕ) (H : Has Good w q) (d : Does (Option ℕ) Good (step1 b) w q g v p) (e : g ≡ Some c) where
  found : (b ≤ most_cached) × (heap_of (step1 b H.heap) ≡ with_stack (cache_of b) (tl (stack H.heap (cache_of b))) H.heap)
  found = step1-found b H.heap c ((d.does H.heap H.ok H.holds).says ∙ e)

  pub found-small : b ≤ most_cached
  found-small = found.0

  pub found-only : (r : List ℕ) (k : ℕ) → q ≡ words_of r → k ≡ cache_of b → k < 64 → CacheOnly k (words_of r) p
  found-only r k eq ek hk =
      let h : Heap = H.heap in
      cache-only h k (tl (stack h (cache_of b))) (words_of r) p H.ok.shape hk (sym eq ∙ H.ok.rec)
      ((d.does h H.ok H.holds).rec ∙ ap record_of found.1 ∙ ap (λ (j : ℕ). record_of (with_stack j (tl (stack h (cache_of b))) h)) (sym ek))
