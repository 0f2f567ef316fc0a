-- Steps 1 to 4 of grant: the cache, the fast list, the small bin, and consolidation before the sweep. Each keeps a sound heap; what it gives is of the size
-- asked for and new among the loose. The moves to the cache by induction along the list that gives. Assumes nothing.
use Rattle.std.specs.Prelude.{◌≡◌, refl, Bool, true, false, ltb, leb, Option, Some, None}
use Rattle.std.proofs.Common.{sym, ◌∙◌, ⊎_elim, get_or-set_other}
use Rattle.std.proofs.Math.Path.{ap}
use mathlib.Core.List.{List, [], ◌∷◌}
use Prim.Native.Nat.{ℕ, zero, suc, ◌/◌, ◌%◌, ◌≤◌, ◌<◌}
use native.Mathlib.Omega.{arith}
use Rattle.std.proofs.Math.ListN.{length}
use Rattle.std.proofs.Math.Seq.{get_or-set_same}
use borrow.Author.Tests.{ltb-true, leb-true, le-leb}
use Rattle.sizes.specs.Limits.{most_cached, cache_room, most_fast, large, none64}
use Rattle.sizes.specs.Sizes.{cache_of, fast_of, bin_of}
use Rattle.sizes.specs.SizesLaws.{cache_of-bound, fast_of-bound}
use Rattle.sizes.specs.BinLaws.{bin_of-small, bin_of-large}
use Rattle.machine.specs.Lists.{both, hd, lst, tl, some?, cnt}
use Rattle.machine.specs.Count.{ind-same, cnt-le-all}
use Rattle.machine.specs.Heap.{Heap, stack, cache, fast_at, fast, bin, any_fast?, with_stack, starts, size_of, total}
use Rattle.machine.specs.Writes.{apply, Ran, heap_of, writes, giving, ◌>>=◌, key, ran}
use Rattle.machine.specs.Primitives.{pop, push_cache, take_cache}
use Rattle.machine.specs.Grant.{room_for?, step1, move_fast, step2, take_last, move_lasts, step3, step4}
use Rattle.sound.specs.Relation.{Mem, Loose, stack_size, Good}
use Rattle.sound.specs.Tiles.{lt-or-le}
use Rattle.sound.specs.Lists.{lst-in}
use Rattle.sound.specs.Edits.{size_32, size-16}
use Rattle.sound.specs.Stacks.{pop-ends, popped-loose, take_cache-ends}
use Rattle.sound.specs.Moves.{answer_of, nil, one, any, listed-not, pop-moved, take_cache-moved}
use Rattle.sound.specs.Leaves.{Leaves, leaves-weaken, leaves_by, leaves-if, leaves_none, leaves-giving, leaves-next, leaves-then, leaves-size, gave, Still, Cached, Found, still-here, found_nothing}
use Rattle.sound.specs.Release.{push_cache-leaves, stack_size-cache, stack_size-fast, both_true}
use Rattle.sound.specs.Drain.{consolidate-leaves}
use Rattle.sound.specs.Take.{take_last-leaves}

-- ---- a list that has a chunk
pub some-has : (l : List ℕ) → some? l ≡ true → 1 ≤ cnt (lst none64 l) l
some-has [] e = absurd (let z : ◌≡◌ {A = ℕ} 0 1 = cc in omega arith)
some-has (x ∷ l) e = lst-in x l

-- what is given from the cache: the head of a list, of the list's size
pub take_found : (h : Heap) (w : List ℕ) (k b : ℕ) → k < 64 → Good h → Mem h w → some? (stack h k) ≡ true → b ≡ stack_size k
    → Leaves h w (take_cache k h) (Found b h) gave nil
take_found h w k b hk g m so eb = go (stack h k) refl
  where
    go : (l : List ℕ) → stack h k ≡ l → Leaves h w (take_cache k h) (Found b h) gave nil
    go [] e = absurd (let z : ◌≡◌ {A = ℕ} 0 1 = cc in omega arith)
    go (c ∷ l) e =
        let E = take_cache-ends h w k c l hk g m e in
        let sz : size_of h c ≡ stack_size k = g.homes.stacked k c (omega (arith, ap (cnt c) e, ind-same c)) in
        leaves_by (ap (λ (z : List ℕ). ran (with_stack k (tl (stack h k)) h) (key (hd none64 (stack h k)) 0 ∷ []) (Some (hd none64 z))) e)
        (leaves-giving (Some c)
        (record { mem = E.mem; now = (E.now, omega (arith, sz)); moved = take_cache-moved h k c l g.shape (omega arith) e }) (λ a x. refl) (λ a n p. p))

-- ---- 1. the cache: a grant that passes it finds the cache list of its size empty
none_has : (l : List ℕ) → some? l ≡ false → l ≡ []
none_has [] e = refl
none_has (x ∷ l) e = absurd (let z : ◌≡◌ {A = ℕ} 0 1 = cc in omega arith)

pub step1-passed-empty : (b : ℕ) (h : Heap) → b ≤ 1040 → answer_of (step1 b h) ≡ None → cache h (cache_of b) ≡ []
unfolding step1
step1-passed-empty b h l = go (both (leb b most_cached) (some? (cache h (cache_of b)))) refl
  where
    go : (t : Bool) → both (leb b most_cached) (some? (cache h (cache_of b))) ≡ t
        → answer_of {A = Option ℕ} (elim t [ true ↦ take_cache (cache_of b) h | false ↦ ran h [] None ]) ≡ None → cache h (cache_of b) ≡ []
    go true q e = absurd (let z : ◌≡◌ {A = ℕ} 0 1 = cc in omega arith)
    go false q e = none_has (cache h (cache_of b)) (rw (le-leb b most_cached l) at q)

module _ (b : ℕ) (b16 : b % 16 ≡ 0) (b32 : 32 ≤ b) where
  pub step1-leaves : (h : Heap) (w : List ℕ) → Good h → Mem h w → Leaves h w (step1 b h) (Found b h) gave nil
  unfolding step1
  step1-leaves h w g m = leaves-if (both (leb b most_cached) (some? (cache h (cache_of b))))
      (λ e.
      let t = both_true (leb b most_cached) (some? (cache h (cache_of b))) e in
      let le : b ≤ 1040 = leb-true b most_cached t.0 in
      take_found h w (cache_of b) b (cache_of-bound b le) g m t.1 (stack_size-cache b b16 b32 le))
      (λ e. found_nothing b h w g m)

  -- a chunk that has just become loose, of size b, goes to the cache
  pub cache-leaves : (h : Heap) (w : List ℕ) (c : ℕ) → Good h → Mem h w → Loose h c → size_of h c ≡ b → b ≤ 1040 → length (cache h (cache_of b)) < 7
      → Leaves h w (push_cache (cache_of b) c h) (λ a g. Good g × Still (λ i. i ≡ cache_of b → ⊥) h g) (any nil) (one c)
  cache-leaves h w c g m lo sz le sh =
      let k64 : cache_of b < 64 = cache_of-bound b le in
      push_cache-leaves h w (cache_of b) c k64 g m lo (sz ∙ stack_size-cache b b16 b32 le) sh

  -- ---- 2. the fast list, whose further heads go to the cache
  module _ (le : b ≤ 128) where
    abbrev K : ℕ
    K = fast_at (fast_of b)

    K74 : K < 74
    K74 = omega (arith, fast_of-bound b le)

    fast-size : (h : Heap) (c : ℕ) (l : List ℕ) → Good h → stack h K ≡ c ∷ l → size_of h c ≡ b
    fast-size h c l g e = g.homes.stacked K c (omega (arith, ap (cnt c) e, ind-same c)) ∙ sym (stack_size-fast b b16 b32)

    -- the head of the fast list is loose then
    popped : (h : Heap) (c : ℕ) (l : List ℕ) → Good h → stack h K ≡ c ∷ l → Loose (heap_of (pop K h)) c
    popped h c l g e = popped-loose h K c l K74 g.shape e

    pub move_fast-leaves : (l : List ℕ) (h : Heap) (w : List ℕ) → Good h → Mem h w → stack h K ≡ l → Leaves h w (move_fast b l h) (λ a g. Good g) (any nil) nil
    unfolding move_fast
    move_fast-leaves [] h w g m e = leaves_none m g
    move_fast-leaves (c ∷ l) h w g m e = leaves-if (room_for? b h)
        (λ t.
        let P = pop-ends h w K K74 g m in
        let h₁ : Heap = heap_of (pop K h) in
        let kl : K < length h.stacks = omega (arith, K74, g.shape.stacked74) in
        let k64 : cache_of b < 64 = cache_of-bound b (omega arith) in
        let ne : cache_of b ≡ K → ⊥ = λ q. omega arith in
        let room : length (cache h (cache_of b)) < 7 = ltb-true (length (cache h (cache_of b))) cache_room t in
        let e₁ : stack h₁ K ≡ l = get_or-set_same h.stacks K (tl (stack h K)) [] kl ∙ ap tl e in
        leaves-next (λ h₁. push_cache (cache_of b) c h₁ >>= (λ h₂. move_fast b l h₂)) (pop-moved h K c l g.shape K74 e)
        (leaves-then (λ h₂. move_fast b l h₂) {i = any nil} {o = one c}
        (cache-leaves h₁ w c P.now P.mem (popped h c l g e) (fast-size h c l g e) (omega arith)
        (rw (get_or-set_other h.stacks K (cache_of b) (tl (stack h K)) [] ne) room))
        (λ n v mn p. move_fast-leaves l n v p.0 mn (p.1.lists K (λ q. ne (sym q)) ∙ e₁))
        (λ b x. omega arith) (λ x lo z. (z, refl)))
        (λ b x. omega arith) (λ x lo z. (refl, listed-not h x c g.shape lo (omega (arith, ap (cnt c) e, ind-same c, cnt-le-all c h.stacks K)))))
        (λ t. leaves_none m g)

    fast-found : (h : Heap) (w : List ℕ) → Good h → Mem h w → some? (stack h K) ≡ true
        → Leaves h w (giving (Some (hd none64 (stack h K))) (pop K h >>= (λ h. move_fast b (stack h K) h))) (Found b h) gave nil
    fast-found h w g m so = go (stack h K) refl
      where
        go : (l : List ℕ) → stack h K ≡ l → Leaves h w (giving (Some (hd none64 (stack h K))) (pop K h >>= (λ h. move_fast b (stack h K) h))) (Found b h) gave nil
        go [] e = absurd (let z : ◌≡◌ {A = ℕ} 0 1 = cc in omega arith)
        go (c ∷ l) e =
            let P = pop-ends h w K K74 g m in
            let h₁ : Heap = heap_of (pop K h) in
            let kl : K < length h.stacks = omega (arith, K74, g.shape.stacked74) in
            let step : Ran (Unit {0}) = pop K h >>= (λ h. move_fast b (stack h K) h) in
            leaves_by (ap (λ (z : List ℕ). giving (Some (hd none64 z)) step) e)
            (leaves-giving (Some c)
            (leaves-next (λ h. move_fast b (stack h K) h) {i = any (one c)} {o = nil}
            (pop-moved h K c l g.shape K74 e)
            (leaves-size c (popped h c l g e) refl (move_fast-leaves (stack h₁ K) h₁ w P.now P.mem refl))
            (λ b x. omega arith) (λ x lo z. (refl, refl))) (λ a x. refl)
            (λ a n p. (p.0, omega (arith, p.1, fast-size h c l g e))))

  pub step2-leaves : (h : Heap) (w : List ℕ) → Good h → Mem h w → Leaves h w (step2 b h) (Found b h) gave nil
  unfolding step2
  step2-leaves h w g m = leaves-if (both (leb b most_fast) (some? (fast h (fast_of b))))
      (λ e. let t = both_true (leb b most_fast) (some? (fast h (fast_of b))) e in fast-found (leb-true b most_fast t.0) h w g m t.1)
      (λ e. found_nothing b h w g m)

  -- ---- 3. the small bin of b, whose chunks have size b; further lasts go to the cache
  module _ (lt : b < 1024) where
    abbrev J : ℕ
    J = bin_of b

    bin-size : (h : Heap) (c : ℕ) → Good h → 1 ≤ cnt c (bin h J) → size_of h c ≡ b
    bin-size h c g mc =
        let s = g.shape in
        let ms : 1 ≤ cnt c (starts h) = omega (arith, s.own c, cnt-le-all c h.bins J) in
        let z32 : 32 ≤ size_of h c = size_32 h c s ms in
        let z16 : size_of h c % 16 ≡ 0 = size-16 h c s ms in
        let eb : J ≡ b / 16 = bin_of-small b b32 lt in
        let so : bin_of (size_of h c) ≡ J = g.homes.sorted J c (omega arith) mc in
        ⊎_elim (λ l. omega (arith, bin_of-small (size_of h c) z32 l)) (λ l. absurd (omega (arith, bin_of-large (size_of h c) l))) (lt-or-le (size_of h c) 1024)

    pub move_lasts-leaves : (n : ℕ) (h : Heap) (w : List ℕ) → Good h → Mem h w → Leaves h w (move_lasts n b h) (λ a g. Good g) (any nil) nil
    unfolding move_lasts
    move_lasts-leaves zero h w g m = leaves_none m g
    move_lasts-leaves (suc n) h w g m = leaves-if (both (room_for? b h) (some? (bin h J)))
        (λ e.
        let t = both_true (room_for? b h) (some? (bin h J)) e in
        let c : ℕ = lst none64 (bin h J) in
        let mc : 1 ≤ cnt c (bin h J) = some-has (bin h J) t.1 in
        let tot : 1 ≤ total c h = omega (arith, cnt-le-all c h.bins J) in
        let k64 : cache_of b < 64 = cache_of-bound b (omega arith) in
        let L = take_last-leaves h w J c g m mc in
        let h₁ : Heap = heap_of (take_last J c h) in
        let v : List ℕ = apply (writes (take_last J c h)) w in
        let lo : Loose h₁ c = omega (arith, L.moved.count c, ind-same c, g.shape.own c) in
        let room : length (cache h₁ (cache_of b)) < 7 = rw (L.now.2.lists (cache_of b) tt) (ltb-true (length (cache h (cache_of b))) cache_room t.0) in
        leaves-next (λ h₁. push_cache (cache_of b) c h₁ >>= (λ h₂. move_lasts n b h₂)) L.moved
        (leaves-then (λ h₂. move_lasts n b h₂) {i = any nil} {o = one c}
        (cache-leaves h₁ v c L.now.0 L.mem lo (L.now.1 ∙ bin-size h c g mc) (omega arith) room)
        (λ j u mj p. move_lasts-leaves n j u p.0 mj)
        (λ b x. omega arith) (λ x lo z. (z, refl)))
        (λ b x. omega arith) (λ x lo z. (refl, listed-not h x c g.shape lo tot)))
        (λ e. leaves_none m g)

    bin-found : (h : Heap) (w : List ℕ) → Good h → Mem h w → some? (bin h J) ≡ true
        → Leaves h w (giving (Some (lst none64 (bin h J))) (take_last J (lst none64 (bin h J)) h >>= (λ h. move_lasts (length (bin h J)) b h))) (Found b h) gave nil
    bin-found h w g m so =
        let c : ℕ = lst none64 (bin h J) in
        let mc : 1 ≤ cnt c (bin h J) = some-has (bin h J) so in
        let L = take_last-leaves h w J c g m mc in
        let h₁ : Heap = heap_of (take_last J c h) in
        let v : List ℕ = apply (writes (take_last J c h)) w in
        let lo : Loose h₁ c = omega (arith, L.moved.count c, ind-same c, g.shape.own c) in
        leaves-giving (Some c)
        (leaves-next (λ h. move_lasts (length (bin h J)) b h) {i = any (one c)} {o = nil} L.moved
        (leaves-size c lo refl (move_lasts-leaves (length (bin h₁ J)) h₁ v L.now.0 L.mem))
        (λ b x. omega arith) (λ x lo z. (refl, refl))) (λ a x. refl)
        (λ a n p. (p.0, omega (arith, p.1, L.now.1, bin-size h c g mc)))

  pub step3-leaves : (h : Heap) (w : List ℕ) → Good h → Mem h w → Leaves h w (step3 b h) (Found b h) gave nil
  unfolding step3
  step3-leaves h w g m = leaves-if (both (ltb b large) (some? (bin h (bin_of b))))
      (λ e. let t = both_true (ltb b large) (some? (bin h (bin_of b))) e in bin-found (ltb-true b large t.0) h w g m t.1)
      (λ e. found_nothing b h w g m)

-- ---- 4. consolidation
pub step4-leaves : (b : ℕ) (h : Heap) (w : List ℕ) → Good h → Mem h w → Leaves h w (step4 b h) (λ a g. Good g × Still Cached h g) (any nil) nil
unfolding step4
step4-leaves b h w g m = leaves-if (both (leb large b) (any_fast? h))
    (λ e. leaves-weaken (consolidate-leaves h w g m) (λ a n C. (C.good, C.still)))
    (λ e. leaves_none m (g, still-here Cached h))
