-- Step 5 of grant: a turn, and the sweep through unsorted, keep a sound heap; what is granted is at least b and new among the loose. While none was cached
-- the cache lists are as they were, and once one was, the cache list of b has a head to grant. By induction on the turns. Assumes nothing.
use Rattle.std.specs.Prelude.{◌≡◌, refl, Bool, eqb, ltb, leb, length, get_or, Option}
use Rattle.std.proofs.Common.{sym, ◌∙◌, arith}
use Rattle.std.proofs.Math.Path.{ap}
use mathlib.Core.List.{List, [], ◌∷◌}
use Rattle.std.proofs.Math.Bool.{true, false}
use Prim.Native.Nat.{ℕ, zero, suc, ◌+◌, ◌%◌, ◌≤◌, ◌<◌}
use Rattle.std.proofs.Math.Seq.{get_or-set_same}
use borrow.Author.Tests.{eqb-true, ltb-true, leb-true}
use Rattle.sizes.specs.Limits.{most_cached, cache_room, large, unsorted, none64}
use Rattle.sizes.specs.Sizes.{cache_of, bin_of}
use Rattle.sizes.specs.SizesLaws.{cache_of-bound}
use Rattle.sizes.specs.BinLaws.{bin_of-bounds, bin_of-wide}
use Rattle.machine.specs.Lists.{both, lst, some?, cnt}
use Rattle.machine.specs.Count.{cnt-le-all}
use Rattle.machine.specs.Heap.{Heap, stack, cache, bin, size_of, next, total}
use Rattle.machine.specs.Writes.{apply, Ran, heap_of, writes, giving, ◌>>=◌, ran}
use Rattle.machine.specs.Primitives.{push_cache, unlink, set_p, set_remainder}
use Rattle.machine.specs.Grant.{room_for?, split, sort_in, lone?, split_lone, keep, turn_at, turn, swept, after_turn, sweep, step5}
use Rattle.sound.specs.Relation.{Mem, Shape, Loose, Good}
use Rattle.sound.specs.Lists.{unlink-shape, unlink-loose}
use Rattle.sound.specs.Edits.{size_32}
use Rattle.sound.specs.Sort.{sorts, sort_ends}
use Rattle.sound.specs.Moves.{nil, one, listed-not, moved_keeps, moved_then, moved-giving, moved_by, unlink-moved, link-moved}
use Rattle.sound.specs.Leaves.{Leaves, leaves_of, leaves-weaken, leaves-if, leaves-giving, leaves-next, gave, Still, Cached, Found, still-here, still-then, found_nothing}
use Rattle.sound.specs.JoinLeaves.{Every}
use Rattle.sound.specs.Release.{stack_size-cache, both_true}
use Rattle.sound.specs.Take.{from-bin, mark-at, split_rest-leaves}
use Rattle.sound.specs.Small.{some-has, take_found, cache-leaves}
use Rattle.machine.specs.declared.{Turn.Turn}
use Rattle.machine.specs.declared.Turn.TheVariants as T

-- ---- what a turn gives, and what it leaves
abbrev pub gave_t : Turn → ℕ → ℕ
gave_t (T.Granted c) x = one c x
gave_t T.Cached x = 0
gave_t T.Binned x = 0
gave_t T.Empty x = 0

abbrev pub Turned : ℕ → Heap → Turn → Heap → Type 0
Turned b h (T.Granted c) g = Good g × (b ≤ size_of g c)
Turned b h T.Cached g = Good g × (some? (cache g (cache_of b)) ≡ true) × (b ≤ 1040)
Turned b h T.Binned g = Good g × Still Every h g
Turned b h T.Empty g = Good g × Still Every h g

turned-after : (b : ℕ) (h g : Heap) (x : Turn) (n : Heap) → Still Every h g → Turned b g x n → Turned b h x n
turned-after b h g (T.Granted c) n s p = p
turned-after b h g T.Cached n s p = p
turned-after b h g T.Binned n s p = (p.0, still-then Every h g n s p.1)
turned-after b h g T.Empty n s p = (p.0, still-then Every h g n s p.1)

module _ (b : ℕ) (b16 : b % 16 ≡ 0) (b32 : 32 ≤ b) where
  -- ---- the chunk has the size asked for, and is loose
  keep-leaves : (h : Heap) (w : List ℕ) (c : ℕ) → Good h → Mem h w → Loose h c → size_of h c ≡ b → Leaves h w (keep b c h) (Turned b h) gave_t (one c)
  unfolding keep
  keep-leaves h w c g m lo sz = leaves-if (both (leb b most_cached) (room_for? b h))
      (λ e.
      let t = both_true (leb b most_cached) (room_for? b h) e in
      let le : b ≤ 1040 = leb-true b most_cached t.0 in
      let k64 : cache_of b < 64 = cache_of-bound b le in
      let L = cache-leaves b b16 b32 h w c g m lo sz le (ltb-true (length (cache h (cache_of b))) cache_room t.1) in
      let top : stack (heap_of (push_cache (cache_of b) c h)) (cache_of b) ≡ c ∷ cache h (cache_of b) =
      get_or-set_same h.stacks (cache_of b) (c ∷ cache h (cache_of b)) [] (omega (arith, g.shape.stacked74)) in
      record { mem = L.mem; now = (L.now.0, ap some? top, le); moved = moved-giving T.Cached (λ x. refl) L.moved })
      (λ e. record { mem = m; now = (g, omega arith); moved = record { count = λ x. omega arith; same = λ x l z. refl; spare = λ x l z. tt; past = tt } })

  -- ---- the last of unsorted
  module _ (h : Heap) (w : List ℕ) (c : ℕ) (g : Good h) (m : Mem h w) (mc : 1 ≤ cnt c (bin h unsorted)) where
    lone-leaves : b + 32 ≤ size_of h c → Leaves h w (split_lone b c h) (Turned b h) gave_t nil
    unfolding split_lone
    lone-leaves l =
        leaves-giving (T.Granted c)
        (from-bin 1 c (λ n. split c b n >>= (λ n. set_remainder (c + b) n)) g m mc
        (λ a t u r v e z O k. split_rest-leaves (heap_of (unlink 1 c h)) v a r t u c b e O k b16 b32 (omega arith))) (λ a x. refl)
        (λ a n p. (p.0, omega (arith, p.1)))

    equal-leaves : size_of h c ≡ b → Leaves h w (unlink unsorted c h >>= (λ n. set_p (next n c) n >>= (λ n. keep b c n))) (Turned b h) gave_t nil
    equal-leaves q =
        from-bin 1 c (λ n. set_p (next n c) n >>= (λ n. keep b c n)) g m mc
        (λ a t u r v e z O k.
        let h₁ : Heap = heap_of (unlink 1 c h) in
        let lo : Loose h₁ c = unlink-loose h 1 c g.shape mc in
        let L = mark-at h₁ v a r t u c e O k in
        let h₂ : Heap = heap_of (set_p (next h₁ c) h₁) in
        let v₂ : List ℕ = apply (writes (set_p (next h₁ c) h₁)) v in
        leaves-next (λ n. keep b c n) L.moved
        (leaves-weaken
        (keep-leaves h₂ v₂ c L.now.0 L.mem (moved_keeps L.moved c lo refl) (L.now.1 ∙ sym z ∙ q))
        (λ x n p. turned-after b h h₂ x n (record { lists = L.now.2.lists; remainder = L.now.2.remainder }) p))
        (λ b x. omega arith) (λ x l y. (refl, y)))

    other-leaves : Leaves h w (giving T.Binned (unlink unsorted c h >>= (λ n. sort_in c n))) (Turned b h) gave_t nil
    other-leaves =
        let s = g.shape in
        let tot : 1 ≤ total c h = omega (arith, cnt-le-all c h.bins 1) in
        let z32 : 32 ≤ size_of h c = size_32 h c s (omega (arith, s.own c)) in
        let h₁ : Heap = heap_of (unlink unsorted c h) in
        let s₁ : Shape h₁ = unlink-shape h 1 c s mc in
        let S = sorts h₁ c z32 in
        let j : ℕ = bin_of (size_of h₁ c) in
        let hj : j < length h₁.bins = omega (arith, s₁.binned127, (bin_of-bounds (size_of h c) z32).1) in
        let step : Ran (Unit {0}) = unlink unsorted c h >>= (λ n. sort_in c n) in
        let Q : Heap → Type 0 = λ n. Good n × (n.stacks ≡ h.stacks) × (n.remainder ≡ h.remainder) in
        leaves-giving T.Binned
        (leaves_of (sort_ends h w c g m mc)
        (moved_then (λ n. sort_in c n) (unlink-moved h 1 c s mc)
        (moved_by S.is (link-moved h₁ j c S.xs S.ys s₁ hj (unlink-loose h 1 c s mc) S.list (bin_of-wide (size_of h c))))
        (λ a x. omega arith) (λ x lo z. (refl, listed-not h x c s lo tot)))) (λ a x. refl)
        (λ a n p. (p.0, record { lists = λ k i. ap (λ (ls : List (List ℕ)). get_or ls k []) p.1; remainder = p.2 }))

    turn_at-leaves : Leaves h w (turn_at b c h) (Turned b h) gave_t nil
    unfolding turn_at
    turn_at-leaves = leaves-if (lone? b c h)
        (λ e.
        let t₁ = both_true (ltb b large) (both (eqb (length (bin h unsorted)) 1) (both (eqb c h.remainder) (ltb (b + 32) (size_of h c)))) e in
        let t₂ = both_true (eqb (length (bin h unsorted)) 1) (both (eqb c h.remainder) (ltb (b + 32) (size_of h c))) t₁.1 in
        let t₃ = both_true (eqb c h.remainder) (ltb (b + 32) (size_of h c)) t₂.1 in
        let lt : b + 32 < size_of h c = ltb-true (b + 32) (size_of h c) t₃.1 in
        lone-leaves (omega arith))
        (λ e. leaves-if (eqb (size_of h c) b) (λ q. equal-leaves (eqb-true (size_of h c) b q)) (λ q. other-leaves))

  pub turn-leaves : (h : Heap) (w : List ℕ) → Good h → Mem h w → Leaves h w (turn b h) (Turned b h) gave_t nil
  unfolding turn
  turn-leaves h w g m = leaves-if (some? (bin h unsorted))
      (λ e. turn_at-leaves h w (lst none64 (bin h unsorted)) g m (some-has (bin h unsorted) e))
      (λ e. record { mem = m; now = (g, still-here Every h); moved = record { count = λ x. omega arith; same = λ x l z. refl; spare = λ x l z. tt; past = tt } })

  -- ---- the sweep. Once one was cached, the cache list has a head; until then the cache lists are those of the start, h₀
  abbrev pub Caching : Bool → Heap → Heap → Type 0
  Caching true h₀ h = (some? (cache h (cache_of b)) ≡ true) × (b ≤ 1040)
  Caching false h₀ h = Still Cached h₀ h

  swept-leaves : (got : Bool) (h₀ h : Heap) (w : List ℕ) → Good h → Mem h w → Caching got h₀ h → Leaves h w (swept b got h) (Found b h₀) gave nil
  unfolding swept
  swept-leaves true h₀ h w g m k =
      let L = take_found h w (cache_of b) b (cache_of-bound b k.1) g m k.0 (stack_size-cache b b16 b32 k.1) in
      record { mem = L.mem; now = L.now; moved = L.moved }
  swept-leaves false h₀ h w g m k = record { mem = m; now = (g, k); moved = (found_nothing b h w g m).moved }

  caching-after : (got : Bool) (h₀ h g : Heap) → Still Every h g → Caching got h₀ h → Caching got h₀ g
  caching-after true h₀ h g s k = (ap some? (s.lists (cache_of b) tt) ∙ k.0, k.1)
  caching-after false h₀ h g s k = still-then Cached h₀ h g k (record { lists = λ i l. s.lists i tt; remainder = s.remainder })

  turn-then : (h₀ h : Heap) (w : List ℕ) (r : Ran Turn) (kept sorted over : Heap → Ran (Option ℕ)) → Leaves h w r (Turned b h) gave_t nil
      → ((g : Heap) (v : List ℕ) → Mem g v → Turned b h T.Cached g → Leaves g v (kept g) (Found b h₀) gave nil)
      → ((g : Heap) (v : List ℕ) → Mem g v → Turned b h T.Binned g → Leaves g v (sorted g) (Found b h₀) gave nil)
      → ((g : Heap) (v : List ℕ) → Mem g v → Turned b h T.Empty g → Leaves g v (over g) (Found b h₀) gave nil)
      → Leaves h w (after_turn r kept sorted over) (Found b h₀) gave nil
  turn-then h₀ h w (ran h₁ ws (T.Granted c)) kept sorted over l k n o =
      record { mem = l.mem; now = l.now; moved = record { count = l.moved.count; same = l.moved.same; spare = l.moved.spare; past = l.moved.past } }
  turn-then h₀ h w (ran h₁ ws T.Cached) kept sorted over l k n o = leaves-next kept l.moved (k h₁ (apply ws w) l.mem l.now) (λ b x. refl)
      (λ x lo z. (refl, refl))
  turn-then h₀ h w (ran h₁ ws T.Binned) kept sorted over l k n o = leaves-next sorted l.moved (n h₁ (apply ws w) l.mem l.now) (λ b x. refl)
      (λ x lo z. (refl, refl))
  turn-then h₀ h w (ran h₁ ws T.Empty) kept sorted over l k n o = leaves-next over l.moved (o h₁ (apply ws w) l.mem l.now) (λ b x. refl)
      (λ x lo z. (refl, refl))

  pub sweep-leaves : (n : ℕ) (got : Bool) (h₀ h : Heap) (w : List ℕ) → Good h → Mem h w → Caching got h₀ h
      → Leaves h w (sweep n b got h) (Found b h₀) gave nil
  unfolding sweep
  sweep-leaves zero got h₀ h w g m k = swept-leaves got h₀ h w g m k
  sweep-leaves (suc n) got h₀ h w g m k =
      turn-then h₀ h w (turn b h) (λ j. sweep n b true j) (λ j. sweep n b got j) (λ j. swept b got j) (turn-leaves h w g m)
      (λ j v mj p. sweep-leaves n true h₀ j v p.0 mj (p.1, p.2))
      (λ j v mj p. sweep-leaves n got h₀ j v p.0 mj (caching-after got h₀ h j p.1 k))
      (λ j v mj p. swept-leaves got h₀ j v p.0 mj (caching-after got h₀ h j p.1 k))

  pub step5-leaves : (h : Heap) (w : List ℕ) → Good h → Mem h w → Leaves h w (step5 b h) (Found b h) gave nil
  unfolding step5
  step5-leaves h w g m = sweep-leaves (length (bin h unsorted)) false h h w g m (still-here Cached h)
