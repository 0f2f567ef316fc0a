-- Step 3's taking and moves, as the code does them, follow the machine: the bin's chunks are of size b, so the chunk after one of them is at c + b; the bin is
-- one shorter then, which is how far the machine goes on. Assumes nothing.
use Rattle.std.specs.Prelude.{◌≡◌, get_or}
use Rattle.std.proofs.Math.Path.{refl, ap}
use Rattle.std.proofs.Common.{sym, ◌∙◌, subst, inr, ⊎_elim, get_or-set_same}
use Rattle.std.proofs.Math.Bool.{true, false}
use mathlib.Core.List.{List, [], ◌∷◌, ◌++◌}
use Prim.Native.Nat.{ℕ, zero, suc, ◌+◌, ◌-◌, ◌/◌, ◌%◌, ◌≤◌, ◌<◌}
use native.Mathlib.Omega.{arith}
use Rattle.std.proofs.Math.Dec.{ltb}
use Rattle.std.proofs.Math.ListN.{length, length-append}
use borrow.Author.Tests.{lt-ltb, le-ltb}
use Rattle.le.specs.Arena.{arena_words}
use Rattle.sizes.specs.Limits.{none64, none32, cache_room}
use Rattle.sizes.specs.Layout.{cache_count, bin_last}
use Rattle.sizes.specs.Sizes.{cache_of, bin_of}
use Rattle.sizes.specs.SizesLaws.{cache_of-bound}
use Rattle.sizes.specs.BinLaws.{bin_of-small, bin_of-large, bin_of-bounds}
use Rattle.machine.specs.Lists.{lst, pre, post, some?, cnt}
use Rattle.machine.specs.Count.{ind-same, cnt-le-all}
use Rattle.machine.specs.Heap.{Tile, Heap, stack, bin, end_from, starts_from, starts, size_of, next}
use Rattle.machine.specs.Writes.{Ran, ran, does, apply, heap_of, writes, ◌>>=◌, size, put}
use Rattle.machine.specs.Primitives.{push_cache, unlink, set_p}
use Rattle.machine.specs.View.{size_at}
use Rattle.machine.specs.Grant.{take_last, move_lasts}
use Rattle.sound.specs.Relation.{Shape, Loose, stack_size, Good}
use Rattle.sound.specs.Tiles.{lt-or-le, starts-append, Place, place}
use Rattle.sound.specs.Frames.{starts-all}
use Rattle.sound.specs.Lists.{cut, in-range, unlink-shape, unlink-mem}
use Rattle.sound.specs.Edits.{size_32, size-16, size-place}
use Rattle.sound.specs.Carve.{take-out}
use Rattle.sound.specs.Ends.{Ends}
use Rattle.sound.specs.Stacks.{push_cache-ends}
use Rattle.sound.specs.Moves.{nil, one, any}
use Rattle.sound.specs.Leaves.{Leaves, Still}
use Rattle.sound.specs.JoinLeaves.{Every}
use Rattle.sound.specs.Release.{stack_size-cache}
use Rattle.sound.specs.Take.{take_last-leaves}
use Rattle.sound.specs.Small.{some-has}
use Rattle.primitives.specs.Follow.{Ok, Has, Gave, Does}
use Rattle.primitives.specs.FollowLaws.{gave-by, gave_then, gave-ok}
use Rattle.primitives.specs.Places.{InBin, Home, home-in}
use Rattle.primitives.specs.Chunks.{Chunk, Inside, in_bytes, start-chunk, bin-chunk}
use Rattle.primitives.specs.Sizes.{set-p-gave}
use Rattle.primitives.specs.Stacks.{ok-cache_count}
use Rattle.primitives.specs.Reach.{Way, then-then, then_same, ends_next, reach-then, reach-end}
use Rattle.grant_steps_1_3.specs.Moves.{move_rest, Last}
use Rattle.grant_steps_1_3.specs.Tests.{bin-some, bin-empty}
use Rattle.grant_steps_1_3.specs.Heads.{pushed-length}

-- a push after a step makes its list one longer
then-pushed : (s : Ran (Unit {0})) (k c : ℕ) → Shape (heap_of s) → k < 74 → length (stack (heap_of (s >>= (λ n. push_cache k c n))) k) ≡ suc (length (stack (heap_of s) k))
then-pushed (ran h ws a) k c s l = pushed-length h k c s l

module _ (b : ℕ) (b16 : b % 16 ≡ 0) (b32 : 32 ≤ b) (b1024 : b < 1024) where
  low : 1 ≤ bin_of b
  low = omega (arith, (bin_of-bounds b b32).0)

  high : bin_of b ≤ 126
  high = (bin_of-bounds b b32).1

  -- ---- a chunk of the bin
  module _ (h : Heap) (c : ℕ) (L : Last h b c) where
    started : 1 ≤ cnt c (starts h)
    started = omega (arith, L.good.shape.own c, L.here, cnt-le-all c h.bins (bin_of b))

    last-size : size_of h c ≡ b
    last-size =
        let g = L.good in
        let z32 : 32 ≤ size_of h c = size_32 h c g.shape started in
        let z16 : size_of h c % 16 ≡ 0 = size-16 h c g.shape started in
        let eb : bin_of b ≡ b / 16 = bin_of-small b b32 b1024 in
        let so : bin_of (size_of h c) ≡ bin_of b = g.homes.sorted (bin_of b) c (bin_of-bounds b b32).0 L.here in
        ⊎_elim (λ l. omega (arith, bin_of-small (size_of h c) z32 l)) (λ l. absurd (omega (arith, bin_of-large (size_of h c) l))) (lt-or-le (size_of h c) 1024)

    -- the chunk after it is not the top
    last-next : 1 ≤ cnt (c + b) (starts h)
    last-next =
        let P : Place h.tiles 0 c = place h.tiles 0 c started in
        let O = take-out h P.a P.t P.z (bin_of b) P.tiles L.good (subst (λ (c : ℕ). 1 ≤ cnt c (bin h (bin_of b))) P.at L.here) in
        let n : ℕ = end_from 0 P.a + P.t.size in
        let e : c + b ≡ n = omega (arith, P.at, (size-place h c L.good.shape P).0, last-size) in
        subst (λ (n : ℕ). 1 ≤ cnt n (starts h)) (sym e)
        (omega (arith, ap (λ (k : List Tile). cnt n (starts_from 0 k)) O.out.tiles, starts-append 0 P.a (P.t ∷ O.u ∷ O.z) n, ind-same n))

    last-home : Home h (bin_of b) c b
    last-home = record { here = L.here; low = low; which = inr refl }

    pub last-in : (j : ℕ) → j ≡ bin_of b → InBin h j c
    last-in j e = subst (λ (i : ℕ). InBin h i c) (sym e) (home-in h (bin_of b) c b last-home)

    module _ (w r : List ℕ) (o : Ok h w r) where
      pub last-small : c + 32 ≤ 262144
      last-small = (bin-chunk h w o.shape o.mem (bin_of b) c L.here).small

      module _ (j : ℕ) (ej : j ≡ bin_of b) (v q : List ℕ) (d : Does (Unit {0}) (λ h. InBin h j c) (unlink j c) w r tt v q) where
        m : Gave (Unit {0}) (unlink (bin_of b) c h) tt w v q
        m = subst (λ (i : ℕ). Gave (Unit {0}) (unlink i c h) tt w v q) ej (d.does h o (last-in j ej))

        unlinked-ok : Ok (heap_of (unlink (bin_of b) c h)) v q
        unlinked-ok = gave-ok (unlink (bin_of b) c h) tt (unlink-shape h (bin_of b) c o.shape L.here) (unlink-mem h w (bin_of b) c o.shape o.mem L.here) m

        pub last-inside : (a : List ℕ) → v ≡ arena_words a → Inside (length a) (c + b)
        last-inside a e =
            let n : Heap = heap_of (unlink (bin_of b) c h) in
            let k = start-chunk n v unlinked-ok.shape unlinked-ok.mem (c + b) (omega (arith, starts-all n (c + b), last-next)) in
            in_bytes a (c + b) (subst (λ (v : List ℕ). Chunk v (c + b)) e k)

        pub last-gave : (u : List ℕ) → u ≡ put (size (c + b) (size_at v (c + b)) 1) v → Gave (Unit {0}) (take_last (bin_of b) c h) tt w u q
        unfolding take_last
        last-gave u e =
            let n : Heap = heap_of (unlink (bin_of b) c h) in
            gave_then (unlink (bin_of b) c h) (λ n. set_p (next n c) n) tt tt m
            (gave-by (ap (λ (z : ℕ). set_p (c + z) n) last-size) (set-p-gave n v q unlinked-ok (c + b) last-next u e))

    -- ---- the bin is one shorter then
    last-shorter : length (bin h (bin_of b)) ≡ suc (length (bin (heap_of (take_last (bin_of b) c h)) (bin_of b)))
    unfolding take_last
    last-shorter =
        let l : List ℕ = bin h (bin_of b) in
        omega (
          arith,
          ap length (cut c l L.here),
          length-append (pre c l) (c ∷ post c l),
          length-append (pre c l) (post c l),
          ap length (get_or-set_same h.bins (bin_of b) (pre c l ++ post c l) [] (in-range c h.bins (bin_of b) L.here)),
        )

  -- ---- the machine's equations
  rest-none : (h : Heap) → bin h (bin_of b) ≡ [] → move_rest b h ≡ does h []
  unfolding move_rest move_lasts
  rest-none h e = ap (λ (l : List ℕ). move_lasts (length l) b h) e

  rest-full : (h : Heap) → cache_room ≤ length (stack h (cache_of b)) → move_rest b h ≡ does h []
  unfolding move_rest move_lasts
  rest-full h l = go (length (bin h (bin_of b)))
    where
      go : (n : ℕ) → move_lasts n b h ≡ does h []
      go zero = refl
      go (suc n) = let t : ltb (length (stack h (cache_of b))) cache_room ≡ false = le-ltb (length (stack h (cache_of b))) cache_room l in rw (t, move_lasts)

  -- c is moved
  abbrev moved : ℕ → ℕ → Heap → Ran (Unit {0})
  moved k c h = take_last (bin_of b) c h >>= (λ n. push_cache k c n)

  rest-left : (k c : ℕ) (h : Heap) → move_lasts (length (bin (heap_of (take_last (bin_of b) c h)) (bin_of b))) b (heap_of (moved k c h)) ≡ move_rest b (heap_of (moved k c h))
  unfolding take_last move_rest
  rest-left k c h = refl

  rest-move : (h : Heap) → Last h b (lst none64 (bin h (bin_of b))) → some? (bin h (bin_of b)) ≡ true → length (stack h (cache_of b)) < cache_room
      → move_rest b h ≡ (moved (cache_of b) (lst none64 (bin h (bin_of b))) h >>= move_rest b)
  unfolding move_rest move_lasts
  rest-move h L so l =
      let t : ltb (length (stack h (cache_of b))) cache_room ≡ true = lt-ltb (length (stack h (cache_of b))) cache_room l in
      let c : ℕ = lst none64 (bin h (bin_of b)) in
      let n : ℕ = length (bin (heap_of (take_last (bin_of b) c h)) (bin_of b)) in
      ap (λ (n : ℕ). move_lasts n b h) (last-shorter h c L)
      ∙ rw (t, so, move_lasts) (sym (then-then (take_last (bin_of b) c h) (λ n. push_cache (cache_of b) c n) (λ h. move_lasts n b h)))
      ∙ then_same (moved (cache_of b) c h) (λ h. move_lasts n b h) (move_rest b) (rest-left (cache_of b) c h)

  -- ---- the code's turn
  module _ (h : Heap) (w r : List ℕ) (o : Ok h w r) (c : ℕ) (L : Last h b c) where
    took : Leaves h w (take_last (bin_of b) c h) (λ a g. Good g × (size_of g c ≡ size_of h c) × Still Every h g) (any (one c)) nil
    took = take_last-leaves h w (bin_of b) c L.good o.mem L.here

    pub took-ends : Ends (take_last (bin_of b) c h) w Good
    took-ends = record { mem = took.mem; now = took.now.0 }

    module _ (v q : List ℕ) (m : Gave (Unit {0}) (take_last (bin_of b) c h) tt w v q) where
      took-ok : Ok (heap_of (take_last (bin_of b) c h)) v q
      took-ok = gave-ok (take_last (bin_of b) c h) tt took.now.0.shape took.mem m

      loose : Loose (heap_of (take_last (bin_of b) c h)) c
      loose = omega (arith, took.moved.count c, ind-same c, L.good.shape.own c)

      module _ (k : ℕ) (ek : k ≡ cache_of b) (lt : get_or r (cache_count k) 0 < cache_room) where
        k64 : k < 64
        k64 = omega (arith, cache_of-bound b (omega arith))

        same : stack (heap_of (take_last (bin_of b) c h)) k ≡ stack h k
        same = took.now.2.lists k tt

        room : length (stack (heap_of (take_last (bin_of b) c h)) k) < 7
        room = omega (arith, ap length same, ok-cache_count h w r o k k64)

        push-has : Has (λ h. Loose h c × (length (stack h k) < 7)) v q
        push-has = record { heap = heap_of (take_last (bin_of b) c h); ok = took-ok; holds = (loose, room) }

        module _ (u p : List ℕ) (d : Does (Unit {0}) (λ h. Loose h c × (length (stack h k) < 7)) (push_cache k c) v q tt u p) where
          moved-gave : Gave (Unit {0}) (moved k c h) tt w u p
          moved-gave = gave_then (take_last (bin_of b) c h) (λ n. push_cache k c n) tt tt m (d.does (heap_of (take_last (bin_of b) c h)) took-ok (loose, room))

          moved_ends : Ends (moved k c h) w Good
          moved_ends =
              let s : Ran (Unit {0}) = take_last (bin_of b) c h in
              ends_next s (λ n. push_cache k c n) w Good
              (push_cache-ends (heap_of s) (apply (writes s) w) k c k64 took.now.0 took.mem loose
              (took.now.1 ∙ last-size h c L ∙ stack_size-cache b b16 b32 (omega arith) ∙ ap stack_size (sym ek)) room)

          moved-is : some? (bin h (bin_of b)) ≡ true → c ≡ lst none64 (bin h (bin_of b)) → move_rest b h ≡ (moved k c h >>= move_rest b)
          moved-is so ec =
              rest-move h (subst (λ (c : ℕ). Last h b c) ec L) so (omega (arith, ap (λ (k : ℕ). length (stack h k)) ek, ok-cache_count h w r o k k64))
              ∙ ap (λ (c : ℕ). moved (cache_of b) c h >>= move_rest b) (sym ec) ∙ ap (λ (k : ℕ). moved k c h >>= move_rest b) (sym ek)

          counted : get_or p (cache_count k) 0 ≡ suc (get_or r (cache_count k) 0)
          counted =
              ok-cache_count (heap_of (moved k c h)) u p (gave-ok (moved k c h) tt moved_ends.now.shape moved_ends.mem moved-gave) k k64
              ∙ then-pushed (take_last (bin_of b) c h) k c took.now.0.shape (omega (arith, k64)) ∙ ap suc (ap length same ∙ sym (ok-cache_count h w r o k k64))

  -- ---- what the bin's last, as the record has it, is
  module _ (w r : List ℕ) (at : ℕ) (ea : at ≡ bin_last (bin_of b)) (ne : get_or r at 0 ≡ none32 → ⊥) (h : Heap) (o : Ok h w r) where
    pub found : (some? (bin h (bin_of b)) ≡ true) × (get_or r at 0 ≡ lst none64 (bin h (bin_of b)))
    found = let k = bin-some h w r o (bin_of b) low high (λ e. ne (ap (λ (i : ℕ). get_or r i 0) ea ∙ e)) in (k.0, ap (λ (i : ℕ). get_or r i 0) ea ∙ k.1)

    pub found-last : Good h → Last h b (get_or r at 0)
    found-last g = record { good = g; here = subst (λ (c : ℕ). 1 ≤ cnt c (bin h (bin_of b))) (sym found.1) (some-has (bin h (bin_of b)) found.0) }

  -- ---- the loop
  module _ (w₀ r₀ w r : List ℕ) (W : Way (Unit {0}) (move_rest b) (move_rest b) w₀ r₀ w r) (at : ℕ) (ea : at ≡ bin_last (bin_of b)) where
    pub rest_end : get_or r at 0 ≡ none32 → Does (Unit {0}) Good (move_rest b) w₀ r₀ tt w r
    rest_end e = record {
      does = λ h o g.
          let R = W.reach h o g in
          reach-end R tt (rest-none R.heap (bin-empty R.heap w r R.ok (bin_of b) low high (ap (λ (i : ℕ). get_or r i 0) (sym ea) ∙ e)));
    }

    pub rest-stop : (k : ℕ) → k ≡ cache_of b → cache_room ≤ get_or r (cache_count k) 0 → Does (Unit {0}) Good (move_rest b) w₀ r₀ tt w r
    rest-stop k ek l = record {
      does = λ h o g.
          let R = W.reach h o g in
          reach-end R tt
          (rest-full R.heap
          (omega (arith, l, ap (λ (k : ℕ). length (stack R.heap k)) ek, ok-cache_count R.heap w r R.ok k (omega (arith, cache_of-bound b (omega arith))))));
    }

    module _ (ne : get_or r at 0 ≡ none32 → ⊥) where
      pub rest_has : Has Good w₀ r₀ → Has (λ h. Last h b (get_or r at 0)) w r
      rest_has H = let R = W.reach H.heap H.ok H.holds in record { heap = R.heap; ok = R.ok; holds = found-last w r at ea ne R.heap R.ok R.good }

      module _ (v q : List ℕ) (d : Does (Unit {0}) (λ h. Last h b (get_or r at 0)) (take_last (bin_of b) (get_or r at 0)) w r tt v q) (k : ℕ) (ek : k ≡ cache_of b) (lt : get_or r (cache_count k) 0 < cache_room) where
        pub rest-push : Has Good w₀ r₀ → Has (λ h. Loose h (get_or r at 0) × (length (stack h k) < 7)) v q
        rest-push H =
            let R = W.reach H.heap H.ok H.holds in
            let L = found-last w r at ea ne R.heap R.ok R.good in
            push-has R.heap w r R.ok (get_or r at 0) L v q (d.does R.heap R.ok L) k ek lt

        module _ (u p : List ℕ) (e : Does (Unit {0}) (λ h. Loose h (get_or r at 0) × (length (stack h k) < 7)) (push_cache k (get_or r at 0)) v q tt u p) where
          pub rest-again : Way (Unit {0}) (move_rest b) (move_rest b) w₀ r₀ u p
          rest-again = record {
            reach = λ h o g.
                let R = W.reach h o g in
                let L = found-last w r at ea ne R.heap R.ok R.good in
                let m = d.does R.heap R.ok L in
                let s = found w r at ea ne R.heap R.ok in
                reach-then R (moved k (get_or r at 0) R.heap) tt (move_rest b)
                (moved-is R.heap w r R.ok (get_or r at 0) L v q m k ek lt u p e s.0 s.1)
                (moved-gave R.heap w r R.ok (get_or r at 0) L v q m k ek lt u p e)
                (moved_ends R.heap w r R.ok (get_or r at 0) L v q m k ek lt u p e);
          }

          pub rest-less : Has Good w₀ r₀ → cache_room - get_or p (cache_count k) 0 < cache_room - get_or r (cache_count k) 0
          rest-less H =
              let R = W.reach H.heap H.ok H.holds in
              let L = found-last w r at ea ne R.heap R.ok R.good in
              omega (arith, lt, counted R.heap w r R.ok (get_or r at 0) L v q (d.does R.heap R.ok L) k ek lt u p e)
