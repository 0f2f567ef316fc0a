-- Steps 1, 2 and 3, as the code does them, follow the machine: by its tests, which the record's words decide. Assumes nothing.
use Rattle.std.specs.Prelude.{◌≡◌, List, [], ℕ, ◌+◌, ◌%◌, ◌≤◌, ◌<◌, get_or, Option, Some, None}
use Rattle.std.proofs.Common.{sym, ◌∙◌, subst, arith}
use Rattle.std.proofs.Math.Path.{ap}
use Rattle.std.proofs.Math.Bool.{true, false}
use Rattle.std.proofs.Math.Dec.{ltb, leb}
use borrow.Author.Tests.{lt-ltb, le-ltb, le-leb, lt-leb}
use Rattle.sizes.specs.Limits.{none64, none32, most_cached, most_fast, large}
use Rattle.sizes.specs.Layout.{cache_head, fast_head, bin_last}
use Rattle.sizes.specs.Sizes.{cache_of, fast_of, bin_of}
use Rattle.sizes.specs.SizesLaws.{cache_of-bound, fast_of-bound}
use Rattle.sizes.specs.BinLaws.{bin_of-bounds}
use Rattle.machine.specs.Lists.{hd, lst, some?, cnt}
use Rattle.machine.specs.Heap.{Heap, stack, fast_at, bin}
use Rattle.machine.specs.Writes.{giving, nothing, heap_of, ◌>>=◌}
use Rattle.machine.specs.Primitives.{pop, take_cache}
use Rattle.machine.specs.Grant.{step1, step2, take_last, step3}
use Rattle.sound.specs.Relation.{Good}
use Rattle.primitives.specs.Follow.{Has, Does}
use Rattle.primitives.specs.FollowLaws.{gave-by, gave-none, gave_then, gave-giving, gave-ok, gave-good}
use Rattle.primitives.specs.Stacks.{ok-stack}
use Rattle.grant_steps_1_3.specs.Moves.{move_heads, move_rest, Last}
use Rattle.primitives.specs.Heads.{cache-some, cache-empty, fast-some, fast-empty}
use Rattle.grant_steps_1_3.specs.Tests.{at_same, some-head, bin-empty}
use Rattle.grant_steps_1_3.specs.Heads.{taken-ok, taken-good, taken-small}
use Rattle.grant_steps_1_3.specs.Lasts.{found, found-last, took-ends}

-- ---- the machine's equations
module _ (b : ℕ) (h : Heap) where
  one-over : most_cached < b → step1 b h ≡ nothing h
  unfolding step1
  one-over l = let t : leb b most_cached ≡ false = lt-leb b most_cached l in rw (t, step1)

  one_none : b ≤ most_cached → stack h (cache_of b) ≡ [] → step1 b h ≡ nothing h
  unfolding step1
  one_none l e =
      let t : leb b most_cached ≡ true = le-leb b most_cached l in
      let u : some? (stack h (cache_of b)) ≡ false = ap some? e in
      rw (t, u, step1)

  one-some : b ≤ most_cached → some? (stack h (cache_of b)) ≡ true → step1 b h ≡ take_cache (cache_of b) h
  unfolding step1
  one-some l u = let t : leb b most_cached ≡ true = le-leb b most_cached l in rw (t, u, step1)

  two-over : most_fast < b → step2 b h ≡ nothing h
  unfolding step2
  two-over l = let t : leb b most_fast ≡ false = lt-leb b most_fast l in rw (t, step2)

  two_none : b ≤ most_fast → stack h (fast_at (fast_of b)) ≡ [] → step2 b h ≡ nothing h
  unfolding step2
  two_none l e =
      let t : leb b most_fast ≡ true = le-leb b most_fast l in
      let u : some? (stack h (fast_at (fast_of b))) ≡ false = ap some? e in
      rw (t, u, step2)

  two-some : b ≤ most_fast → some? (stack h (fast_at (fast_of b))) ≡ true
      → step2 b h ≡ giving (Some (hd none64 (stack h (fast_at (fast_of b))))) (pop (fast_at (fast_of b)) h >>= move_heads b)
  unfolding step2 move_heads
  two-some l u = let t : leb b most_fast ≡ true = le-leb b most_fast l in rw (t, u, step2)

  three-over : large ≤ b → step3 b h ≡ nothing h
  unfolding step3
  three-over l = let t : ltb b large ≡ false = le-ltb b large l in rw (t, step3)

  three-none : b < large → bin h (bin_of b) ≡ [] → step3 b h ≡ nothing h
  unfolding step3
  three-none l e =
      let t : ltb b large ≡ true = lt-ltb b large l in
      let u : some? (bin h (bin_of b)) ≡ false = ap some? e in
      rw (t, u, step3)

  three-some : b < large → some? (bin h (bin_of b)) ≡ true
      → step3 b h ≡ giving (Some (lst none64 (bin h (bin_of b)))) (take_last (bin_of b) (lst none64 (bin h (bin_of b))) h >>= move_rest b)
  unfolding step3 move_rest
  three-some l u = let t : ltb b large ≡ true = lt-ltb b large l in rw (t, u, step3)

-- ---- 1. the cache
pub over1 : (b : ℕ) (w r : List ℕ) → most_cached < b → Does (Option ℕ) Good (step1 b) w r None w r
over1 b w r l = record { does = λ h o g. gave-by (one-over b h l) (gave-none h None w r o.rec) }

module _ (b k : ℕ) (le : b ≤ most_cached) (ek : k ≡ cache_of b) (w r : List ℕ) where
  k64 : k < 64
  k64 = omega (arith, cache_of-bound b le)

  pub none1 : get_or r (cache_head k) 0 ≡ none32 → Does (Option ℕ) Good (step1 b) w r None w r
  none1 e = record { does = λ h o g. gave-by (one_none b h le (ap (λ (k : ℕ). stack h k) (sym ek) ∙ cache-empty h w r o k k64 e)) (gave-none h None w r o.rec) }

  module _ (ne : get_or r (cache_head k) 0 ≡ none32 → ⊥) where
    pub has1 : Has Good w r → Has (λ h. some? (stack h k) ≡ true) w r
    has1 H = record { heap = H.heap; ok = H.ok; holds = cache-some H.heap w r H.ok k k64 ne }

    module _ (c : ℕ) (v q : List ℕ) (d : Does (Option ℕ) (λ h. some? (stack h k) ≡ true) (take_cache k) w r (Some c) v q) where
      pub took1 : Does (Option ℕ) Good (step1 b) w r (Some c) v q
      took1 = record {
        does = λ h o g.
            let so = cache-some h w r o k k64 ne in
            gave-by (one-some b h le (ap (λ (k : ℕ). some? (stack h k)) (sym ek) ∙ so) ∙ ap (λ (k : ℕ). take_cache k h) (sym ek)) (d.does h o so);
      }

      pub small1 : Has Good w r → c + 32 ≤ 262144
      small1 H =
          let h = H.heap in
          let so = cache-some h w r H.ok k k64 ne in
          (ok-stack h w r H.ok k c (subst (λ (c : ℕ). 1 ≤ cnt c (stack h k)) (at_same (d.does h H.ok so).says) (some-head (stack h k) so))).small

-- ---- 2. the fast list
pub over2 : (b : ℕ) (w r : List ℕ) → most_fast < b → Does (Option ℕ) Good (step2 b) w r None w r
over2 b w r l = record { does = λ h o g. gave-by (two-over b h l) (gave-none h None w r o.rec) }

module _ (b f : ℕ) (b16 : b % 16 ≡ 0) (b32 : 32 ≤ b) (le : b ≤ most_fast) (ef : f ≡ fast_of b) (w r : List ℕ) where
  f10 : f < 10
  f10 = omega (arith, fast_of-bound b le)

  pub none2 : get_or r (fast_head f) 0 ≡ none32 → Does (Option ℕ) Good (step2 b) w r None w r
  none2 e = record { does = λ h o g. gave-by (two_none b h le (ap (λ (f : ℕ). stack h (fast_at f)) (sym ef) ∙ fast-empty h w r o f f10 e)) (gave-none h None w r o.rec) }

  module _ (ne : get_or r (fast_head f) 0 ≡ none32 → ⊥) where
    pub has2 : Has Good w r → Has (λ h. some? (stack h (fast_at f)) ≡ true) w r
    has2 H = record { heap = H.heap; ok = H.ok; holds = fast-some H.heap w r H.ok f f10 ne }

    module _ (c : ℕ) (q : List ℕ) (d : Does (Option ℕ) (λ h. some? (stack h (fast_at f)) ≡ true) (pop (fast_at f)) w r (Some c) w q) where
      pub left2 : Has Good w r → Has Good w q
      left2 H =
          let so = fast-some H.heap w r H.ok f f10 ne in
          let m = d.does H.heap H.ok so in
          record {
            heap = heap_of (pop (fast_at f) H.heap);
            ok = taken-ok b f b16 b32 le ef H.heap w r H.ok H.holds so c q m;
            holds = taken-good b f b16 b32 le ef H.heap w r H.ok H.holds so c q m;
          }

      pub small2 : Has Good w r → c + 32 ≤ 262144
      small2 H = let so = fast-some H.heap w r H.ok f f10 ne in taken-small b f b16 b32 le ef H.heap w r H.ok H.holds so c q (d.does H.heap H.ok so)

      pub took2 : (v p : List ℕ) → Does (Unit {0}) Good (move_heads b) w q tt v p → Does (Option ℕ) Good (step2 b) w r (Some c) v p
      took2 v p e = record {
        does = λ h o g.
            let so = fast-some h w r o f f10 ne in
            let m = d.does h o so in
            let n : Heap = heap_of (pop (fast_at f) h) in
            gave-by
            (two-some b h le (ap (λ (f : ℕ). some? (stack h (fast_at f))) (sym ef) ∙ so)
            ∙ ap (λ (f : ℕ). giving (Some (hd none64 (stack h (fast_at f)))) (pop (fast_at f) h >>= move_heads b)) (sym ef)
            ∙ ap (λ (g : Option ℕ). giving g (pop (fast_at f) h >>= move_heads b)) m.says)
            (gave-giving (pop (fast_at f) h >>= move_heads b) tt (Some c)
            (gave_then (pop (fast_at f) h) (move_heads b) (Some c) tt m
            (e.does n (taken-ok b f b16 b32 le ef h w r o g so c q m) (taken-good b f b16 b32 le ef h w r o g so c q m))));
      }

-- ---- 3. the small bin
pub over3 : (b : ℕ) (w r : List ℕ) → large ≤ b → Does (Option ℕ) Good (step3 b) w r None w r
over3 b w r l = record { does = λ h o g. gave-by (three-over b h l) (gave-none h None w r o.rec) }

module _ (b at : ℕ) (b16 : b % 16 ≡ 0) (b32 : 32 ≤ b) (lt : b < large) (ea : at ≡ bin_last (bin_of b)) (w r : List ℕ) where
  pub none3 : get_or r at 0 ≡ none32 → Does (Option ℕ) Good (step3 b) w r None w r
  none3 e = record {
    does = λ h o g.
        gave-by
        (three-none b h lt
        (bin-empty h w r o (bin_of b) (omega (arith, (bin_of-bounds b b32).0)) (bin_of-bounds b b32).1 (ap (λ (i : ℕ). get_or r i 0) (sym ea) ∙ e)))
        (gave-none h None w r o.rec);
  }

  module _ (ne : get_or r at 0 ≡ none32 → ⊥) where
    pub has3 : Has Good w r → Has (λ h. Last h b (get_or r at 0)) w r
    has3 H = record { heap = H.heap; ok = H.ok; holds = found-last b b16 b32 lt w r at ea ne H.heap H.ok H.holds }

    module _ (v q : List ℕ) (d : Does (Unit {0}) (λ h. Last h b (get_or r at 0)) (take_last (bin_of b) (get_or r at 0)) w r tt v q) where
      pub left3 : Has Good w r → Has Good v q
      left3 H =
          let L = found-last b b16 b32 lt w r at ea ne H.heap H.ok H.holds in
          gave-good (take_last (bin_of b) (get_or r at 0) H.heap) tt (took-ends b b16 b32 lt H.heap w r H.ok (get_or r at 0) L) (d.does H.heap H.ok L)

      pub took3 : (u p : List ℕ) → Does (Unit {0}) Good (move_rest b) v q tt u p → Does (Option ℕ) Good (step3 b) w r (Some (get_or r at 0)) u p
      took3 u p e = record {
        does = λ h o g.
            let c : ℕ = get_or r at 0 in
            let k = found b b16 b32 lt w r at ea ne h o in
            let L = found-last b b16 b32 lt w r at ea ne h o g in
            let m = d.does h o L in
            let E = took-ends b b16 b32 lt h w r o c L in
            gave-by
            (three-some b h lt k.0 ∙ ap (λ (c : ℕ). giving (Some c) (take_last (bin_of b) c h >>= move_rest b)) (sym k.1))
            (gave-giving (take_last (bin_of b) c h >>= move_rest b) tt (Some c)
            (gave_then (take_last (bin_of b) c h) (move_rest b) tt tt m
            (e.does (heap_of (take_last (bin_of b) c h)) (gave-ok (take_last (bin_of b) c h) tt E.now.shape E.mem m) E.now)));
      }
