-- Step 2's moves, as the code does them, follow the machine: a head that is taken is loose and of size b, so the cache takes it, and what is left of the list
-- is what the machine goes on with. Assumes nothing.
use Rattle.std.specs.Prelude.{◌≡◌, ℕ, suc, ◌+◌, ◌-◌, ◌%◌, ◌≤◌, ◌<◌, length, get_or, Option, Some}
use Rattle.std.proofs.Math.Path.{refl, ap}
use Rattle.std.proofs.Common.{sym, ◌∙◌, arith, get_or-set_same, get_or-set_other}
use Rattle.std.proofs.Math.Bool.{true, false}
use mathlib.Core.List.{List, [], ◌∷◌}
use Rattle.std.proofs.Math.Dec.{ltb}
use borrow.Author.Tests.{lt-ltb, le-ltb}
use Rattle.sizes.specs.Limits.{none64, none32, cache_room}
use Rattle.sizes.specs.Layout.{cache_count, fast_head}
use Rattle.sizes.specs.Sizes.{cache_of, fast_of}
use Rattle.sizes.specs.SizesLaws.{cache_of-bound, fast_of-bound}
use Rattle.machine.specs.Lists.{hd, tl, some?, cnt}
use Rattle.machine.specs.Count.{ind-same, cnt_all-set}
use Rattle.machine.specs.Heap.{Heap, stack, fast_at, size_of}
use Rattle.machine.specs.Writes.{Ran, does, heap_of, ◌>>=◌}
use Rattle.machine.specs.Primitives.{pop, push_cache}
use Rattle.machine.specs.Grant.{move_fast}
use Rattle.sound.specs.Relation.{Shape, Loose, stack_size, Good}
use Rattle.sound.specs.Ends.{Ends}
use Rattle.sound.specs.Stacks.{pop-ends, push_cache-ends}
use Rattle.sound.specs.Release.{stack_size-cache, stack_size-fast}
use Rattle.primitives.specs.Follow.{Ok, Has, Gave, Does}
use Rattle.primitives.specs.FollowLaws.{gave_then, gave-ok}
use Rattle.primitives.specs.Stacks.{ok-cache_count, ok-stack}
use Rattle.primitives.specs.Reach.{Way, more-nil, reach-then, reach-end}
use Rattle.grant_steps_1_3.specs.Moves.{move_heads}
use Rattle.primitives.specs.Heads.{fast-some, fast-empty}
use Rattle.grant_steps_1_3.specs.Tests.{at_same}

some-cons : (l : List ℕ) (c : ℕ) → some? l ≡ true → hd none64 l ≡ c → l ≡ c ∷ tl l
some-cons [] c e q = absurd (let z : ◌≡◌ {A = ℕ} 0 1 = cc in omega arith)
some-cons (x ∷ l) c e q = ap (λ (y : ℕ). y ∷ l) q

-- a push makes its list one longer
pub pushed-length : (h : Heap) (k c : ℕ) → Shape h → k < 74 → length (stack (heap_of (push_cache k c h)) k) ≡ suc (length (stack h k))
pushed-length h k c s l = ap length (get_or-set_same h.stacks k (c ∷ stack h k) [] (omega (arith, s.stacked74)))

-- ---- the machine's equations
module _ (b : ℕ) (h : Heap) where
  heads-none : stack h (fast_at (fast_of b)) ≡ [] → move_heads b h ≡ does h []
  unfolding move_heads move_fast
  heads-none e = ap (λ (l : List ℕ). move_fast b l h) e

  heads-full : cache_room ≤ length (stack h (cache_of b)) → move_heads b h ≡ does h []
  unfolding move_heads move_fast
  heads-full l = go (stack h (fast_at (fast_of b)))
    where
      go : (m : List ℕ) → move_fast b m h ≡ does h []
      go [] = refl
      go (c ∷ m) = let t : ltb (length (stack h (cache_of b))) cache_room ≡ false = le-ltb (length (stack h (cache_of b))) cache_room l in rw (t, move_fast)

-- c is moved
abbrev moved : ℕ → ℕ → ℕ → Heap → Ran (Unit {0})
moved f k c h = pop (fast_at f) h >>= (λ n. push_cache k c n)

module _ (b : ℕ) (h : Heap) (c : ℕ) (l : List ℕ) (s : Shape h) (f10 : fast_of b < 10) (k64 : cache_of b < 64) where
  left_is : stack h (fast_at (fast_of b)) ≡ c ∷ l → stack (heap_of (moved (fast_of b) (cache_of b) c h)) (fast_at (fast_of b)) ≡ l
  left_is e =
      let F : ℕ = fast_at (fast_of b) in
      get_or-set_other (heap_of (pop F h)).stacks (cache_of b) F (c ∷ stack (heap_of (pop F h)) (cache_of b)) [] (λ q. omega arith)
      ∙ get_or-set_same h.stacks F (tl (stack h F)) [] (omega (arith, s.stacked74)) ∙ ap tl e

  heads-move : stack h (fast_at (fast_of b)) ≡ c ∷ l → length (stack h (cache_of b)) < cache_room → move_heads b h ≡ (moved (fast_of b) (cache_of b) c h >>= move_heads b)
  unfolding move_heads move_fast
  heads-move e lt =
      let t : ltb (length (stack h (cache_of b))) cache_room ≡ true = lt-ltb (length (stack h (cache_of b))) cache_room lt in
      let n : Heap = heap_of (moved (fast_of b) (cache_of b) c h) in
      ap (λ (m : List ℕ). move_fast b m h) e ∙ rw (t, move_fast) (sym (more-nil (moved (fast_of b) (cache_of b) c h >>= (λ h. move_fast b l h))))
      ∙ ap (λ (m : List ℕ). moved (fast_of b) (cache_of b) c h >>= (λ h. move_fast b m n)) (sym (left_is e))

-- ---- the code's turn
module _ (b f : ℕ) (b16 : b % 16 ≡ 0) (b32 : 32 ≤ b) (le : b ≤ 128) (ef : f ≡ fast_of b) where
  f10 : f < 10
  f10 = omega (arith, fast_of-bound b le)

  module _ (h : Heap) (w r : List ℕ) (o : Ok h w r) (g : Good h) (so : some? (stack h (fast_at f)) ≡ true) (c : ℕ) (q : List ℕ) (m : Gave (Option ℕ) (pop (fast_at f) h) (Some c) w w q) where
    first : stack h (fast_at f) ≡ c ∷ tl (stack h (fast_at f))
    first = some-cons (stack h (fast_at f)) c so (at_same m.says)

    here : 1 ≤ cnt c (stack h (fast_at f))
    here = omega (arith, ap (cnt c) first, ind-same c)

    popped : Ends (pop (fast_at f) h) w Good
    popped = pop-ends h w (fast_at f) (omega (arith, f10)) g o.mem

    pub taken-ok : Ok (heap_of (pop (fast_at f) h)) w q
    taken-ok = gave-ok (pop (fast_at f) h) (Some c) popped.now.shape popped.mem m

    pub taken-good : Good (heap_of (pop (fast_at f) h))
    taken-good = popped.now

    pub taken-small : c + 32 ≤ 262144
    taken-small = (ok-stack h w r o (fast_at f) c here).small

    loose : Loose (heap_of (pop (fast_at f) h)) c
    loose = omega (arith, g.shape.own c, ap (cnt c) first, ind-same c, cnt_all-set c h.stacks (fast_at f) (tl (stack h (fast_at f))) (omega (arith, f10, g.shape.stacked74)))

    size-b : size_of h c ≡ b
    size-b = g.homes.stacked (fast_at f) c here ∙ ap (λ (f : ℕ). stack_size (fast_at f)) ef ∙ sym (stack_size-fast b b16 b32)

    module _ (k : ℕ) (ek : k ≡ cache_of b) (lt : get_or r (cache_count k) 0 < cache_room) where
      k64 : k < 64
      k64 = omega (arith, cache_of-bound b (omega arith))

      same : stack (heap_of (pop (fast_at f) h)) k ≡ stack h k
      same = get_or-set_other h.stacks (fast_at f) k (tl (stack h (fast_at f))) [] (λ e. omega (arith, k64))

      room : length (stack (heap_of (pop (fast_at f) h)) k) < 7
      room = omega (arith, ap length same, ok-cache_count h w r o k k64)

      pub push-has : Has (λ h. Loose h c × (length (stack h k) < 7)) w q
      push-has = record { heap = heap_of (pop (fast_at f) h); ok = taken-ok; holds = (loose, room) }

      module _ (v p : List ℕ) (d : Does (Unit {0}) (λ h. Loose h c × (length (stack h k) < 7)) (push_cache k c) w q tt v p) where
        moved-gave : Gave (Unit {0}) (moved f k c h) tt w v p
        moved-gave = gave_then (pop (fast_at f) h) (λ n. push_cache k c n) (Some c) tt m (d.does (heap_of (pop (fast_at f) h)) taken-ok (loose, room))

        moved_ends : Ends (moved f k c h) w Good
        moved_ends =
            let e = push_cache-ends (heap_of (pop (fast_at f) h)) w k c k64 popped.now popped.mem loose
            (size-b ∙ stack_size-cache b b16 b32 (omega arith) ∙ ap stack_size (sym ek)) room in
            record { mem = e.mem; now = e.now }

        moved-is : move_heads b h ≡ (moved f k c h >>= move_heads b)
        moved-is =
            heads-move b h c (tl (stack h (fast_at f))) g.shape (omega (arith, f10)) (omega (arith, k64)) (ap (λ (f : ℕ). stack h (fast_at f)) (sym ef) ∙ first)
            (omega (arith, ap (λ (k : ℕ). length (stack h k)) ek, ok-cache_count h w r o k k64))
            ∙ ap (λ (f : ℕ). moved f (cache_of b) c h >>= move_heads b) (sym ef) ∙ ap (λ (k : ℕ). moved f k c h >>= move_heads b) (sym ek)

        counted : get_or p (cache_count k) 0 ≡ suc (get_or r (cache_count k) 0)
        counted =
            let n : Heap = heap_of (pop (fast_at f) h) in
            ok-cache_count (heap_of (moved f k c h)) v p (gave-ok (moved f k c h) tt moved_ends.now.shape moved_ends.mem moved-gave) k k64
            ∙ pushed-length n k c popped.now.shape (omega (arith, k64)) ∙ ap suc (ap length same ∙ sym (ok-cache_count h w r o k k64))

  -- ---- the loop
  module _ (w₀ r₀ w r : List ℕ) (W : Way (Unit {0}) (move_heads b) (move_heads b) w₀ r₀ w r) where
    pub heads-end : get_or r (fast_head f) 0 ≡ none32 → Does (Unit {0}) Good (move_heads b) w₀ r₀ tt w r
    heads-end e = record {
      does = λ h o g.
          let R = W.reach h o g in
          reach-end R tt (heads-none b R.heap (ap (λ (f : ℕ). stack R.heap (fast_at f)) (sym ef) ∙ fast-empty R.heap w r R.ok f f10 e));
    }

    pub heads-stop : (k : ℕ) → k ≡ cache_of b → cache_room ≤ get_or r (cache_count k) 0 → Does (Unit {0}) Good (move_heads b) w₀ r₀ tt w r
    heads-stop k ek l = record {
      does = λ h o g.
          let R = W.reach h o g in
          reach-end R tt (heads-full b R.heap (omega (arith, l, ap (λ (k : ℕ). length (stack R.heap k)) ek, ok-cache_count R.heap w r R.ok k (omega (arith, cache_of-bound b (omega arith))))));
    }

    module _ (ne : get_or r (fast_head f) 0 ≡ none32 → ⊥) where
      some : (h : Heap) → Ok h w r → some? (stack h (fast_at f)) ≡ true
      some h o = fast-some h w r o f f10 ne

      pub heads-has : Has Good w₀ r₀ → Has (λ h. some? (stack h (fast_at f)) ≡ true) w r
      heads-has H = let R = W.reach H.heap H.ok H.holds in record { heap = R.heap; ok = R.ok; holds = some R.heap R.ok }

      module _ (c : ℕ) (q : List ℕ) (d : Does (Option ℕ) (λ h. some? (stack h (fast_at f)) ≡ true) (pop (fast_at f)) w r (Some c) w q) (k : ℕ) (ek : k ≡ cache_of b) (lt : get_or r (cache_count k) 0 < cache_room) where
        pub heads-push : Has Good w₀ r₀ → Has (λ h. Loose h c × (length (stack h k) < 7)) w q
        heads-push H =
            let R = W.reach H.heap H.ok H.holds in
            push-has R.heap w r R.ok R.good (some R.heap R.ok) c q (d.does R.heap R.ok (some R.heap R.ok)) k ek lt

        module _ (v p : List ℕ) (e : Does (Unit {0}) (λ h. Loose h c × (length (stack h k) < 7)) (push_cache k c) w q tt v p) where
          pub heads-again : Way (Unit {0}) (move_heads b) (move_heads b) w₀ r₀ v p
          heads-again = record {
            reach = λ h o g.
                let R = W.reach h o g in
                let m = d.does R.heap R.ok (some R.heap R.ok) in
                reach-then R (moved f k c R.heap) tt (move_heads b)
                (moved-is R.heap w r R.ok R.good (some R.heap R.ok) c q m k ek lt v p e)
                (moved-gave R.heap w r R.ok R.good (some R.heap R.ok) c q m k ek lt v p e)
                (moved_ends R.heap w r R.ok R.good (some R.heap R.ok) c q m k ek lt v p e);
          }

          pub heads-less : Has Good w₀ r₀ → cache_room - get_or p (cache_count k) 0 < cache_room - get_or r (cache_count k) 0
          heads-less H =
              let R = W.reach H.heap H.ok H.holds in
              omega (arith, lt, counted R.heap w r R.ok R.good (some R.heap R.ok) c q (d.does R.heap R.ok (some R.heap R.ok)) k ek lt v p e)
