-- Two heaps that are equal but for what they were given when they were opened, the length and the choice of key and edition: every step of grant, release, emptying
-- and joining leaves two such again and answers the same, as long as the top is not asked for its size. A step asks for it in two places: step 9, and what a joining
-- yields. Through the steps in their order. Assumes nothing.
use Rattle.std.specs.Prelude.{◌≡◌, Bool, eqb, ltb, leb, length, Option, Some, None}
use Rattle.std.proofs.Math.Path.{refl, sym, ap, subst}
use Rattle.std.proofs.Common.{◌∙◌, arith, le-leb, ltb-false}
use mathlib.Core.List.{List, [], ◌∷◌, ◌++◌, append_assoc}
use Rattle.std.proofs.Math.Bool.{true, false}
use Prim.Native.Nat.{ℕ, zero, suc, ◌+◌, ◌-◌, ◌≤◌, ◌<◌}
use Rattle.std.proofs.lemmas.Bool.{lt-leb}
use Rattle.sizes.specs.Limits.{none64, most_cached, cache_room, most_fast, consolidate_from, fast_lists, cache_lists, large, unsorted, least_chunk, last_bin, none32}
use Rattle.sizes.specs.Sizes.{cache_of, fast_of, bin_of}
use Rattle.machine.specs.Lists.{both, hd, lst, some?}
use Rattle.machine.specs.Heap.{Heap, stack, cache, fast_at, fast, bin, any_fast?, top_of, top_size, size_of, p_of, next, before, binned}
use Rattle.machine.specs.Writes.{Write, Ran, ran, heap_of, giving, more, ◌>>=◌, nothing, ◌or_else◌}
use Rattle.machine.specs.Primitives.{pop, push_cache, take_cache, unlink, set_p, cut_top, set_remainder}
use Rattle.machine.specs.Release.{absorb, join_next, put_down, join, drain, drains, consolidate, joined, release_past, release, emptying, joining}
use Rattle.machine.specs.Grant.{room_for?, step1, move_fast, step2, take_last, move_lasts, step3, step4, split, sort_in, lone?, split_lone, keep, turn_at, turn, swept, after_turn, sweep, step5, carve, step8, fit, step6, first_bin, step7, step9, pass, again, from4, seek, grant}
use Rattle.machine.specs.declared.{Turn.Turn}
use Rattle.machine.specs.declared.Turn.TheVariants as T
use Rattle.history.specs.Histories.{Choice}

-- what a heap is given when it is opened, and no step changes: its length, and what was chosen
pub record Given : Type 0 where
  pub len : ℕ
  pub choice : Choice

abbrev pub given : Heap → Given
given h = record { len = h.len; choice = record { key = h.key; edition = h.edition } }

-- the heap with what it was given changed by w
abbrev pub with_given : (Given → Given) → Heap → Heap
with_given w h =
    let o : Given = w (given h) in
    record { len = o.len; tiles = h.tiles; stacks = h.stacks; bins = h.bins; remainder = h.remainder; key = o.choice.key; edition = o.choice.edition }

abbrev pub answer : {A : Type 0} → Ran A → A
answer (ran h ws a) = a

-- ---- the second result is the first but for what its heap was given, and for what was written of that
pub record Like {A : Type 0} (w : Given → Given) (r r' : Ran A) : Type 0 where
  pub heap : heap_of r' ≡ with_given w (heap_of r)
  pub says : answer r' ≡ answer r

module _ (w : Given → Given) where
  pub like-more : {A : Type 0} (ws ws' : List Write) (x x' : Ran A) → Like w x x' → Like w (more ws x) (more ws' x')
  like-more ws ws' (ran h vs a) (ran h' vs' a') l = record { heap = l.heap; says = l.says }

  pub like-giving : {A B : Type 0} (b : B) {x x' : Ran A} → Like w x x' → Like w (giving b x) (giving b x')
  like-giving b {x = ran h vs a} {x' = ran h' vs' a'} l = record { heap = l.heap; says = refl }

  -- the first step's answer does not count
  pub like-then : {A B : Type 0} (f : Heap → Ran B) (x x' : Ran A) → heap_of x' ≡ with_given w (heap_of x) → ((g : Heap) → Like w (f g) (f (with_given w g)))
      → Like w (x >>= f) (x' >>= f)
  like-then f (ran h ws a) (ran h' ws' a') e k = like-more ws ws' (f h) (f h') (subst (λ (g : Heap). Like w (f h) (f g)) (sym e) (k h))

  pub like-else : (f : Heap → Ran (Option ℕ)) (x x' : Ran (Option ℕ)) → Like w x x' → ((g : Heap) → Like w (f g) (f (with_given w g))) → Like w (x or_else f) (x' or_else f)
  like-else f (ran h ws (Some c)) (ran h' ws' (Some c')) l k = l
  like-else f (ran h ws None) (ran h' ws' None) l k = like-then {A = Option ℕ} f (ran h ws None) (ran h' ws' None) l.heap k
  like-else f (ran h ws (Some c)) (ran h' ws' None) l k = absurd (let z : ◌≡◌ {A = ℕ} 0 1 = cc in omega arith)
  like-else f (ran h ws None) (ran h' ws' (Some c')) l k = absurd (let z : ◌≡◌ {A = ℕ} 0 1 = cc in omega arith)

  pub like-if : {A : Type 0} (t : Bool) (x y x' y' : Ran A) → (t ≡ true → Like w x x') → (t ≡ false → Like w y y')
      → Like {A = A} w (elim t [ true ↦ x | false ↦ y ]) (elim t [ true ↦ x' | false ↦ y' ])
  like-if true x y x' y' p q = p refl
  like-if false x y x' y' p q = q refl

  like-got : {A : Type 0} (t : Option ℕ) (x x' : ℕ → Ran A) (y y' : Ran A) → ((c : ℕ) → Like w (x c) (x' c)) → Like w y y'
      → Like {A = A} w (elim t [ Some c ↦ x c | None ↦ y ]) (elim t [ Some c ↦ x' c | None ↦ y' ])
  like-got (Some c) x x' y y' p q = p c
  like-got None x x' y y' p q = q

  -- ---- 1, 2 and 3
  module _ (b : ℕ) where
    pub step1-like : (h : Heap) → Like w (step1 b h) (step1 b (with_given w h))
    unfolding step1
    step1-like h = like-if (both (leb b most_cached) (some? (cache h (cache_of b)))) _ _ _ _ (λ e. record { heap = refl; says = refl }) (λ e. record { heap = refl; says = refl })

    move_fast-like : (l : List ℕ) (h : Heap) → Like w (move_fast b l h) (move_fast b l (with_given w h))
    unfolding move_fast
    move_fast-like [] h = record { heap = refl; says = refl }
    move_fast-like (c ∷ l) h = like-if (room_for? b h) _ _ _ _
        (λ e. like-then (λ h. push_cache (cache_of b) c h >>= (λ h. move_fast b l h)) (pop (fast_at (fast_of b)) h) (pop (fast_at (fast_of b)) (with_given w h)) refl
        (λ g. like-then (λ h. move_fast b l h) (push_cache (cache_of b) c g) (push_cache (cache_of b) c (with_given w g)) refl (move_fast-like l)))
        (λ e. record { heap = refl; says = refl })

    pub step2-like : (h : Heap) → Like w (step2 b h) (step2 b (with_given w h))
    unfolding step2
    step2-like h = like-if (both (leb b most_fast) (some? (fast h (fast_of b)))) _ _ _ _
        (λ e. like-giving (Some (hd none64 (fast h (fast_of b))))
        (like-then (λ h. move_fast b (fast h (fast_of b)) h) (pop (fast_at (fast_of b)) h) (pop (fast_at (fast_of b)) (with_given w h)) refl (λ g. move_fast-like (fast g (fast_of b)) g)))
        (λ e. record { heap = refl; says = refl })

    take_last-like : (j c : ℕ) (h : Heap) → Like w (take_last j c h) (take_last j c (with_given w h))
    unfolding take_last
    take_last-like j c h = record { heap = refl; says = refl }

    move_lasts-like : (m : ℕ) (h : Heap) → Like w (move_lasts m b h) (move_lasts m b (with_given w h))
    unfolding move_lasts
    move_lasts-like zero h = record { heap = refl; says = refl }
    move_lasts-like (suc m) h =
        let c : ℕ = lst none64 (bin h (bin_of b)) in
        like-if (both (room_for? b h) (some? (bin h (bin_of b)))) _ _ _ _
        (λ e. like-then (λ h. push_cache (cache_of b) c h >>= (λ h. move_lasts m b h)) (take_last (bin_of b) c h) (take_last (bin_of b) c (with_given w h)) (take_last-like (bin_of b) c h).heap
        (λ g. like-then (λ h. move_lasts m b h) (push_cache (cache_of b) c g) (push_cache (cache_of b) c (with_given w g)) refl (move_lasts-like m)))
        (λ e. record { heap = refl; says = refl })

    pub step3-like : (h : Heap) → Like w (step3 b h) (step3 b (with_given w h))
    unfolding step3
    step3-like h =
        let c : ℕ = lst none64 (bin h (bin_of b)) in
        like-if (both (ltb b large) (some? (bin h (bin_of b)))) _ _ _ _
        (λ e. like-giving (Some c)
        (like-then (λ h. move_lasts (length (bin h (bin_of b))) b h) (take_last (bin_of b) c h) (take_last (bin_of b) c (with_given w h)) (take_last-like (bin_of b) c h).heap
        (λ g. move_lasts-like (length (bin g (bin_of b))) g)))
        (λ e. record { heap = refl; says = refl })

  -- ---- a join: the heaps alone, as what it yields is not the same where the top was joined
  abbrev Kin : {A : Type 0} → Ran A → Ran A → Type 0
  Kin x x' = heap_of x' ≡ with_given w (heap_of x)

  kin-more : {A : Type 0} (ws ws' : List Write) (x x' : Ran A) → Kin x x' → Kin (more ws x) (more ws' x')
  kin-more ws ws' (ran h vs a) (ran h' vs' a') e = e

  kin-then : {A B : Type 0} (f : Heap → Ran B) (x x' : Ran A) → Kin x x' → ((g : Heap) → Kin (f g) (f (with_given w g))) → Kin (x >>= f) (x' >>= f)
  kin-then f (ran h ws a) (ran h' ws' a') e k = kin-more ws ws' (f h) (f h') (subst (λ (g : Heap). Kin (f h) (f g)) (sym e) (k h))

  kin-if : {A : Type 0} (t : Bool) (x y x' y' : Ran A) → Kin x x' → Kin y y' → Kin {A = A} (elim t [ true ↦ x | false ↦ y ]) (elim t [ true ↦ x' | false ↦ y' ])
  kin-if true x y x' y' p q = p
  kin-if false x y x' y' p q = q

  pub join_next-kin : (c : ℕ) (h : Heap) → Kin (join_next c h) (join_next c (with_given w h))
  unfolding join_next absorb
  join_next-kin c h = kin-if (eqb (binned h (next h c)) 0) _ _ _ _ refl refl

  put_down-kin : (c : ℕ) (h : Heap) → Kin (put_down c h) (put_down c (with_given w h))
  unfolding put_down
  put_down-kin c h = kin-if (eqb (next h c) (top_of h)) _ _ _ _ refl refl

  pub join-kin : (c : ℕ) (h : Heap) → Kin (join c h) (join c (with_given w h))
  unfolding join absorb
  join-kin c h = kin-if (eqb (p_of h c) 0) _ _ _ _
      (kin-then (λ g. join_next (before h c) g >>= (λ g. put_down (before h c) g)) (absorb (before h c) (before h c) h) (absorb (before h c) (before h c) (with_given w h)) refl (rest (before h c)))
      (rest c h)
    where
      rest : (q : ℕ) (g : Heap) → Kin (join_next q g >>= (λ g. put_down q g)) (join_next q (with_given w g) >>= (λ g. put_down q g))
      rest q g = kin-then (λ g. put_down q g) (join_next q g) (join_next q (with_given w g)) (join_next-kin q g) (put_down-kin q)

  -- ---- stacks emptied, by a taking step and a step with each chunk that keep the heaps kin
  module _ (t : ℕ → Heap → Ran (Option ℕ)) (f : ℕ → Heap → Ran ℕ) (takes : (k : ℕ) (h : Heap) → Kin (t k h) (t k (with_given w h)))
      (each : (c : ℕ) (h : Heap) → Kin (f c h) (f c (with_given w h))) where
    drain-like : (k : ℕ) (l : List ℕ) (h : Heap) → Like w (drain t f k l h) (drain t f k l (with_given w h))
    unfolding drain
    drain-like k [] h = record { heap = refl; says = refl }
    drain-like k (c ∷ l) h = like-then (λ h. f c h >>= (λ h. drain t f k l h)) (t k h) (t k (with_given w h)) (takes k h)
        (λ g. like-then (λ h. drain t f k l h) (f c g) (f c (with_given w g)) (each c g) (drain-like k l))

    pub drains-like : (m k : ℕ) (h : Heap) → Like w (drains t f m k h) (drains t f m k (with_given w h))
    unfolding drains
    drains-like zero k h = record { heap = refl; says = refl }
    drains-like (suc m) k h =
        like-then (λ h. drains t f m (suc k) h) (drain t f k (stack h k) h) (drain t f k (stack h k) (with_given w h)) (drain-like k (stack h k) h).heap (drains-like m (suc k))

  pub consolidate-like : (h : Heap) → Like w (consolidate h) (consolidate (with_given w h))
  unfolding consolidate
  consolidate-like h = drains-like pop join (λ k h. refl) join-kin fast_lists (fast_at 0) h

  pub joining-like : (h : Heap) → Like w (joining h) (joining (with_given w h))
  unfolding joining
  joining-like h = like-then (λ h. set_remainder none32 h) (consolidate h) (consolidate (with_given w h)) (consolidate-like h).heap (λ g. record { heap = refl; says = refl })

  -- ---- 4 to 7
  module _ (b : ℕ) where
    pub step4-like : (h : Heap) → Like w (step4 b h) (step4 b (with_given w h))
    unfolding step4
    step4-like h = like-if (both (leb large b) (any_fast? h)) _ _ _ _ (λ e. consolidate-like h) (λ e. record { heap = refl; says = refl })

    split-like : (c : ℕ) (h : Heap) → Like w (split c b h) (split c b (with_given w h))
    unfolding split
    split-like c h = record { heap = refl; says = refl }

    sort_in-like : (c : ℕ) (h : Heap) → Like w (sort_in c h) (sort_in c (with_given w h))
    unfolding sort_in
    sort_in-like c h = like-if (ltb (size_of h c) large) _ _ _ _ (λ e. record { heap = refl; says = refl }) (λ e. record { heap = refl; says = refl })

    split_lone-like : (c : ℕ) (h : Heap) → Like w (split_lone b c h) (split_lone b c (with_given w h))
    unfolding split_lone
    split_lone-like c h = like-giving (T.Granted c)
        (like-then (λ h. split c b h >>= (λ h. set_remainder (c + b) h)) (unlink unsorted c h) (unlink unsorted c (with_given w h)) refl
        (λ g. like-then (λ h. set_remainder (c + b) h) (split c b g) (split c b (with_given w g)) (split-like c g).heap (λ g. record { heap = refl; says = refl })))

    keep-like : (c : ℕ) (h : Heap) → Like w (keep b c h) (keep b c (with_given w h))
    unfolding keep
    keep-like c h = like-if (both (leb b most_cached) (room_for? b h)) _ _ _ _ (λ e. record { heap = refl; says = refl }) (λ e. record { heap = refl; says = refl })

    turn_at-like : (c : ℕ) (h : Heap) → Like w (turn_at b c h) (turn_at b c (with_given w h))
    unfolding turn_at
    turn_at-like c h = like-if (lone? b c h) _ _ _ _
        (λ e. split_lone-like c h)
        (λ e. like-if (eqb (size_of h c) b) _ _ _ _
        (λ e. like-then (λ h. set_p (next h c) h >>= (λ h. keep b c h)) (unlink unsorted c h) (unlink unsorted c (with_given w h)) refl
        (λ g. like-then (λ h. keep b c h) (set_p (next g c) g) (set_p (next g c) (with_given w g)) refl (keep-like c)))
        (λ e. like-giving T.Binned (like-then (λ h. sort_in c h) (unlink unsorted c h) (unlink unsorted c (with_given w h)) refl (sort_in-like c))))

    turn-like : (h : Heap) → Like w (turn b h) (turn b (with_given w h))
    unfolding turn
    turn-like h = like-if (some? (bin h unsorted)) _ _ _ _ (λ e. turn_at-like (lst none64 (bin h unsorted)) h) (λ e. record { heap = refl; says = refl })

    swept-like : (got : Bool) (h : Heap) → Like w (swept b got h) (swept b got (with_given w h))
    unfolding swept
    swept-like got h = like-if got _ _ _ _ (λ e. record { heap = refl; says = refl }) (λ e. record { heap = refl; says = refl })

    after-like : (x x' : Ran Turn) (k s o : Heap → Ran (Option ℕ)) → Like w x x' → ((g : Heap) → Like w (k g) (k (with_given w g))) → ((g : Heap) → Like w (s g) (s (with_given w g)))
        → ((g : Heap) → Like w (o g) (o (with_given w g))) → Like w (after_turn x k s o) (after_turn x' k s o)
    after-like (ran h ws (T.Granted c)) x' k s o l p q r = granted x' l
      where
        granted : (x' : Ran Turn) → Like w (ran h ws (T.Granted c)) x' → Like w (ran h ws (Some c)) (after_turn x' k s o)
        granted (ran h' ws' (T.Granted c')) l = record { heap = l.heap; says = let z : c' ≡ c = cc in ap Some z }
        granted (ran h' ws' T.Cached) l = absurd (let z : ◌≡◌ {A = ℕ} 0 1 = cc in omega arith)
        granted (ran h' ws' T.Binned) l = absurd (let z : ◌≡◌ {A = ℕ} 0 1 = cc in omega arith)
        granted (ran h' ws' T.Empty) l = absurd (let z : ◌≡◌ {A = ℕ} 0 1 = cc in omega arith)
    after-like (ran h ws T.Cached) x' k s o l p q r = cached x' l
      where
        cached : (x' : Ran Turn) → Like w (ran h ws T.Cached) x' → Like w (more ws (k h)) (after_turn x' k s o)
        cached (ran h' ws' T.Cached) l = like-then k (ran h ws T.Cached) (ran h' ws' T.Cached) l.heap p
        cached (ran h' ws' (T.Granted c)) l = absurd (let z : ◌≡◌ {A = ℕ} 0 1 = cc in omega arith)
        cached (ran h' ws' T.Binned) l = absurd (let z : ◌≡◌ {A = ℕ} 0 1 = cc in omega arith)
        cached (ran h' ws' T.Empty) l = absurd (let z : ◌≡◌ {A = ℕ} 0 1 = cc in omega arith)
    after-like (ran h ws T.Binned) x' k s o l p q r = binned-at x' l
      where
        binned-at : (x' : Ran Turn) → Like w (ran h ws T.Binned) x' → Like w (more ws (s h)) (after_turn x' k s o)
        binned-at (ran h' ws' T.Binned) l = like-then s (ran h ws T.Binned) (ran h' ws' T.Binned) l.heap q
        binned-at (ran h' ws' (T.Granted c)) l = absurd (let z : ◌≡◌ {A = ℕ} 0 1 = cc in omega arith)
        binned-at (ran h' ws' T.Cached) l = absurd (let z : ◌≡◌ {A = ℕ} 0 1 = cc in omega arith)
        binned-at (ran h' ws' T.Empty) l = absurd (let z : ◌≡◌ {A = ℕ} 0 1 = cc in omega arith)
    after-like (ran h ws T.Empty) x' k s o l p q r = empty x' l
      where
        empty : (x' : Ran Turn) → Like w (ran h ws T.Empty) x' → Like w (more ws (o h)) (after_turn x' k s o)
        empty (ran h' ws' T.Empty) l = like-then o (ran h ws T.Empty) (ran h' ws' T.Empty) l.heap r
        empty (ran h' ws' (T.Granted c)) l = absurd (let z : ◌≡◌ {A = ℕ} 0 1 = cc in omega arith)
        empty (ran h' ws' T.Cached) l = absurd (let z : ◌≡◌ {A = ℕ} 0 1 = cc in omega arith)
        empty (ran h' ws' T.Binned) l = absurd (let z : ◌≡◌ {A = ℕ} 0 1 = cc in omega arith)

    sweep-like : (m : ℕ) (got : Bool) (h : Heap) → Like w (sweep m b got h) (sweep m b got (with_given w h))
    unfolding sweep
    sweep-like zero got h = swept-like got h
    sweep-like (suc m) got h = after-like (turn b h) (turn b (with_given w h)) (λ g. sweep m b true g) (λ g. sweep m b got g) (λ g. swept b got g) (turn-like h)
        (sweep-like m true) (sweep-like m got) (swept-like got)

    step5-like : (h : Heap) → Like w (step5 b h) (step5 b (with_given w h))
    unfolding step5
    step5-like h = sweep-like (length (bin h unsorted)) false h

    carve-like : (c : ℕ) (new? : Bool) (h : Heap) → Like w (carve c b new? h) (carve c b new? (with_given w h))
    unfolding carve
    carve-like c new? h = like-if (ltb (size_of h c - b) least_chunk) _ _ _ _
        (λ e. record { heap = refl; says = refl })
        (λ e. like-if new? _ _ _ _
        (λ e. like-then (λ h. set_remainder (c + b) h) (split c b h) (split c b (with_given w h)) (split-like c h).heap (λ g. record { heap = refl; says = refl }))
        (λ e. split-like c h))

    step8-like : (j c : ℕ) (new? : Bool) (h : Heap) → Like w (step8 j c b new? h) (step8 j c b new? (with_given w h))
    unfolding step8
    step8-like j c new? h = like-giving (Some c) (like-then (λ h. carve c b new? h) (unlink j c h) (unlink j c (with_given w h)) refl (carve-like c new?))

    step6-like : (h : Heap) → Like w (step6 b h) (step6 b (with_given w h))
    unfolding step6
    step6-like h = like-if (leb large b) _ _ _ _
        (λ e. like-got (fit (λ x. size_of h x) b (bin h (bin_of b))) (λ c. step8 (bin_of b) c b false h) (λ c. step8 (bin_of b) c b false (with_given w h)) _ _
        (λ c. step8-like (bin_of b) c false h) (record { heap = refl; says = refl }))
        (λ e. record { heap = refl; says = refl })

    first_bin-same : (m j : ℕ) (h : Heap) → first_bin m j (with_given w h) ≡ first_bin m j h
    first_bin-same zero j h = refl
    first_bin-same (suc m) j h = ap (λ (g : Option ℕ). elim (some? (bin h j)) [ true ↦ Some j | false ↦ g ]) (first_bin-same m (suc j) h)

    step7-like : (h : Heap) → Like w (step7 b h) (step7 b (with_given w h))
    unfolding step7
    step7-like h = subst (λ (t : Option ℕ). Like w (step7 b h) (elim t [ Some j ↦ step8 j (lst none64 (bin h j)) b (ltb b large) (with_given w h) | None ↦ nothing (with_given w h) ]))
        (sym (first_bin-same (last_bin - bin_of b) (suc (bin_of b)) h))
        (like-got (first_bin (last_bin - bin_of b) (suc (bin_of b)) h) (λ j. step8 j (lst none64 (bin h j)) b (ltb b large) h) (λ j. step8 j (lst none64 (bin h j)) b (ltb b large) (with_given w h)) _ _
        (λ j. step8-like j (lst none64 (bin h j)) (ltb b large) h) (record { heap = refl; says = refl }))

-- ---- "finds the top short in step 9": the steps before it find nothing, and the top that they leave is under b+32
-- the steps of grant before step 9
unfoldable pub up_to9 : ℕ → Heap → Ran (Option ℕ)
up_to9 b h = step1 b h or_else step2 b or_else step3 b or_else (λ h. step4 b h >>= (λ h. step5 b h or_else step6 b or_else step7 b))

abbrev pub short? : ℕ → Ran (Option ℕ) → Bool
short? b (ran h ws (Some c)) = false
short? b (ran h ws None) = ltb (top_size h) (b + 32)

-- ---- grant is those steps, then step 9, then the consolidation that goes to 5
more-more : {A : Type 0} (ws vs : List Write) (x : Ran A) → more ws (more vs x) ≡ more (ws ++ vs) x
more-more ws vs (ran h us a) = ap (λ (l : List Write). ran h l a) (sym (append_assoc ws vs us))

else-more : (ws : List Write) (x : Ran (Option ℕ)) (f : Heap → Ran (Option ℕ)) → (more ws x or_else f) ≡ more ws (x or_else f)
else-more ws (ran h vs (Some c)) f = refl
else-more ws (ran h vs None) f = sym (more-more ws vs (f h))

else-else : (x : Ran (Option ℕ)) (f g : Heap → Ran (Option ℕ)) → (x or_else f or_else g) ≡ (x or_else (λ h. f h or_else g))
else-else (ran h ws (Some c)) f g = refl
else-else (ran h ws None) f g = else-more ws (f h) g

then-else : {A : Type 0} (x : Ran A) (f g : Heap → Ran (Option ℕ)) → ((x >>= f) or_else g) ≡ (x >>= (λ h. f h or_else g))
then-else (ran h ws a) f g = else-more ws (f h) g

else-by : (x : Ran (Option ℕ)) (f g : Heap → Ran (Option ℕ)) → ((h : Heap) → f h ≡ g h) → (x or_else f) ≡ (x or_else g)
else-by (ran h ws (Some c)) f g e = refl
else-by (ran h ws None) f g e = ap (more ws) (e h)

then_by : {A : Type 0} (x : Ran A) (f g : Heap → Ran (Option ℕ)) → ((h : Heap) → f h ≡ g h) → (x >>= f) ≡ (x >>= g)
then_by (ran h ws a) f g e = ap (more ws) (e h)

module _ (b : ℕ) where
  abbrev last : Heap → Ran (Option ℕ)
  last h = step9 b h or_else again b

  -- 5 to 7
  abbrev pub five : Heap → Ran (Option ℕ)
  five h = step5 b h or_else step6 b or_else step7 b

  from4-last : (h : Heap) → ((step4 b h >>= five) or_else last) ≡ from4 b h
  unfolding from4 pass
  from4-last h = then-else (step4 b h) five last ∙ then_by (step4 b h) (λ h. five h or_else last) (λ h. pass b h or_else again b) (λ h. sym (else-else (five h) (step9 b) (again b)))

  pub grant-last : (h : Heap) → grant b h ≡ (up_to9 b h or_else last)
  unfolding grant seek up_to9
  grant-last h =
      sym (else-else (step1 b h) (λ h. step2 b h or_else step3 b) (from4 b))
      ∙ ap (λ (x : Ran (Option ℕ)). x or_else from4 b) (sym (else-else (step1 b h) (step2 b) (step3 b)))
      ∙ sym (else-else (step1 b h or_else step2 b or_else step3 b) (λ h. step4 b h >>= five) last
      ∙ else-by (step1 b h or_else step2 b or_else step3 b) (λ h. (step4 b h >>= five) or_else last) (from4 b) from4-last)

-- ---- the whole grant, where the top is not found short in the shorter of the two
module _ (w : Given → Given) (b : ℕ) where
  pub five-like : (h : Heap) → Like w (five b h) (five b (with_given w h))
  five-like h =
      like-else w (step7 b) (step5 b h or_else step6 b) (step5 b (with_given w h) or_else step6 b)
      (like-else w (step6 b) (step5 b h) (step5 b (with_given w h)) (step5-like w b h) (step6-like w b)) (step7-like w b)

  pub up_to9-like : (h : Heap) → Like w (up_to9 b h) (up_to9 b (with_given w h))
  unfolding up_to9
  up_to9-like h =
      like-else w (λ h. step4 b h >>= five b) (step1 b h or_else step2 b or_else step3 b) (step1 b (with_given w h) or_else step2 b or_else step3 b)
      (like-else w (step3 b) (step1 b h or_else step2 b) (step1 b (with_given w h) or_else step2 b)
      (like-else w (step2 b) (step1 b h) (step1 b (with_given w h)) (step1-like w b h) (step2-like w b)) (step3-like w b))
      (λ g. like-then w (five b) (step4 b g) (step4 b (with_given w g)) (step4-like w b g).heap five-like)

  step9-cuts : (h : Heap) → b + 32 ≤ top_size h → step9 b h ≡ cut_top b h
  unfolding step9
  step9-cuts h l = rw (le-leb (b + 32) (top_size h) l, step9)

  cut-last : (h : Heap) → b + 32 ≤ top_size h → last b h ≡ cut_top b h
  cut-last h l = ap (λ (x : Ran (Option ℕ)). x or_else again b) (step9-cuts h l)

  -- from the same place on
  last-like : (x x' : Ran (Option ℕ)) → Like w x x' → (heap_of x).len ≤ (w (given (heap_of x))).len → short? b x ≡ false → Like w (x or_else last b) (x' or_else last b)
  last-like (ran h ws (Some c)) (ran h' ws' (Some c')) l m s = l
  last-like (ran h ws (Some c)) (ran h' ws' None) l m s = absurd (let z : ◌≡◌ {A = ℕ} 0 1 = cc in omega arith)
  last-like (ran h ws None) (ran h' ws' (Some c')) l m s = absurd (let z : ◌≡◌ {A = ℕ} 0 1 = cc in omega arith)
  last-like (ran h ws None) (ran h' ws' None) l m s =
      let r : b + 32 ≤ top_size h = ltb-false (top_size h) (b + 32) s in
      like-more w ws ws' (last b h) (last b h')
      (subst (λ (g : Heap). Like w (last b h) (last b g)) (sym l.heap)
      (subst (λ (y : Ran (Option ℕ)). Like w y (last b (with_given w h))) (sym (cut-last h r))
      (subst (λ (y : Ran (Option ℕ)). Like w (cut_top b h) y) (sym (cut-last (with_given w h) (omega arith))) (record { heap = refl; says = refl }))))

  pub grant-like : (h : Heap) → (heap_of (up_to9 b h)).len ≤ (w (given (heap_of (up_to9 b h)))).len → short? b (up_to9 b h) ≡ false → Like w (grant b h) (grant b (with_given w h))
  grant-like h m s =
      subst (λ (y : Ran (Option ℕ)). Like w y (grant b (with_given w h))) (sym (grant-last b h))
      (subst (λ (y : Ran (Option ℕ)). Like w (up_to9 b h or_else last b) y) (sym (grant-last b (with_given w h)))
      (last-like (up_to9 b h) (up_to9 b (with_given w h)) (up_to9-like h) m s))

-- ---- no step changes the length
pub up_to9-len : (b : ℕ) (h : Heap) → (heap_of (up_to9 b h)).len ≡ h.len
up_to9-len b h = ap (λ (g : Heap). g.len) (up_to9-like (λ o. given h) b h).heap

-- ---- "yields": what a release answers is the size that its joining yields, 0 for a push
joined_says : (x : Ran ℕ) → answer (joined x) ≡ answer x
joined_says (ran h ws s) = go (both (leb consolidate_from s) (any_fast? h))
  where
    giving-says : (y : Ran (Unit {0})) → answer (more ws (giving s y)) ≡ s
    giving-says (ran g vs a) = refl

    go : (t : Bool) → answer {A = ℕ} (elim t [ true ↦ more ws (giving s (consolidate h)) | false ↦ ran h ws s ]) ≡ s
    go true = giving-says (consolidate h)
    go false = refl

joined-few : (x : Ran ℕ) → answer x < 65536 → joined x ≡ x
joined-few (ran h ws s) l =
    ap (λ (t : Bool). elim (both t (any_fast? h)) [ true ↦ more ws (giving s (consolidate h)) | false ↦ ran h ws s ]) (lt-leb consolidate_from s l)

module _ (w : Given → Given) where
  joined-kin : (x x' : Ran ℕ) → Kin w x x' → answer (joined x) < 65536 → answer (joined x') < 65536 → Kin w (joined x) (joined x')
  joined-kin x x' k l l' =
      subst (λ (y : Ran ℕ). Kin w y (joined x')) (sym (joined-few x (omega (arith, l, joined_says x))))
      (subst (λ (y : Ran ℕ). Kin w x y) (sym (joined-few x' (omega (arith, l', joined_says x')))) k)

  -- by a test, with what is known of both answers
  few-if : (t : Bool) (x y x' y' : Ran ℕ) → Kin w x x' → (answer y < 65536 → answer y' < 65536 → Kin w y y')
      → answer {A = ℕ} (elim t [ true ↦ x | false ↦ y ]) < 65536 → answer {A = ℕ} (elim t [ true ↦ x' | false ↦ y' ]) < 65536
      → Kin w {A = ℕ} (elim t [ true ↦ x | false ↦ y ]) (elim t [ true ↦ x' | false ↦ y' ])
  few-if true x y x' y' p q l l' = p
  few-if false x y x' y' p q l l' = q l l'

  pub release_past-kin : (c : ℕ) (h : Heap) → answer (release_past c h) < 65536 → answer (release_past c (with_given w h)) < 65536 → Kin w (release_past c h) (release_past c (with_given w h))
  unfolding release_past
  release_past-kin c h = few-if (leb (size_of h c) most_fast) _ _ _ _ refl (λ l l'. joined-kin (join c h) (join c (with_given w h)) (join-kin w c h) l l')

  pub release-kin : (c : ℕ) (h : Heap) → answer (release c h) < 65536 → answer (release c (with_given w h)) < 65536 → Kin w (release c h) (release c (with_given w h))
  unfolding release
  release-kin c h =
      few-if (both (leb (size_of h c) most_cached) (ltb (length (cache h (cache_of (size_of h c)))) cache_room)) _ _ _ _ refl (release_past-kin c h)

-- ---- and no release of an emptying does
abbrev pub FewIn : ℕ → List ℕ → Heap → Type 0
FewIn k [] h = Unit {0}
FewIn k (c ∷ l) h = (answer (release_past c (heap_of (take_cache k h))) < consolidate_from) × FewIn k l (heap_of (release_past c (heap_of (take_cache k h))))

abbrev pub FewFrom : ℕ → ℕ → Heap → Type 0
FewFrom zero k h = Unit {0}
FewFrom (suc m) k h = FewIn k (stack h k) h × FewFrom m (suc k) (heap_of (drain take_cache release_past k (stack h k) h))

abbrev pub Few : Heap → Type 0
Few h = FewFrom cache_lists 0 h

heap-then : {A B : Type 0} (x : Ran A) (f : Heap → Ran B) → heap_of (x >>= f) ≡ heap_of (f (heap_of x))
heap-then {A} {B} (ran h ws a) f = go (f h)
  where
    go : (q : Ran B) → heap_of (more ws q) ≡ heap_of q
    go (ran g vs b) = refl

module _ (w : Given → Given) where
  drain-few : (k : ℕ) (l : List ℕ) (h : Heap) → FewIn k l h → FewIn k l (with_given w h) → Kin w (drain take_cache release_past k l h) (drain take_cache release_past k l (with_given w h))
  unfolding drain
  drain-few k [] h p q = refl
  drain-few k (c ∷ l) h p q =
      let g : Heap = heap_of (take_cache k h) in
      let e : heap_of (release_past c (with_given w g)) ≡ with_given w (heap_of (release_past c g)) = release_past-kin w c g p.0 q.0 in
      heap-then (take_cache k (with_given w h)) (λ h. release_past c h >>= (λ h. drain take_cache release_past k l h))
      ∙ heap-then (release_past c (with_given w g)) (λ h. drain take_cache release_past k l h)
      ∙ ap (λ (f : Heap). heap_of (drain take_cache release_past k l f)) e
      ∙ drain-few k l (heap_of (release_past c g)) p.1 (subst (FewIn k l) e q.1)
      ∙ ap (with_given w) (sym (heap-then (take_cache k h) (λ h. release_past c h >>= (λ h. drain take_cache release_past k l h)) ∙ heap-then (release_past c g) (λ h. drain take_cache release_past k l h)))

  drains-few : (m k : ℕ) (h : Heap) → FewFrom m k h → FewFrom m k (with_given w h) → Kin w (drains take_cache release_past m k h) (drains take_cache release_past m k (with_given w h))
  unfolding drains
  drains-few zero k h p q = refl
  drains-few (suc m) k h p q =
      let x : Ran (Unit {0}) = drain take_cache release_past k (stack h k) h in
      let x' : Ran (Unit {0}) = drain take_cache release_past k (stack h k) (with_given w h) in
      let e : heap_of x' ≡ with_given w (heap_of x) = drain-few k (stack h k) h p.0 q.0 in
      heap-then x' (λ h. drains take_cache release_past m (suc k) h)
      ∙ ap (λ (f : Heap). heap_of (drains take_cache release_past m (suc k) f)) e
      ∙ drains-few m (suc k) (heap_of x) p.1 (subst (FewFrom m (suc k)) e q.1)
      ∙ ap (with_given w) (sym (heap-then x (λ h. drains take_cache release_past m (suc k) h)))

  pub emptying-kin : (h : Heap) → Few h → Few (with_given w h) → Kin w (emptying h) (emptying (with_given w h))
  unfolding emptying
  emptying-kin h p q = drains-few cache_lists 0 h p q
