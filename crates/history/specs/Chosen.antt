-- Two heaps that are equal but for what was chosen at their opens, the key and the edition: every step of grant, release, resize, emptying and joining leaves two
-- such again and answers the same, whatever the two choices are. The top's size is the same, so the steps that ask for it need no premise; the others are Like's.
-- Assumes nothing.
use Rattle.std.specs.Prelude.{◌≡◌, eqb, ltb, leb, length, Option, Some, None}
use Rattle.std.proofs.Math.Path.{refl}
use Rattle.std.proofs.Common.{sym, subst, arith}
use Prim.Native.Nat.{ℕ, ◌+◌, ◌-◌, ◌/◌}
use Rattle.sizes.specs.Limits.{most_cached, cache_room, most_fast, consolidate_from, cache_lists, least_chunk}
use Rattle.sizes.specs.Sizes.{cache_of}
use Rattle.machine.specs.Lists.{both}
use Rattle.machine.specs.Heap.{Heap, cache, any_fast?, top_of, top_size, size_of, p_of, next, before, binned, bin_has}
use Rattle.machine.specs.Writes.{Ran, ran, does, giving, ◌>>=◌, ◌or_else◌}
use Rattle.machine.specs.Primitives.{take_cache, unlink, widen, trim_at}
use Rattle.machine.specs.Release.{absorb, join_next, put_down, join, consolidate, joined, release_past, release, emptying, joining}
use Rattle.machine.specs.Grant.{step1, step2, step3, step4, step9, pass, again, from4, seek, grant}
use Rattle.machine.specs.Resize.{next_p, finish, copies, moved, resize}
use Rattle.history.specs.Histories.{Choice}
use Rattle.history.specs.Like.{Given, with_given, Like, like-more, like-giving, like-then, like-else, like-if, join_next-kin, step1-like, step2-like, step3-like, step4-like, drains-like, consolidate-like, joining-like, five, five-like}

-- what was given, with the choice q; the heap with it
abbrev pub rechosen : Choice → Given → Given
rechosen q o = record { len = o.len; choice = q }

abbrev pub with_choice : Choice → Heap → Heap
with_choice q h = with_given (rechosen q) h

module _ (q : Choice) where
  abbrev w : Given → Given
  w = rechosen q

  -- the second result is the first but for what was chosen of its heap
  abbrev pub Chosen : {A : Type 0} → Ran A → Ran A → Type 0
  Chosen x x' = Like w x x'

  -- ---- release: what a join yields is the same, so it consolidates in both or in none
  put_down-chosen : (c : ℕ) (h : Heap) → Chosen (put_down c h) (put_down c (with_choice q h))
  unfolding put_down
  put_down-chosen c h = like-if w (eqb (next h c) (top_of h)) _ _ _ _ (λ e. record { heap = refl; says = refl }) (λ e. record { heap = refl; says = refl })

  join-chosen : (c : ℕ) (h : Heap) → Chosen (join c h) (join c (with_choice q h))
  unfolding join absorb
  join-chosen c h = like-if w (eqb (p_of h c) 0) _ _ _ _
      (λ e. like-then w (λ g. join_next (before h c) g >>= (λ g. put_down (before h c) g)) (absorb (before h c) (before h c) h) (absorb (before h c) (before h c) (with_choice q h)) refl
      (rest (before h c)))
      (λ e. rest c h)
    where
      rest : (x : ℕ) (g : Heap) → Chosen (join_next x g >>= (λ g. put_down x g)) (join_next x (with_choice q g) >>= (λ g. put_down x g))
      rest x g = like-then w (λ g. put_down x g) (join_next x g) (join_next x (with_choice q g)) (join_next-kin w x g) (put_down-chosen x)

  joined-chosen : (x x' : Ran ℕ) → Chosen x x' → Chosen (joined x) (joined x')
  joined-chosen (ran h ws s) (ran h' ws' s') l =
      subst (λ (g : Heap). Chosen (joined (ran h ws s)) (joined (ran g ws' s'))) (sym l.heap)
      (subst (λ (z : ℕ). Chosen (joined (ran h ws s)) (joined (ran (with_choice q h) ws' z))) (sym l.says)
      (like-if w (both (leb consolidate_from s) (any_fast? h)) _ _ _ _
      (λ e. like-more w ws ws' _ _ (like-giving w s (consolidate-like w h)))
      (λ e. record { heap = refl; says = refl })))

  release_past-chosen : (c : ℕ) (h : Heap) → Chosen (release_past c h) (release_past c (with_choice q h))
  unfolding release_past
  release_past-chosen c h = like-if w (leb (size_of h c) most_fast) _ _ _ _
      (λ e. record { heap = refl; says = refl }) (λ e. joined-chosen (join c h) (join c (with_choice q h)) (join-chosen c h))

  pub release-chosen : (c : ℕ) (h : Heap) → Chosen (release c h) (release c (with_choice q h))
  unfolding release
  release-chosen c h = like-if w (both (leb (size_of h c) most_cached) (ltb (length (cache h (cache_of (size_of h c)))) cache_room)) _ _ _ _
      (λ e. record { heap = refl; says = refl }) (λ e. release_past-chosen c h)

  -- ---- the two jobs
  pub emptying-chosen : (h : Heap) → Chosen (emptying h) (emptying (with_choice q h))
  unfolding emptying
  emptying-chosen h = drains-like w take_cache release_past (λ k h. refl) (λ c h. (release_past-chosen c h).heap) cache_lists 0 h

  pub joining-chosen : (h : Heap) → Chosen (joining h) (joining (with_choice q h))
  joining-chosen h = joining-like w h

  -- ---- grant: step 9 finds the top short in both or in none
  module _ (b : ℕ) where
    step9-chosen : (h : Heap) → Chosen (step9 b h) (step9 b (with_choice q h))
    unfolding step9
    step9-chosen h = like-if w (leb (b + 32) (top_size h)) _ _ _ _ (λ e. record { heap = refl; says = refl }) (λ e. record { heap = refl; says = refl })

    pass-chosen : (h : Heap) → Chosen (pass b h) (pass b (with_choice q h))
    unfolding pass
    pass-chosen h = like-else w (step9 b) (five b h) (five b (with_choice q h)) (five-like w b h) step9-chosen

    again-chosen : (h : Heap) → Chosen (again b h) (again b (with_choice q h))
    unfolding again
    again-chosen h = like-if w (any_fast? h) _ _ _ _
        (λ e. like-then w (pass b) (consolidate h) (consolidate (with_choice q h)) (consolidate-like w h).heap pass-chosen)
        (λ e. record { heap = refl; says = refl })

    from4-chosen : (h : Heap) → Chosen (from4 b h) (from4 b (with_choice q h))
    unfolding from4
    from4-chosen h =
        like-then w (λ h. pass b h or_else again b) (step4 b h) (step4 b (with_choice q h)) (step4-like w b h).heap
        (λ g. like-else w (again b) (pass b g) (pass b (with_choice q g)) (pass-chosen g) again-chosen)

    seek-chosen : (h : Heap) → Chosen (seek b h) (seek b (with_choice q h))
    unfolding seek
    seek-chosen h =
        like-else w (from4 b) (step2 b h or_else step3 b) (step2 b (with_choice q h) or_else step3 b)
        (like-else w (step3 b) (step2 b h) (step2 b (with_choice q h)) (step2-like w b h) (step3-like w b)) from4-chosen

    pub grant-chosen : (h : Heap) → Chosen (grant b h) (grant b (with_choice q h))
    unfolding grant
    grant-chosen h = like-else w (seek b) (step1 b h) (step1 b (with_choice q h)) (step1-like w b h) seek-chosen

  -- ---- resize
  next_p-chosen : (c : ℕ) (h : Heap) → Chosen (next_p c h) (next_p c (with_choice q h))
  unfolding next_p
  next_p-chosen c h = like-if w (eqb (next h c) (top_of h)) _ _ _ _ (λ e. record { heap = refl; says = refl }) (λ e. record { heap = refl; says = refl })

  finish-chosen : (c b : ℕ) (h : Heap) → Chosen (finish c b h) (finish c b (with_choice q h))
  unfolding finish
  finish-chosen c b h = like-if w (ltb (size_of h c - b) least_chunk) _ _ _ _
      (λ e. next_p-chosen c h)
      (λ e. like-then w (λ h. next_p (c + b) h >>= (λ h. giving tt (release (c + b) h))) (trim_at c b h) (trim_at c b (with_choice q h)) refl
      (λ g. like-then w (λ h. giving tt (release (c + b) h)) (next_p (c + b) g) (next_p (c + b) (with_choice q g)) (next_p-chosen (c + b) g).heap
      (λ g. like-giving w tt (release-chosen (c + b) g))))

  -- the old block takes in the chunk behind it
  widened-chosen : (c b : ℕ) (h : Heap) → Chosen (widen c h >>= (λ h. finish c b h)) (widen c (with_choice q h) >>= (λ h. finish c b h))
  widened-chosen c b h = like-then w (λ h. finish c b h) (widen c h) (widen c (with_choice q h)) refl (finish-chosen c b)

  moved-chosen : (c b z : ℕ) (x x' : Ran (Option ℕ)) → Chosen x x' → Chosen (moved c b z x) (moved c b z x')
  moved-chosen c b z (ran h ws None) (ran h' ws' None) l = l
  moved-chosen c b z (ran h ws None) (ran h' ws' (Some d)) l = absurd (let y : ◌≡◌ {A = ℕ} 0 1 = cc in omega arith)
  moved-chosen c b z (ran h ws (Some d)) (ran h' ws' None) l = absurd (let y : ◌≡◌ {A = ℕ} 0 1 = cc in omega arith)
  moved-chosen c b z (ran h ws (Some d)) (ran h' ws' (Some d')) l =
      let e : d' ≡ d = cc in
      subst (λ (g : Heap). Chosen (moved c b z (ran h ws (Some d))) (moved c b z (ran g ws' (Some d')))) (sym l.heap)
      (subst (λ (y : ℕ). Chosen (moved c b z (ran h ws (Some d))) (moved c b z (ran (with_choice q h) ws' (Some y)))) (sym e)
      (like-more w ws ws' _ _ (like-if w (eqb d (c + z)) _ _ _ _
      (λ e. like-giving w (Some c) (widened-chosen c b h))
      (λ e. like-giving w (Some d)
      (like-then w (release c) (does h (copies d c (z / 8 - 1))) (does (with_choice q h) (copies d c (z / 8 - 1))) refl (release-chosen c))))))

  pub resize-chosen : (c b : ℕ) (h : Heap) → Chosen (resize c b h) (resize c b (with_choice q h))
  unfolding resize
  resize-chosen c b h =
      let x : ℕ = next h c in
      like-if w (leb b (size_of h c)) _ _ _ _
      (λ e. like-giving w (Some c) (finish-chosen c b h))
      (λ e. like-if w (both (eqb x (top_of h)) (leb (b + 32) (size_of h c + top_size h))) _ _ _ _
      (λ e. record { heap = refl; says = refl })
      (λ e. like-if w (both (ltb 0 (binned h x)) (leb b (size_of h c + size_of h x))) _ _ _ _
      (λ e. like-giving w (Some c)
      (like-then w (λ h. widen c h >>= (λ h. finish c b h)) (unlink (bin_has h x) x h) (unlink (bin_has h x) x (with_choice q h)) refl (widened-chosen c b)))
      (λ e. moved-chosen c b (size_of h c) (seek b h) (seek b (with_choice q h)) (seek-chosen b h))))
