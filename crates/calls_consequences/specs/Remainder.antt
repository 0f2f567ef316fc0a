-- Every step leaves a last remainder that a record's word can hold: the one before, none, or the offset of a rest that was cut from a chunk of a bin.
-- Through the steps in their order. Assumes nothing.
use Rattle.std.specs.Prelude.{◌≡◌, refl, Bool, eqb, ltb, leb, length, Option, Some, None}
use Rattle.std.proofs.Common.{sym, subst, arith}
use mathlib.Core.List.{List, [], ◌∷◌}
use Rattle.std.proofs.Math.Bool.{true, false}
use Prim.Native.Nat.{ℕ, zero, suc, ◌+◌, ◌-◌, ◌/◌, ◌%◌, ◌≤◌}
use Rattle.sizes.specs.Limits.{none64, none32, most_cached, cache_room, most_fast, consolidate_from, large, unsorted, least_chunk, last_bin}
use Rattle.sizes.specs.Sizes.{cache_of, fast_of, bin_of}
use Rattle.machine.specs.Lists.{both, hd, lst, some?, cnt}
use Rattle.machine.specs.Heap.{Heap, stack, cache, fast_at, fast, bin, any_fast?, top_of, top_size, size_of, p_of, next, before, binned, bin_has}
use Rattle.machine.specs.Writes.{Write, apply, Ran, ran, heap_of, writes, does, giving, more, ◌>>=◌, ◌or_else◌}
use Rattle.machine.specs.Primitives.{push, pop, push_cache, take_cache, link_in, put_first, unlink, clear_p, set_p, to_top, cut_top, set_remainder, widen, trim_at, grow_top}
use Rattle.machine.specs.Release.{absorb, join_next, put_down, join, drain, drains, consolidate, joined, release_past, release, emptying, joining}
use Rattle.machine.specs.Grant.{room_for?, step1, move_fast, step2, take_last, move_lasts, step3, step4, split, front, behind, sort_in, lone?, split_lone, keep, turn_at, turn, swept, after_turn, sweep, step5, carve, step8, fit, step6, first_bin, step7, step9, pass, again, from4, seek, grant}
use Rattle.machine.specs.Resize.{next_p, finish, copies, moved, resize}
use Rattle.machine.specs.declared.{Turn.Turn}
use Rattle.machine.specs.declared.Turn.TheVariants as T
use Rattle.sound.specs.Relation.{Mem, Loose, Good}
use Rattle.sound.specs.Ends.{Ends, ends_more, ends-then}
use Rattle.sound.specs.Small.{some-has}
use Rattle.sound.specs.Large.{fit_has, first_bin-has}
use Rattle.sound.specs.Live.{consolidate-empties, emptying-empties, joining-merges}
use Rattle.sound.specs.Keeps.{release-ends, consolidate-ends, emptying-ends, joining-ends, step1-ends, step2-ends, step3-ends, turn-ends, step5-ends, step6-ends, step7-ends, step9-ends, resize-ends}
use Rattle.calls_consequences.specs.Written.{bin-most}

abbrev Low : {A : Type 0} → Ran A → Type 0
Low r = (heap_of r).remainder ≤ none32

-- ---- parts of a step
low-more : {A : Type 0} (ws : List Write) (r : Ran A) → Low r → Low (more ws r)
low-more ws (ran h vs a) l = l

low-giving : {A B : Type 0} (b : B) (r : Ran A) → Low r → Low (giving b r)
low-giving b (ran h ws a) l = l

low-then : {A B : Type 0} (r : Ran A) (f : Heap → Ran B) → Low r → ((g : Heap) → g.remainder ≤ none32 → Low (f g)) → Low (r >>= f)
low-then (ran g ws a) f l k = low-more ws (f g) (k g l)

low-if : {A : Type 0} (t : Bool) (x y : Ran A) → (t ≡ true → Low x) → (t ≡ false → Low y) → Low {A = A} (elim t [ true ↦ x | false ↦ y ])
low-if true x y p q = p refl
low-if false x y p q = q refl

low-got : {A : Type 0} (t : Option ℕ) (x : ℕ → Ran A) (y : Ran A) → ((c : ℕ) → t ≡ Some c → Low (x c)) → Low y → Low {A = A} (elim t [ Some c ↦ x c | None ↦ y ])
low-got (Some c) x y p q = p c refl
low-got None x y p q = q

low_turn : (r : Ran Turn) (k s o : Heap → Ran (Option ℕ)) → Low r → Low (k (heap_of r)) → Low (s (heap_of r)) → Low (o (heap_of r)) → Low (after_turn r k s o)
low_turn (ran h ws (T.Granted c)) k s o l x y z = l
low_turn (ran h ws T.Cached) k s o l x y z = low-more ws (k h) x
low_turn (ran h ws T.Binned) k s o l x y z = low-more ws (s h) y
low_turn (ran h ws T.Empty) k s o l x y z = low-more ws (o h) z

-- ---- steps 1 to 3
module _ (b : ℕ) where
  step1-low : (h : Heap) → h.remainder ≤ none32 → Low (step1 b h)
  unfolding step1
  step1-low h l = low-if (both (leb b most_cached) (some? (cache h (cache_of b)))) (take_cache (cache_of b) h) (ran h [] None) (λ e. l) (λ e. l)

  move_fast-low : (xs : List ℕ) (h : Heap) → h.remainder ≤ none32 → Low (move_fast b xs h)
  unfolding move_fast
  move_fast-low [] h l = l
  move_fast-low (c ∷ xs) h l = low-if (room_for? b h) (pop (fast_at (fast_of b)) h >>= (λ h. push_cache (cache_of b) c h >>= (λ h. move_fast b xs h))) (ran h [] tt)
      (λ e. low-then (pop (fast_at (fast_of b)) h) (λ h. push_cache (cache_of b) c h >>= (λ h. move_fast b xs h)) l
      (λ g k. low-then (push_cache (cache_of b) c g) (λ h. move_fast b xs h) k (λ j i. move_fast-low xs j i)))
      (λ e. l)

  step2-low : (h : Heap) → h.remainder ≤ none32 → Low (step2 b h)
  unfolding step2
  step2-low h l =
      let r : Ran (Unit {0}) = pop (fast_at (fast_of b)) h >>= (λ h. move_fast b (fast h (fast_of b)) h) in
      low-if (both (leb b most_fast) (some? (fast h (fast_of b)))) (giving (Some (hd none64 (fast h (fast_of b)))) r) (ran h [] None)
      (λ e. low-giving (Some (hd none64 (fast h (fast_of b)))) r (low-then (pop (fast_at (fast_of b)) h) (λ h. move_fast b (fast h (fast_of b)) h) l (λ g k. move_fast-low (fast g (fast_of b)) g k)))
      (λ e. l)

  take_last-low : (j c : ℕ) (h : Heap) → h.remainder ≤ none32 → Low (take_last j c h)
  unfolding take_last
  take_last-low j c h l = l

  move_lasts-low : (n : ℕ) (h : Heap) → h.remainder ≤ none32 → Low (move_lasts n b h)
  unfolding move_lasts
  move_lasts-low zero h l = l
  move_lasts-low (suc n) h l =
      let c : ℕ = lst none64 (bin h (bin_of b)) in
      let f : Heap → Ran (Unit {0}) = λ h₁. push_cache (cache_of b) c h₁ >>= (λ h₂. move_lasts n b h₂) in
      low-if (both (room_for? b h) (some? (bin h (bin_of b)))) (take_last (bin_of b) c h >>= f) (ran h [] tt)
      (λ e. low-then (take_last (bin_of b) c h) f (take_last-low (bin_of b) c h l)
      (λ g k. low-then (push_cache (cache_of b) c g) (λ h₂. move_lasts n b h₂) k (λ j i. move_lasts-low n j i)))
      (λ e. l)

  step3-low : (h : Heap) → h.remainder ≤ none32 → Low (step3 b h)
  unfolding step3
  step3-low h l =
      let c : ℕ = lst none64 (bin h (bin_of b)) in
      let f : Heap → Ran (Unit {0}) = λ h. move_lasts (length (bin h (bin_of b))) b h in
      low-if (both (ltb b large) (some? (bin h (bin_of b)))) (giving (Some c) (take_last (bin_of b) c h >>= f)) (ran h [] None)
      (λ e. low-giving (Some c) (take_last (bin_of b) c h >>= f)
      (low-then (take_last (bin_of b) c h) f (take_last-low (bin_of b) c h l) (λ g k. move_lasts-low (length (bin g (bin_of b))) g k)))
      (λ e. l)

-- ---- between the steps
pub record Fine (h : Heap) : Type 0 where
  pub good : Good h
  pub low : h.remainder ≤ none32

fine_of : {A : Type 0} {r : Ran A} {w : List ℕ} → Ends r w Good → Low r → Ends r w Fine
fine_of e l = record { mem = e.mem; now = record { good = e.now; low = l } }

fine-else : {r : Ran (Option ℕ)} {w : List ℕ} (f : Heap → Ran (Option ℕ)) → Ends r w Fine → ((g : Heap) (v : List ℕ) → Fine g → Mem g v → Ends (f g) v Fine) → Ends (r or_else f) w Fine
fine-else {r = ran h ws (Some c)} f e k = e
fine-else {r = ran h ws None} {w = w} f e k = ends_more ws (f h) (k h (apply ws w) e.now e.mem)

fine-if : {A : Type 0} {w : List ℕ} (t : Bool) {x y : Ran A} → Ends x w Fine → Ends y w Fine → Ends {A = A} (elim t [ true ↦ x | false ↦ y ]) w Fine
fine-if true p q = p
fine-if false p q = q

consolidate-fine : (h : Heap) (w : List ℕ) → Fine h → Mem h w → Ends (consolidate h) w Fine
consolidate-fine h w F m =
    fine_of (consolidate-ends h w F.good m) (subst (λ (n : ℕ). n ≤ none32) (sym (consolidate-empties h w F.good m).still.remainder) F.low)

-- ---- steps 4 to 9, and the whole
module _ (b : ℕ) (b16 : b % 16 ≡ 0) (b32 : 32 ≤ b) (most : b ≤ 262160) where
  step4-fine : (h : Heap) (w : List ℕ) → Fine h → Mem h w → Ends (step4 b h) w Fine
  unfolding step4
  step4-fine h w F m = fine-if (both (leb large b) (any_fast? h)) (consolidate-fine h w F m) (record { mem = m; now = F })

  sort-low : (c : ℕ) (h : Heap) → h.remainder ≤ none32 → Low (sort_in c h)
  unfolding sort_in
  sort-low c h l = go (ltb (size_of h c) large)
    where
      go : (t : Bool) → Low {A = Unit {0}} (elim t [
        | true ↦ put_first (bin_of (size_of h c)) c h
        | false ↦
            link_in (bin_of (size_of h c)) c
            (front (λ x. size_of h x) (size_of h c) (bin h (bin_of (size_of h c))))
            (behind (λ x. size_of h x) (size_of h c) (bin h (bin_of (size_of h c)))) h
      ])
      go true = l
      go false = l

  keep_low : (c : ℕ) (h : Heap) → h.remainder ≤ none32 → Low (keep b c h)
  unfolding keep
  keep_low c h l = low-if (both (leb b most_cached) (room_for? b h)) (giving T.Cached (push_cache (cache_of b) c h)) (ran h [] (T.Granted c)) (λ e. l) (λ e. l)

  turn_low : (h : Heap) → Fine h → Low (turn b h)
  unfolding turn turn_at split_lone split
  turn_low h F =
      let l : h.remainder ≤ none32 = F.low in
      let c : ℕ = lst none64 (bin h unsorted) in
      low-if (some? (bin h unsorted)) (turn_at b c h) (ran h [] T.Empty)
      (λ e.
      let s : c + b ≤ none32 = omega (arith, bin-most h F.good unsorted c (some-has (bin h unsorted) e)) in
      let f : Heap → Ran Turn = λ h. set_p (next h c) h >>= (λ h. keep b c h) in
      low-if (lone? b c h) (split_lone b c h) (elim (eqb (size_of h c) b) [ true ↦ unlink unsorted c h >>= f | false ↦ giving T.Binned (unlink unsorted c h >>= (λ h. sort_in c h)) ])
      (λ q. s)
      (λ q. low-if (eqb (size_of h c) b) (unlink unsorted c h >>= f) (giving T.Binned (unlink unsorted c h >>= (λ h. sort_in c h)))
      (λ z. low-then (unlink unsorted c h) f l (λ g k. low-then (set_p (next g c) g) (λ h. keep b c h) k (λ j i. keep_low c j i)))
      (λ z. low-giving T.Binned (unlink unsorted c h >>= (λ h. sort_in c h)) (low-then (unlink unsorted c h) (λ h. sort_in c h) l (λ g k. sort-low c g k)))))
      (λ e. l)

  swept-low : (got : Bool) (h : Heap) → h.remainder ≤ none32 → Low (swept b got h)
  unfolding swept
  swept-low true h l = l
  swept-low false h l = l

  sweep-low : (n : ℕ) (got : Bool) (h : Heap) (w : List ℕ) → Fine h → Mem h w → Low (sweep n b got h)
  unfolding sweep
  sweep-low zero got h w F m = swept-low got h F.low
  sweep-low (suc n) got h w F m =
      let E = turn-ends b b16 b32 h w F.good m in
      let l = turn_low h F in
      let F' : Fine (heap_of (turn b h)) = record { good = E.now; low = l } in
      low_turn (turn b h) (λ g. sweep n b true g) (λ g. sweep n b got g) (λ g. swept b got g) l
      (sweep-low n true (heap_of (turn b h)) (apply (writes (turn b h)) w) F' E.mem)
      (sweep-low n got (heap_of (turn b h)) (apply (writes (turn b h)) w) F' E.mem) (swept-low got (heap_of (turn b h)) l)

  step5-fine : (h : Heap) (w : List ℕ) → Fine h → Mem h w → Ends (step5 b h) w Fine
  unfolding step5
  step5-fine h w F m = fine_of (step5-ends b b16 b32 h w F.good m) low
    where
      low : Low (step5 b h)
      low = sweep-low (length (bin h unsorted)) false h w F m

  carve-low : (c : ℕ) (new? : Bool) (h : Heap) → h.remainder ≤ none32 → c + b ≤ none32 → Low (carve c b new? h)
  unfolding carve split
  carve-low c new? h l s = go (ltb (size_of h c - b) least_chunk) new?
    where
      go : (t u : Bool) → Low {A = Unit {0}} (elim t [
        | true ↦ set_p (next h c) h
        | false ↦ elim u [ true ↦ split c b h >>= (λ h. set_remainder (c + b) h) | false ↦ split c b h ]
      ])
      go true u = l
      go false true = s
      go false false = l

  step8-low : (j c : ℕ) (new? : Bool) (h : Heap) → h.remainder ≤ none32 → c + b ≤ none32 → Low (step8 j c b new? h)
  unfolding step8
  step8-low j c new? h l s =
      low-giving (Some c) (unlink j c h >>= (λ h. carve c b new? h)) (low-then (unlink j c h) (λ h. carve c b new? h) l (λ g k. carve-low c new? g k s))

  step6-fine : (h : Heap) (w : List ℕ) → Fine h → Mem h w → Ends (step6 b h) w Fine
  unfolding step6
  step6-fine h w F m = fine_of (step6-ends b b16 b32 h w F.good m) low
    where
      at : (c : ℕ) → fit (λ x. size_of h x) b (bin h (bin_of b)) ≡ Some c → c + b ≤ none32
      at c e = omega (arith, bin-most h F.good (bin_of b) c (fit_has (λ x. size_of h x) b (bin h (bin_of b)) c e).0)

      low : Low (step6 b h)
      low = low-if (leb large b) (elim (fit (λ x. size_of h x) b (bin h (bin_of b))) [ Some c ↦ step8 (bin_of b) c b false h | None ↦ ran h [] None ]) (ran h [] None)
          (λ e. low-got (fit (λ x. size_of h x) b (bin h (bin_of b))) (λ c. step8 (bin_of b) c b false h) (ran h [] None)
          (λ c q. step8-low (bin_of b) c false h F.low (at c q)) F.low)
          (λ e. F.low)

  step7-fine : (h : Heap) (w : List ℕ) → Fine h → Mem h w → Ends (step7 b h) w Fine
  unfolding step7
  step7-fine h w F m = fine_of (step7-ends b b16 b32 h w F.good m) low
    where
      low : Low (step7 b h)
      low = low-got (first_bin (last_bin - bin_of b) (suc (bin_of b)) h) (λ j. step8 j (lst none64 (bin h j)) b (ltb b large) h) (ran h [] None)
          (λ j q.
          let c : ℕ = lst none64 (bin h j) in
          let i : 1 ≤ cnt c (bin h j) = some-has (bin h j) (first_bin-has (last_bin - bin_of b) (suc (bin_of b)) h j q).0 in
          step8-low j c (ltb b large) h F.low (omega (arith, bin-most h F.good j c i)))
          F.low

  step9-fine : (h : Heap) (w : List ℕ) → Fine h → Mem h w → Ends (step9 b h) w Fine
  unfolding step9
  step9-fine h w F m = fine_of (step9-ends b b16 b32 h w F.good m) low
    where
      low : Low (step9 b h)
      low = low-if (leb (b + 32) (top_size h)) (cut_top b h) (ran h [] None) (λ e. F.low) (λ e. F.low)

  pass-fine : (h : Heap) (w : List ℕ) → Fine h → Mem h w → Ends (pass b h) w Fine
  unfolding pass
  pass-fine h w F m = fine-else (step9 b) (fine-else (step7 b) (fine-else (step6 b) (step5-fine h w F m) step6-fine) step7-fine) step9-fine

  again-fine : (h : Heap) (w : List ℕ) → Fine h → Mem h w → Ends (again b h) w Fine
  unfolding again
  again-fine h w F m =
      fine-if (any_fast? h) (ends-then (λ h. pass b h) (consolidate-fine h w F m) (λ g v k G. pass-fine g v G k)) (record { mem = m; now = F })

  from4-fine : (h : Heap) (w : List ℕ) → Fine h → Mem h w → Ends (from4 b h) w Fine
  unfolding from4
  from4-fine h w F m = ends-then (λ h. pass b h or_else again b) (step4-fine h w F m) (λ g v k G. fine-else (again b) (pass-fine g v G k) again-fine)

  seek-fine : (h : Heap) (w : List ℕ) → Fine h → Mem h w → Ends (seek b h) w Fine
  unfolding seek
  seek-fine h w F m =
      fine-else (from4 b)
      (fine-else (step3 b) (fine_of (step2-ends b b16 b32 h w F.good m) (step2-low b h F.low))
      (λ g v G k. fine_of (step3-ends b b16 b32 g v G.good k) (step3-low b g G.low)))
      from4-fine

  pub grant-fine : (h : Heap) (w : List ℕ) → Fine h → Mem h w → Ends (grant b h) w Fine
  unfolding grant
  grant-fine h w F m = fine-else (seek b) (fine_of (step1-ends b b16 b32 h w F.good m) (step1-low b h F.low)) seek-fine

-- ---- release, emptying, joining
join_next-low : (c : ℕ) (h : Heap) → h.remainder ≤ none32 → Low (join_next c h)
unfolding join_next absorb
join_next-low c h l = low-if (eqb (binned h (next h c)) 0) (does h []) (absorb (next h c) c h) (λ e. l) (λ e. l)

put_down-low : (c : ℕ) (h : Heap) → h.remainder ≤ none32 → Low (put_down c h)
unfolding put_down
put_down-low c h l =
    let f : Heap → Ran (Unit {0}) = λ h. put_first unsorted c h in
    low-if (eqb (next h c) (top_of h)) (giving (h.len - c) (to_top c h)) (giving (size_of h c) (clear_p (next h c) (size_of h c) h >>= f)) (λ e. l) (λ e. l)

join-low : (c : ℕ) (h : Heap) → h.remainder ≤ none32 → Low (join c h)
unfolding join absorb
join-low c h l = low-if (eqb (p_of h c) 0) (absorb (before h c) (before h c) h >>= rest (before h c)) (rest c h)
    (λ e. low-then (absorb (before h c) (before h c) h) (rest (before h c)) l (rest-low (before h c)))
    (λ e. rest-low c h l)
  where
    rest : ℕ → Heap → Ran ℕ
    rest q h = join_next q h >>= (λ h. put_down q h)

    rest-low : (q : ℕ) (h : Heap) → h.remainder ≤ none32 → Low (rest q h)
    rest-low q h l = low-then (join_next q h) (λ h. put_down q h) (join_next-low q h l) (put_down-low q)

drain-low : (k : ℕ) (l : List ℕ) (h : Heap) → h.remainder ≤ none32 → Low (drain pop join k l h)
unfolding drain
drain-low k [] h i = i
drain-low k (c ∷ l) h i = low-then (pop k h) (λ h. join c h >>= (λ h. drain pop join k l h)) i
    (λ g j. low-then (join c g) (λ h. drain pop join k l h) (join-low c g j) (λ f m. drain-low k l f m))

drains-low : (n k : ℕ) (h : Heap) → h.remainder ≤ none32 → Low (drains pop join n k h)
unfolding drains
drains-low zero k h l = l
drains-low (suc n) k h l = low-then (drain pop join k (stack h k) h) (λ h. drains pop join n (suc k) h) (drain-low k (stack h k) h l) (λ g i. drains-low n (suc k) g i)

joined-low : (r : Ran ℕ) → Low r → Low (joined r)
unfolding consolidate
joined-low (ran h ws s) l = low-if (both (leb consolidate_from s) (any_fast? h)) (more ws (giving s (consolidate h))) (ran h ws s)
    (λ e. low-more ws (giving s (consolidate h)) (low-giving s (consolidate h) (drains-low 10 64 h l)))
    (λ e. l)

release-low : (c : ℕ) (h : Heap) → h.remainder ≤ none32 → Low (release c h)
unfolding release release_past
release-low c h l =
    low-if (both (leb (size_of h c) most_cached) (ltb (length (cache h (cache_of (size_of h c)))) cache_room)) (giving 0 (push_cache (cache_of (size_of h c)) c h)) (release_past c h)
    (λ e. l)
    (λ e. low-if (leb (size_of h c) most_fast) (giving 0 (push (fast_at (fast_of (size_of h c))) c h)) (joined (join c h)) (λ q. l) (λ q. joined-low (join c h) (join-low c h l)))

pub release-fine : (c : ℕ) (h : Heap) (w : List ℕ) → Fine h → Mem h w → Loose h c → Ends (release c h) w Fine
release-fine c h w F m lo = fine_of (release-ends h w c F.good m lo) (release-low c h F.low)

pub emptying-fine : (h : Heap) (w : List ℕ) → Fine h → Mem h w → Ends (emptying h) w Fine
emptying-fine h w F m = fine_of (emptying-ends h w F.good m) (subst (λ (n : ℕ). n ≤ none32) (sym (emptying-empties h w F.good m).remainder) F.low)

pub joining-fine : (h : Heap) (w : List ℕ) → Fine h → Mem h w → Ends (joining h) w Fine
joining-fine h w F m = fine_of (joining-ends h w F.good m) (subst (λ (n : ℕ). n ≤ none32) (sym (joining-merges h w F.good m).none) (omega arith))

-- ---- resize
next_p-low : (c : ℕ) (h : Heap) → h.remainder ≤ none32 → Low (next_p c h)
unfolding next_p
next_p-low c h l = low-if (eqb (next h c) (top_of h)) (does h []) (set_p (next h c) h) (λ e. l) (λ e. l)

module _ (c b : ℕ) where
  finish-low : (h : Heap) → h.remainder ≤ none32 → Low (finish c b h)
  unfolding finish
  finish-low h l =
      let f : Heap → Ran (Unit {0}) = λ h. giving tt (release (c + b) h) in
      let g : Heap → Ran (Unit {0}) = λ h. next_p (c + b) h >>= f in
      low-if (ltb (size_of h c - b) least_chunk) (next_p c h) (trim_at c b h >>= g)
      (λ e. next_p-low c h l)
      (λ e. low-then (trim_at c b h) g l
      (λ i k. low-then (next_p (c + b) i) f (next_p-low (c + b) i k) (λ j n. low-giving tt (release (c + b) j) (release-low (c + b) j n))))

  widen_low : (h : Heap) → h.remainder ≤ none32 → Low (widen c h >>= finish c b)
  widen_low h l = low-then (widen c h) (finish c b) l finish-low

  moved-low : (z : ℕ) (r : Ran (Option ℕ)) → Low r → Low (moved c b z r)
  moved-low z (ran h ws None) l = l
  moved-low z (ran h ws (Some d)) l =
      let x : Ran (Unit {0}) = widen c h >>= finish c b in
      let y : Ran ℕ = does h (copies d c (z / 8 - 1)) >>= release c in
      low-more {A = Option ℕ} ws (elim (eqb d (c + z)) [ true ↦ giving (Some c) x | false ↦ giving (Some d) y ])
      (low-if (eqb d (c + z)) (giving (Some c) x) (giving (Some d) y)
      (λ e. low-giving (Some c) x (widen_low h l))
      (λ e. low-giving (Some d) y (low-then (does h (copies d c (z / 8 - 1))) (release c) l (release-low c))))

pub resize-fine : (b : ℕ) → b % 16 ≡ 0 → 32 ≤ b → b ≤ 262160 → (c : ℕ) (h : Heap) (w : List ℕ) → Fine h → Mem h w → Loose h c → Ends (resize c b h) w Fine
unfolding resize
resize-fine b b16 b32 most c h w F m lo = fine_of (resize-ends b b16 b32 h w F.good m c lo) low
  where
    low : Low (resize c b h)
    low =
        let x : Ran (Unit {0}) = unlink (bin_has h (next h c)) (next h c) h >>= (λ h. widen c h >>= finish c b) in
        let from_bin : Bool = both (ltb 0 (binned h (next h c))) (leb b (size_of h c + size_of h (next h c))) in
        let from_top : Bool = both (eqb (next h c) (top_of h)) (leb (b + 32) (size_of h c + top_size h)) in
        let sought : Ran (Option ℕ) = moved c b (size_of h c) (seek b h) in
        low-if (leb b (size_of h c)) (giving (Some c) (finish c b h))
        (elim from_top [ true ↦ giving (Some c) (grow_top c b h) | false ↦ elim from_bin [ true ↦ giving (Some c) x | false ↦ sought ] ])
        (λ e. low-giving (Some c) (finish c b h) (finish-low c b h F.low))
        (λ e. low-if from_top (giving (Some c) (grow_top c b h)) (elim from_bin [ true ↦ giving (Some c) x | false ↦ sought ])
        (λ e. F.low)
        (λ e. low-if from_bin (giving (Some c) x) sought
        (λ e. low-giving (Some c) x (low-then (unlink (bin_has h (next h c)) (next h c) h) (λ h. widen c h >>= finish c b) F.low (widen_low c b)))
        (λ e. moved-low c b (size_of h c) (seek b h) (seek-fine b b16 b32 most h w F m).now.low)))
