-- Release, and release past the cache: from any sound heap and any loose chunk the heap stays sound, and the chunk alone goes from the loose ones, also where
-- the joining has the fast chunks joined too. By the ways through the tests. Assumes nothing.
use Rattle.std.specs.Prelude.{◌≡◌, refl, List, [], ◌∷◌, Bool, true, false, ℕ, ◌+◌, ◌-◌, ◌*◌, ◌%◌, ◌≤◌, ◌<◌, ltb, leb, length}
use Rattle.std.proofs.Common.{sym, ap, ◌∙◌, arith, get_or-set_other, lt-ltb, le-ltb, ltb-true, leb-true}
use Rattle.sizes.specs.Limits.{most_cached, cache_room, most_fast, consolidate_from}
use Rattle.sizes.specs.Sizes.{cache_of, fast_of}
use Rattle.sizes.specs.SizesLaws.{cache_of-size, fast_of-size, cache_of-bound, fast_of-bound}
use Rattle.machine.specs.Lists.{both, cnt}
use Rattle.machine.specs.Heap.{Heap, stack, cache, fast_at, any_fast?, starts, size_of}
use Rattle.machine.specs.Writes.{apply, Ran, giving, ran}
use Rattle.machine.specs.Primitives.{push, push_cache}
use Rattle.machine.specs.Release.{consolidate, joined, release_past, release}
use Rattle.sound.specs.Relation.{Mem, Loose, stack_size, Good}
use Rattle.sound.specs.Edits.{size_32, size-16}
use Rattle.sound.specs.Stacks.{push-ends, push_cache-ends}
use Rattle.sound.specs.Moves.{nil, one, any, push-moved, push_cache-moved}
use Rattle.sound.specs.Leaves.{Leaves, leaves-weaken, leaves-if, leaves-giving, leaves-next, Still, Cached, still-then}
use Rattle.sound.specs.JoinLeaves.{join-leaves}
use Rattle.sound.specs.Drain.{consolidate-leaves}

-- ---- a push of a loose chunk on a fast list, and on a cache list
push-leaves : (h : Heap) (w : List ℕ) (k c : ℕ) → 64 ≤ k → k < 74 → Good h → Mem h w → Loose h c → size_of h c ≡ stack_size k → size_of h c ≤ 128
    → Leaves h w (push k c h) (λ a g. Good g × Still (λ i. i ≡ k → ⊥) h g) (any nil) (one c)
push-leaves h w k c lk hk g m lo sz q =
    let E = push-ends h w k c lk hk g m lo sz q in
    record {
      mem = E.mem;
      now = (E.now, record { lists = λ i ne. get_or-set_other h.stacks k i (c ∷ stack h k) [] ne; remainder = refl });
      moved = push-moved h k c g.shape hk lo;
    }

pub push_cache-leaves : (h : Heap) (w : List ℕ) (k c : ℕ) → k < 64 → Good h → Mem h w → Loose h c → size_of h c ≡ stack_size k → length (stack h k) < 7
    → Leaves h w (push_cache k c h) (λ a g. Good g × Still (λ i. i ≡ k → ⊥) h g) (any nil) (one c)
push_cache-leaves h w k c hk g m lo sz sh =
    let E = push_cache-ends h w k c hk g m lo sz sh in
    record {
      mem = E.mem;
      now = (E.now, record { lists = λ i ne. get_or-set_other h.stacks k i (c ∷ stack h k) [] ne; remainder = refl });
      moved = push_cache-moved h k c g.shape (omega arith) lo;
    }

-- the size that a cache list and a fast list own
pub stack_size-cache : (s : ℕ) → s % 16 ≡ 0 → 32 ≤ s → s ≤ 1040 → s ≡ stack_size (cache_of s)
stack_size-cache s e l m = rw (lt-ltb (cache_of s) 64 (cache_of-bound s m), stack_size) (sym (cache_of-size s e l))

pub stack_size-fast : (s : ℕ) → s % 16 ≡ 0 → 32 ≤ s → s ≡ stack_size (fast_at (fast_of s))
stack_size-fast s e l =
    let q : fast_at (fast_of s) - 64 ≡ fast_of s = omega arith in
    rw (le-ltb (fast_at (fast_of s)) 64 (omega arith), stack_size) (sym (ap (λ (k : ℕ). 32 + 16 * k) q ∙ fast_of-size s e l))

-- ---- a joining has the fast chunks joined too, or not
joined-leaves : (h : Heap) (w : List ℕ) {o : ℕ → ℕ} (r : Ran ℕ) → Leaves h w r (λ a g. Good g × Still Cached h g) (any nil) o
    → Leaves h w (joined r) (λ a g. Good g × Still Cached h g) (any nil) o
joined-leaves h w (ran g ws s) L = leaves-if (both (leb consolidate_from s) (any_fast? g))
    (λ e. leaves-next (λ g. giving s (consolidate g)) L.moved
    (leaves-giving s (consolidate-leaves g (apply ws w) L.now.0 L.mem) (λ a x. refl) (λ a n C. (C.good, still-then Cached h g n L.now.1 C.still)))
    (λ b x. refl) (λ x lo z. (z, refl)))
    (λ e. L)

-- ---- past the cache
pub release_past-leaves : (h : Heap) (w : List ℕ) (c : ℕ) → Good h → Mem h w → Loose h c
    → Leaves h w (release_past c h) (λ a g. Good g × Still Cached h g) (any nil) (one c)
unfolding release_past
release_past-leaves h w c g m lo = leaves-if (leb (size_of h c) most_fast)
    (λ e.
    let s = g.shape in
    let mc : 1 ≤ cnt c (starts h) = omega arith in
    let le : size_of h c ≤ 128 = leb-true (size_of h c) most_fast e in
    let k : ℕ = fast_at (fast_of (size_of h c)) in
    let hk : k < 74 = omega (arith, fast_of-bound (size_of h c) le) in
    leaves-giving 0
    (push-leaves h w k c (omega arith) hk g m lo (stack_size-fast (size_of h c) (size-16 h c s mc) (size_32 h c s mc)) le)
    (λ a x. refl) (λ a n p. (p.0, record { lists = λ i l. p.1.lists i (omega arith); remainder = p.1.remainder })))
    (λ e. joined-leaves h w _ (leaves-weaken (join-leaves h w c g m lo) (λ a n p. (p.0, record { lists = λ i l. p.1.lists i tt; remainder = p.1.remainder }))))

-- ---- the whole release
pub both_true : (a b : Bool) → both a b ≡ true → (a ≡ true) × (b ≡ true)
both_true true b e = (refl, e)
both_true false b e = absurd (let z : ◌≡◌ {A = ℕ} 0 1 = cc in omega arith)

pub release-leaves : (h : Heap) (w : List ℕ) (c : ℕ) → Good h → Mem h w → Loose h c → Leaves h w (release c h) (λ a g. Good g) (any nil) (one c)
unfolding release
release-leaves h w c g m lo = leaves-if (both (leb (size_of h c) most_cached) (ltb (length (cache h (cache_of (size_of h c)))) cache_room))
    (λ e.
    let s = g.shape in
    let mc : 1 ≤ cnt c (starts h) = omega arith in
    let k : ℕ = cache_of (size_of h c) in
    let b = both_true (leb (size_of h c) most_cached) (ltb (length (cache h k)) cache_room) e in
    let le : size_of h c ≤ 1040 = leb-true (size_of h c) most_cached b.0 in
    let sh : length (cache h k) < 7 = ltb-true (length (cache h k)) cache_room b.1 in
    let k64 : k < 64 = cache_of-bound (size_of h c) le in
    leaves-giving 0
    (push_cache-leaves h w k c k64 g m lo (stack_size-cache (size_of h c) (size-16 h c s mc) (size_32 h c s mc) le) sh)
    (λ a x. refl) (λ a n p. p.0))
    (λ e. leaves-weaken (release_past-leaves h w c g m lo) (λ a n p. p.0))
