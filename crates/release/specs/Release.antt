-- Release as the code does it follows the machine: one lemma for each way. Assumes nothing.
use Rattle.std.specs.Prelude.{◌≡◌, refl, Bool, true, false, List, ◌∷◌, ℕ, ◌≤◌, ◌<◌, length, get_or, leb, Option, Some, None}
use Rattle.std.proofs.Common.{sym, ap, ◌∙◌, subst, arith, le-leb}
use Rattle.std.proofs.lemmas.Bool.{lt-leb}
use Rattle.sizes.specs.Limits.{most_fast, consolidate_from}
use Rattle.sizes.specs.Layout.{cache_count}
use Rattle.sizes.specs.Sizes.{cache_of, fast_of}
use Rattle.machine.specs.Lists.{both}
use Rattle.machine.specs.Heap.{Heap, stack, cache, fast_at, any_fast?, size_of}
use Rattle.machine.specs.Writes.{Write, Ran, ran, heap_of, giving, more}
use Rattle.machine.specs.Primitives.{push, push_cache}
use Rattle.machine.specs.Release.{join, consolidate, joined, release_past, release}
use Rattle.machine.specs.View.{size_at}
use Rattle.sound.specs.Relation.{Loose, Good}
use Rattle.sound.specs.Ends.{Ends}
use Rattle.sound.specs.Leaves.{leaves-ends}
use Rattle.sound.specs.JoinLeaves.{join-leaves}
use Rattle.record_words.specs.CacheOnly.{CacheOnly, Changes}
use Rattle.record_words.specs.declared.Changed.TheVariants.{CacheList}
use Rattle.primitives.specs.Follow.{Ok, Has, Gave, Does}
use Rattle.primitives.specs.FollowLaws.{gave-by, gave-more, gave-giving, gave-ok, gave-good}
use Rattle.primitives.specs.Room.{cache_takes}
use Rattle.primitives.specs.CacheList.{cache-only, takes-is, takes-room}
use Rattle.release_join.specs.Reads.{loose-reads}
use Rattle.consolidate.specs.AnyFast.{Told}
use Rattle.release.specs.Offers.{OnCache, Passed, Comes}

-- ---- the machine's steps by their tests, at a chunk of size z
past-fast : (c z : ℕ) (h : Heap) → size_of h c ≡ z → z ≤ 128 → release_past c h ≡ giving 0 (push (fast_at (fast_of z)) c h)
unfolding release_past
past-fast c z h e l = rw (le-leb (size_of h c) most_fast (omega arith), release_past) (ap (λ (z : ℕ). giving 0 (push (fast_at (fast_of z)) c h)) e)

past-join : (c z : ℕ) (h : Heap) → size_of h c ≡ z → 128 < z → release_past c h ≡ joined (join c h)
unfolding release_past
past-join c z h e l = rw (lt-leb (size_of h c) most_fast (omega arith), release_past)

neither : (t : Bool) → both t false ≡ false
neither true = refl
neither false = refl

-- ---- what a joining yields, followed: nothing more is done, or the fast chunks are joined too
abbrev joined_by : Heap → List Write → ℕ → Bool → Ran ℕ
joined_by g ws n t = elim t [ true ↦ more ws (giving n (consolidate g)) | false ↦ ran g ws n ]

joined-by : (g : Heap) (ws : List Write) (n : ℕ) (t : Bool) → both (leb consolidate_from n) (any_fast? g) ≡ t → joined (ran g ws n) ≡ joined_by g ws n t
joined-by g ws n t e = ap (joined_by g ws n) e

joined-few : (x : Ran ℕ) {s : ℕ} {w v q : List ℕ} → Gave ℕ x s w v q → s < 65536 → Gave ℕ (joined x) s w v q
joined-few (ran g ws n) G l =
    gave-by (joined-by g ws n false (ap (λ (t : Bool). both t (any_fast? g)) (lt-leb consolidate_from n (omega (arith, G.says))))) G

joined-none : (x : Ran ℕ) {s : ℕ} {w v q : List ℕ} → Gave ℕ x s w v q → any_fast? (heap_of x) ≡ false → Gave ℕ (joined x) s w v q
joined-none (ran g ws n) G e = gave-by (joined-by g ws n false (ap (both (leb consolidate_from n)) e ∙ neither (leb consolidate_from n))) G

joined-all : (x : Ran ℕ) {s : ℕ} {w v q : List ℕ} → Gave ℕ x s w v q → 65536 ≤ s → any_fast? (heap_of x) ≡ true → {u p : List ℕ}
    → Gave (Unit {0}) (consolidate (heap_of x)) tt v u p → Gave ℕ (joined x) s w u p
joined-all (ran g ws n) {s} {w} {v} G l e {u} {p} C =
    gave-by (joined-by g ws n true (ap (λ (t : Bool). both t (any_fast? g)) (le-leb consolidate_from n (omega (arith, G.says))) ∙ e))
    (gave-more ws (giving n (consolidate g)) s G.bytes
    (subst (λ (m : ℕ). Gave ℕ (giving n (consolidate g)) m v u p) G.says (gave-giving (consolidate g) tt n C)))

-- ---- release by its test
release-cached : (c z : ℕ) (h : Heap) → size_of h c ≡ z → cache_takes (length (cache h (cache_of z))) z ≡ true → release c h ≡ giving 0 (push_cache (cache_of z) c h)
unfolding release
release-cached c z h e t = let u : cache_takes (length (cache h (cache_of (size_of h c)))) (size_of h c) ≡ true = ap (λ (z : ℕ). cache_takes (length (cache h (cache_of z))) z) e ∙ t in
    rw (u, release) (ap (λ (z : ℕ). giving 0 (push_cache (cache_of z) c h)) e)

release-past : (c z : ℕ) (h : Heap) → size_of h c ≡ z → cache_takes (length (cache h (cache_of z))) z ≡ false → release c h ≡ release_past c h
unfolding release
release-past c z h e t = let u : cache_takes (length (cache h (cache_of (size_of h c)))) (size_of h c) ≡ false = ap (λ (z : ℕ). cache_takes (length (cache h (cache_of z))) z) e ∙ t in
    rw (u, release)

-- ---- c is loose, and z is read as its size
module _ (h : Heap) (w r : List ℕ) (c z : ℕ) (o : Ok h w r) (lo : Loose h c) (ez : z ≡ size_at w c) where
  size_is : size_of h c ≡ z
  size_is = (loose-reads h w r o c lo).size ∙ sym ez

  pub loose-least : 32 ≤ z
  loose-least = let k = (loose-reads h w r o c lo).reads in omega (arith, k.size, k.least)

  pub past-fast-gave : {v q : List ℕ} {k : ℕ} → z ≤ 128 → k ≡ fast_of z → Does (Unit {0}) (λ h. Loose h c) (push (fast_at k) c) w r tt v q
      → Gave ℕ (release_past c h) 0 w v q
  past-fast-gave {v} {q} {k} l e D =
      gave-by (past-fast c z h size_is l ∙ ap (λ (k : ℕ). giving 0 (push (fast_at k) c h)) (sym e)) (gave-giving (push (fast_at k) c h) tt 0 (D.does h o lo))

  -- c is joined
  module _ (l : 128 < z) (g : Good h) {v q : List ℕ} {s : ℕ} (D : Does ℕ (λ h. Good h × Loose h c) (join c) w r s v q) where
    joined-gave : Gave ℕ (join c h) s w v q
    joined-gave = D.does h o (g, lo)

    joined-ends : Ends (join c h) w Good
    joined-ends = leaves-ends (join-leaves h w c g o.mem lo) (λ a n p. p.0)

    joined-ok : Ok (heap_of (join c h)) v q
    joined-ok = gave-ok (join c h) s joined-ends.now.shape joined-ends.mem joined-gave

    pub joined-has : Has Good v q
    joined-has = gave-good (join c h) s joined-ends joined-gave

    joined-fast : (t : Bool) → Told q t → any_fast? (heap_of (join c h)) ≡ t
    joined-fast t f = sym (f (heap_of (join c h)) v joined-ok)

    pub past-few-gave : s < 65536 → Gave ℕ (release_past c h) s w v q
    past-few-gave k = gave-by (past-join c z h size_is l) (joined-few (join c h) joined-gave k)

    pub past-none-gave : (t : Bool) → Told q t → t ≡ false → Gave ℕ (release_past c h) s w v q
    past-none-gave t f e = gave-by (past-join c z h size_is l) (joined-none (join c h) joined-gave (joined-fast t f ∙ e))

    pub past-all-gave : 65536 ≤ s → (t : Bool) → Told q t → t ≡ true → {u p : List ℕ} → Does (Unit {0}) Good consolidate v q tt u p → Gave ℕ (release_past c h) s w u p
    past-all-gave k t f e C =
        gave-by (past-join c z h size_is l) (joined-all (join c h) joined-gave k (joined-fast t f ∙ e) (C.does (heap_of (join c h)) joined-ok joined-ends.now))

  -- t: what the test of the cache answered
  module _ (t : Bool) (et : t ≡ cache_takes (get_or r (cache_count (cache_of z)) 0) z) where
    module _ (y : t ≡ true) where
      module _ (k : ℕ) (ek : k ≡ cache_of z) where
        pub takes-loose : Loose h c × (length (stack h k) < 7)
        takes-loose = (lo, takes-room h w r z o t et y k ek)

        cached-is : release c h ≡ giving 0 (push_cache k c h)
        cached-is = release-cached c z h size_is (takes-is h w r z o t et ∙ y) ∙ ap (λ (k : ℕ). giving 0 (push_cache k c h)) (sym ek)

        module _ {v q : List ℕ} (D : Does (Unit {0}) (λ h. Loose h c × (length (stack h k) < 7)) (push_cache k c) w r tt v q) where
          pub cached-gave : Gave (Unit {0}) (giving tt (release c h)) tt w v q
          cached-gave = gave-giving (release c h) 0 tt (gave-by cached-is (gave-giving (push_cache k c h) tt 0 (D.does h o takes-loose)))

          pub cached-only : k < 64 → CacheOnly k r q
          cached-only l = cache-only h k (c ∷ stack h k) r q o.shape l o.rec (D.does h o takes-loose).rec

    pub passed_is : t ≡ false → release c h ≡ release_past c h
    passed_is n = release-past c z h size_is (takes-is h w r z o t et ∙ n)

-- ---- the cache was tried: c is on a list, or goes past
pub on-gave : (c : ℕ) (x : Option ℕ) (k : ℕ) (w r v q : List ℕ) → Comes c x w r v q → x ≡ Some k
    → Does (Unit {0}) (λ h. Good h × Loose h c) (λ h. giving tt (release c h)) w r tt v q × Changes (CacheList k) r q
on-gave c x k w r v q m e =
    let O : OnCache c k w r v q = subst (λ (x : Option ℕ). Comes c x w r v q) e m in
    (record { does = λ h o g. O.does.does h o g.1 }, (O.list, O.only))

module _ (c : ℕ) (x : Option ℕ) (w r v q : List ℕ) (m : Comes c x w r v q) (e : x ≡ None) where
  passed : Passed c w r v q
  passed = subst (λ (x : Option ℕ). Comes c x w r v q) e m

  pub past-has : Has (λ h. Good h × Loose h c) w r → Has (λ h. Good h × Loose h c) v q
  past-has H =
      subst (λ (u : List ℕ). Has (λ h. Good h × Loose h c) u q) (sym passed.arena)
      (subst (Has (λ h. Good h × Loose h c) w) (sym passed.rec) H)

  pub past-does : {s : ℕ} {u p : List ℕ} → Does ℕ (λ h. Good h × Loose h c) (release_past c) v q s u p
      → Does (Unit {0}) (λ h. Good h × Loose h c) (λ h. giving tt (release c h)) w r tt u p
  past-does {s} {u} {p} d =
      let D = subst (λ (a : List ℕ). Does ℕ (λ h. Good h × Loose h c) (release_past c) a r s u p) passed.arena
      (subst (λ (a : List ℕ). Does ℕ (λ h. Good h × Loose h c) (release_past c) v a s u p) passed.rec d) in
      record { does = λ h o g. gave-giving (release c h) s tt (gave-by (passed.past h o g.1) (D.does h o g)) }
