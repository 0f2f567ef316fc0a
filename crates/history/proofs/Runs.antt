-- Every event of a run leaves what it found: lent bytes, a sound heap, and blocks held that are its live chunks. The counts of each step say which block
-- comes or goes. Assumes nothing.
use Rattle.std.specs.Prelude.{◌≡◌, List, [], ◌∷◌, Bool, true, false, ℕ, ◌+◌, ◌-◌, ◌%◌, ◌≤◌, eqb, leb, length, set, Option, Some, None, Ok, Err}
use Rattle.std.proofs.Math.Path.{refl, ap}
use Rattle.std.proofs.Common.{sym, ◌∙◌, subst, ⊎_elim, eqb-true, leb-true}
use native.Mathlib.Omega.{arith}
use Rattle.le.specs.Number.{bytes}
use Rattle.le.specs.Arena.{arena_words}
use Rattle.le.specs.ArenaLaws.{length-arena_words}
use Rattle.sizes.specs.Sizes.{need, usable}
use Rattle.sizes.specs.SizesLaws.{need-bounds}
use Rattle.machine.specs.Lists.{both, ind}
use Rattle.machine.specs.Count.{ind-same, ind-other}
use Rattle.machine.specs.Heap.{Heap, size_of, live?, opened, record_of}
use Rattle.machine.specs.Writes.{Write, Ran, ran, heap_of, size, apply}
use Rattle.machine.specs.Release.{release, emptying, joining}
use Rattle.machine.specs.Grant.{grant}
use Rattle.machine.specs.Resize.{resize}
use Rattle.machine.specs.Calls as C
use Rattle.machine.specs.declared.Answer.TheVariants.{Done, Granted}
use Rattle.machine.specs.declared.Refusal.TheVariants as N
use Rattle.sound.specs.Relation.{Mem, Loose, Good}
use Rattle.sound.specs.Tiles.{lt-or-le}
use Rattle.sound.specs.Moves.{nil, one, any, Moved}
use Rattle.sound.specs.Leaves.{Leaves, gave, Found}
use Rattle.sound.specs.Release.{both_true, release-leaves}
use Rattle.sound.specs.Grant.{grant-leaves}
use Rattle.sound.specs.Resize.{now_at, Resized, standing, resize-resized}
use Rattle.sound.specs.Live.{live-loose}
use Rattle.sound.specs.Ends.{Ends}
use Rattle.sound.specs.Opened.{opened-ends}
use Rattle.audit.specs.Spelled.{edition-out}
use Rattle.history.specs.Histories.{Event, Grant, Release, Resize, Emptying, Joining, Store, Block, holds?, drop, State, state, granted, released, resized, kept, next, run, Choice, Allowed, begin}
use Rattle.calls_consequences.specs.Results.{Lent}
use Rattle.calls_consequences.specs.Cases.{release-cases}
use Rattle.calls_consequences.specs.Consequences.{Job, emptying-job, joining-job}
use Rattle.history.specs.Ready.{held_at, Sized, Ready, ReadyAt, held-loose, held-once, sized-keep, ind-chunk, drop-count, drop-none, sized-drop, left-ready, ready-fine}
use Rattle.calls_consequences.specs.Remainder.{Fine, grant-fine, release-fine, resize-fine}
use Rattle.history.specs.Called.{open_lent, grant-large, grant-called, release-called, job-called, Way, Null, Zero, Large, Dead, Through, way, resize_by, resize-called}
use Rattle.history.specs.Stores.{store-ready}

-- ---- open
pub begun : (a r : List ℕ) (q : Choice) → Lent a r → Allowed q
    → Good (opened (length a) q.key q.edition) × Mem (opened (length a) q.key q.edition) (apply (size 0 (length a) 1 ∷ []) (arena_words a))
begun a r q L k =
    opened-ends (length a) q.key q.edition (arena_words a) k.key (edition-out q.edition k.edition) L.even L.least L.most
    (omega (arith, length-arena_words a, L.even))

pub begin-ready : (a r : List ℕ) (q : Choice) → Lent a r → Allowed q → ReadyAt (begin a r q)
unfolding begin
begin-ready a r q L k =
    let n : ℕ = length a in
    let o = begun a r q L k in
    subst (λ (x : C.After). ReadyAt (kept [] x)) (sym (open_lent a r q L k))
    (left-ready a r L (opened n q.key q.edition) (size 0 n 1 ∷ []) [] (record { good = o.0; low = omega arith }) o.1
    (record { low = λ m l. refl; count = λ c. omega (arith, o.0.shape.own c); sizes = tt }))

-- ---- the steps
module _ (a r : List ℕ) (bs : List Block) (R : Ready a r bs) where
  keep : {A : Type 0} (x : Ran A) (i : A → ℕ → ℕ) (o : ℕ → ℕ) (cs : List Block) → Moved (C.heap_in a r) x i o
      → ((m : ℕ) → 1 ≤ held_at m cs → (1 ≤ held_at m bs) × (o (m - 16) ≡ 0)) → Sized (λ c. size_of (C.heap_in a r) c) cs → Sized (λ c. size_of (heap_of x) c) cs
  keep x i o cs M e k =
      sized-keep (λ c. size_of (C.heap_in a r) c) (λ c. size_of (heap_of x) c) cs
      (λ m l. M.same (m - 16) (held-loose (C.heap_in a r) bs R.holds m (e m l).0).1 (e m l).1) k

  -- no block comes or goes
  stay : {A : Type 0} (g : Heap) (ws : List Write) (y : A) (i : A → ℕ → ℕ) → ((x : ℕ) → i y x ≡ 0) → Fine g → Mem g (apply ws (arena_words a))
      → Moved (C.heap_in a r) (ran g ws y) i nil → Ready (bytes 8 (apply ws (arena_words a))) (bytes 4 (record_of g)) bs
  stay g ws y i z F m M =
      left-ready a r R.lent g ws bs F m (record {
        low = R.holds.low;
        count = λ x. omega (arith, R.holds.count x, M.count x, z x);
        sizes = keep (ran g ws y) i nil bs M (λ m k. (k, refl)) R.holds.sizes;
      })

  grant-left : (b : ℕ) → 32 ≤ b → (x : Ran (Option ℕ)) → Fine (heap_of x) → Leaves (C.heap_in a r) (arena_words a) x (Found b (C.heap_in a r)) gave nil
      → ReadyAt (granted bs (C.granted a x))
  unfolding usable
  grant-left b b32 (ran g ws (Some c)) F l =
      let e : c + 16 - 16 ≡ c = omega arith in
      let u : usable (size_of g c) + 8 ≡ size_of g c = omega (arith, l.now.1) in
      left-ready a r R.lent g ws (record { mem = c + 16; usable = usable (size_of g c) } ∷ bs) F l.mem (record {
        low = λ m k. omega (arith, R.holds.low m k, ind-other m (c + 16) (λ q. omega arith));
        count = λ x. omega (arith, R.holds.count x, l.moved.count x, ind-chunk x c (c + 16) refl);
        sizes = (u ∙ ap (λ (y : ℕ). size_of g y) (sym e), keep (ran g ws (Some c)) gave nil bs l.moved (λ m k. (k, refl)) R.holds.sizes);
      })
  grant-left b b32 (ran g ws None) F l = stay g ws None gave (λ x. refl) F l.mem l.moved

  grant-ready : (n : ℕ) → ReadyAt (granted bs (C.grant_call a r n))
  grant-ready n = ⊎_elim
      (λ l. subst (λ (x : C.After). ReadyAt (granted bs x)) (sym (grant-large a r R.lent R.sound n l)) R)
      (λ l.
      let F = need-bounds n in
      subst (λ (x : C.After). ReadyAt (granted bs x)) (sym (grant-called a r R.lent R.sound n l))
      (grant-left (need n) F.least (grant (need n) (C.heap_in a r))
      (grant-fine (need n) F.whole F.least (F.most l) (C.heap_in a r) (arena_words a) (ready-fine a r bs R) R.sound.mem).now
      (grant-leaves (need n) F.whole F.least (C.heap_in a r) (arena_words a) R.sound.good R.sound.mem)))
      (lt-or-le 262144 n)

  -- m is the mem of the chunk c, which goes
  module _ (c m : ℕ) (e : m ≡ c + 16) (lo : Loose (C.heap_in a r) c) where
    held : 1 ≤ held_at m bs
    held = omega (arith, R.holds.count c, ap (λ (n : ℕ). held_at n bs) e, lo)

    dropped : {A : Type 0} (x : Ran A) (i : A → ℕ → ℕ) → Moved (C.heap_in a r) x i (one c) → Sized (λ c. size_of (heap_of x) c) (drop m bs)
    dropped x i M =
        keep x i (one c) (drop m bs) M
        (λ n j.
        let d = drop-count m bs held n in
        let k : 1 ≤ held_at n bs = omega (arith, d) in
        let b = held-loose (C.heap_in a r) bs R.holds n k in (
          k,
          ind-other (n - 16) c (λ q.
              let z : n ≡ m = omega (arith, b.0) in
              omega (arith, d, j, held-once (C.heap_in a r) bs R.sound.good R.holds n, ap (λ (y : ℕ). ind (eqb y m)) z, ind-same m)),
        ))
        (sized-drop (λ c. size_of (C.heap_in a r) c) m bs R.holds.sizes)

    release-left : {A : Type 0} (x : Ran A) → Fine (heap_of x) → Leaves (C.heap_in a r) (arena_words a) x (λ y g. Good g) (any nil) (one c)
        → ReadyAt (released m bs (C.done a x))
    release-left (ran g ws y) F l =
        left-ready a r R.lent g ws (drop m bs) F l.mem (record {
          low = λ n j. omega (arith, drop-count m bs held n, R.holds.low n j);
          count = λ x. omega (arith, drop-count m bs held (x + 16), ind-chunk x c m e, R.holds.count x, l.moved.count x);
          sizes = dropped (ran g ws y) (any nil) l.moved;
        })

    -- and the chunk that is answered comes
    resize-left : (b : ℕ) → 32 ≤ b → (x : Ran (Option ℕ)) → Fine (heap_of x) → (k : Heap) → Resized c b k (C.heap_in a r) (arena_words a) x
        → ReadyAt (resized m bs (C.granted a x))
    unfolding usable
    resize-left b b32 (ran g ws (Some d)) F k Z =
        let l = Z.leaves in
        let q : d + 16 - 16 ≡ d = omega arith in
        let u : usable (size_of g d) + 8 ≡ size_of g d = omega (arith, l.now.1) in
        left-ready a r R.lent g ws (record { mem = d + 16; usable = usable (size_of g d) } ∷ drop m bs) F l.mem (record {
          low = λ n j. omega (arith, drop-count m bs held n, R.holds.low n j, ind-other n (d + 16) (λ q. omega arith));
          count = λ x. omega (arith, drop-count m bs held (x + 16), ind-chunk x c m e, ind-chunk x d (d + 16) refl, R.holds.count x, l.moved.count x);
          sizes = (u ∙ ap (λ (y : ℕ). size_of g y) (sym q), dropped (ran g ws (Some d)) (λ a x. one (now_at c a) x) l.moved);
        })
    resize-left b b32 (ran g ws None) F k Z = stay g ws None (any nil) (λ x. refl) F Z.leaves.mem (Z.refused refl)

  release-ready : (m : ℕ) → ReadyAt (released m bs (C.release_call a r m))
  release-ready m = subst (λ (x : C.After). ReadyAt (released m bs x)) (sym (release-called a r R.lent R.sound m)) (null (eqb m 0) refl)
    where
      chunk : (t : Bool) → both (leb 16 m) (live? (C.heap_in a r) (m - 16)) ≡ t
          → ReadyAt (released m bs (elim t [ true ↦ C.done a (release (m - 16) (C.heap_in a r)) | false ↦ C.refused a r N.NotLive ]))
      chunk true e =
          let b = both_true (leb 16 m) (live? (C.heap_in a r) (m - 16)) e in
          let lo : Loose (C.heap_in a r) (m - 16) = live-loose (C.heap_in a r) (m - 16) b.1 in
          release-left (m - 16) m (omega (arith, leb-true 16 m b.0)) lo (release (m - 16) (C.heap_in a r))
          (release-fine (m - 16) (C.heap_in a r) (arena_words a) (ready-fine a r bs R) R.sound.mem lo).now
          (release-leaves (C.heap_in a r) (arena_words a) (m - 16) R.sound.good R.sound.mem lo)
      chunk false e = R

      null : (t : Bool) → eqb m 0 ≡ t → ReadyAt (released m bs (elim t [
        | true ↦ C.after a r (Ok Done)
        | false ↦ elim (both (leb 16 m) (live? (C.heap_in a r) (m - 16))) [ true ↦ C.done a (release (m - 16) (C.heap_in a r)) | false ↦ C.refused a r N.NotLive ]
      ]))
      null true e =
          let z : held_at m bs ≡ 0 = R.holds.low m (omega (arith, eqb-true m 0 e)) in
          subst (λ (l : List Block). Ready a r l) (sym (drop-none m bs z)) R
      null false e = chunk (both (leb 16 m) (live? (C.heap_in a r) (m - 16))) refl

  -- null drops no block, and a release grants none
  pub resized-null : (m : ℕ) → eqb m 0 ≡ true → (x : C.After) → resized m bs x ≡ granted bs x
  resized-null m z x = go x (drop-none m bs (R.holds.low m (omega (arith, eqb-true m 0 z))))
    where
      go : (x : C.After) → drop m bs ≡ bs → resized m bs x ≡ granted bs x
      go (C.after b s (Ok Done)) e = ap (state b s) e
      go (C.after b s (Ok (Granted k u))) e = ap (λ (l : List Block). state b s (record { mem = k; usable = u } ∷ l)) e
      go (C.after b s (Err y)) e = refl

  pub resized-zero : (m : ℕ) → resized m bs (C.release_call a r m) ≡ released m bs (C.release_call a r m)
  resized-zero m =
      release-cases a r R.lent (λ x. resized m bs x ≡ released m bs x) m (λ U. refl) (λ S z. refl) (λ S z d. refl) (λ S v. refl)

  resize-ready : (m n : ℕ) → ReadyAt (resized m bs (C.resize_call a r m n))
  resize-ready m n =
      let w = way (C.heap_in a r) m n in
      subst (λ (x : C.After). ReadyAt (resized m bs x)) (sym (resize-called a r R.lent R.sound m n w)) (go w)
    where
      go : (w : Way (C.heap_in a r) m n) → ReadyAt (resized m bs (resize_by a r m n w))
      go (Null z) = subst ReadyAt (sym (resized-null m z (C.grant_call a r n))) (grant-ready n)
      go (Zero z k) = subst ReadyAt (sym (resized-zero m)) (release-ready m)
      go (Large z k l) = R
      go (Dead z k l v) = R
      go (Through z k l v) =
          let h : Heap = C.heap_in a r in
          let F = need-bounds n in
          let b = both_true (leb 16 m) (live? h (m - 16)) v in
          let lo : Loose h (m - 16) = live-loose h (m - 16) b.1 in
          resize-left (m - 16) m (omega (arith, leb-true 16 m b.0)) lo (need n) F.least (resize (m - 16) (need n) h)
          (resize-fine (need n) F.whole F.least (F.most l) (m - 16) h (arena_words a) (ready-fine a r bs R) R.sound.mem lo).now
          (standing (m - 16) (need n) h)
          (resize-resized h (arena_words a) (m - 16) (need n) R.sound.good R.sound.mem lo F.whole F.least)

  job-left : {A : Type 0} (x : Ran A) → Ends x (arena_words a) Fine → Moved (C.heap_in a r) x (any nil) nil → ReadyAt (kept bs (C.done a x))
  job-left (ran g ws y) E M = stay g ws y (any nil) (λ x. refl) E.now E.mem M

  job-ready : (f : Heap → Ran (Unit {0})) → Job f → ReadyAt (kept bs (C.job_call f a r))
  job-ready f J = subst (λ (x : C.After). ReadyAt (kept bs x)) (sym (job-called a r R.lent R.sound f))
      (job-left (f (C.heap_in a r)) (J.ends (C.heap_in a r) (arena_words a) (ready-fine a r bs R) R.sound.mem)
      (J.moved (C.heap_in a r) (arena_words a) R.sound.good R.sound.mem))

  write-ready : (p v : ℕ) (t : Bool) → holds? bs p ≡ t → ReadyAt (elim t [ true ↦ state (set a p (v % 256)) r bs | false ↦ state a r bs ])
  write-ready p v true e = store-ready a r bs R p v e
  write-ready p v false e = R

-- ---- an event, and a run
pub next-ready : (e : Event) (s : State) → ReadyAt s → ReadyAt (next e s)
unfolding next
next-ready (Grant n) (state a r bs) R = grant-ready a r bs R n
next-ready (Release m) (state a r bs) R = release-ready a r bs R m
next-ready (Resize m n) (state a r bs) R = resize-ready a r bs R m n
next-ready Emptying (state a r bs) R = job-ready a r bs R emptying emptying-job
next-ready Joining (state a r bs) R = job-ready a r bs R joining joining-job
next-ready (Store p v) (state a r bs) R = write-ready a r bs R p v (holds? bs p) refl

pub run-ready : (es : List Event) (s : State) → ReadyAt s → ReadyAt (run es s)
unfolding run
run-ready [] s R = R
run-ready (e ∷ es) s R = run-ready es (next e s) (next-ready e s R)
