-- Two states that are alike are answered alike, event by event, and stay alike: an answer depends on the heap and the number alone, whatever bytes the
-- arenas hold. Shown once, for any relation between heaps that the steps keep. Assumes nothing.
use Rattle.std.specs.Prelude.{◌≡◌, Bool, ℕ, ◌+◌, ◌-◌, ◌%◌, ◌≤◌, eqb, leb, set, Option, Some, None, Ok, Err}
use Rattle.std.proofs.Math.Path.{refl, sym, subst}
use Rattle.std.proofs.Common.{ap, ◌∙◌, ⊎_elim, arith, eqb-true}
use mathlib.Core.List.{List, [], ◌∷◌}
use Rattle.std.proofs.Math.Bool.{true, false}
use Rattle.le.specs.Number.{bytes}
use Rattle.le.specs.Arena.{arena_words}
use Rattle.sizes.specs.Sizes.{need, usable}
use Rattle.sizes.specs.SizesLaws.{need-bounds}
use Rattle.machine.specs.Lists.{both}
use Rattle.machine.specs.Heap.{Heap, live?, size_of, record_of}
use Rattle.machine.specs.Writes.{Ran, ran, heap_of, apply}
use Rattle.machine.specs.Release.{release, emptying, joining}
use Rattle.machine.specs.Grant.{grant}
use Rattle.machine.specs.Resize.{resize}
use Rattle.machine.specs.Calls as C
use Rattle.machine.specs.declared.Answer.TheVariants.{Done, Granted}
use Rattle.machine.specs.declared.Refusal.TheVariants as N
use Rattle.sound.specs.Relation.{Mem, Good}
use Rattle.sound.specs.Tiles.{lt-or-le}
use Rattle.sound.specs.Ends.{Ends}
use Rattle.sound.specs.Release.{both_true}
use Rattle.sound.specs.Live.{live-loose}
use Rattle.history.specs.Histories.{Event, Grant, Release, Resize, Emptying, Joining, Store, Block, holds?, drop, State, state, heap_at, blocks_in, granted, released, resized, kept, next, run, answer_of, answer_to, answers, Choice}
use Rattle.calls_consequences.specs.Written.{written_read}
use Rattle.calls_consequences.specs.Remainder.{Fine, grant-fine, release-fine, resize-fine}
use Rattle.calls_consequences.specs.Consequences.{Job, emptying-job, joining-job}
use Rattle.history.specs.Ready.{Ready, ReadyAt, ready-fine}
use Rattle.history.specs.Called.{grant-large, grant-called, release-called, job-called, Way, Null, Zero, Large, Dead, Through, way, resize_by, resize-called}
use Rattle.history.specs.Stores.{store_view}
use Rattle.history.specs.Like.{Given, Like}
use Rattle.history.specs.Chosen.{rechosen, with_choice, Chosen, grant-chosen, release-chosen, resize-chosen, emptying-chosen, joining-chosen}
use Rattle.history.proofs.Runs.{resized-null, resized-zero, next-ready}
use Rattle.machine.specs.Calls.{Answered}

-- what a grant's steps answer, and a resize's
abbrev pub said : Ran (Option ℕ) → Answered
said (ran h ws (Some c)) = Ok (Granted (c + 16) (usable (size_of h c)))
said (ran h ws None) = Err N.NoRoom

pub said-like : (w : Given → Given) (x x' : Ran (Option ℕ)) → Like w x x' → said x ≡ said x'
said-like w (ran h ws (Some c)) (ran h' ws' (Some c')) l =
    let z : c' ≡ c = cc in
    let e : size_of h' c' ≡ size_of h c = ap (λ (g : Heap). size_of g c') l.heap ∙ ap (size_of h) z in
    cc
said-like w (ran h ws None) (ran h' ws' None) l = refl
said-like w (ran h ws (Some c)) (ran h' ws' None) l = absurd (let z : ◌≡◌ {A = ℕ} 0 1 = cc in omega arith)
said-like w (ran h ws None) (ran h' ws' (Some c)) l = absurd (let z : ◌≡◌ {A = ℕ} 0 1 = cc in omega arith)

-- of sound heaps that Q holds of, the live chunks are the same, a grant and a resize answer the same, and Q holds after every step, given what M asks of the
-- event and the two heaps before it. What M asks of a resize is what it asks of the grant or the release that it is, where the mem is null or the length 0
pub record Steady (Q : Heap → Heap → Type 0) (M : Event → Heap → Heap → Type 0) : Type 0 where
  pub live : (h g : Heap) → Good h → Good g → Q h g → (c : ℕ) → live? h c ≡ live? g c
  pub answer : (h g : Heap) → Good h → Good g → Q h g → (n : ℕ) → n ≤ 262144 → M (Grant n) h g → said (grant (need n) h) ≡ said (grant (need n) g)
  pub grants : (h g : Heap) → Good h → Good g → Q h g → (n : ℕ) → n ≤ 262144 → M (Grant n) h g → Q (heap_of (grant (need n) h)) (heap_of (grant (need n) g))
  pub releases : (h g : Heap) → Good h → Good g → Q h g → (m : ℕ) → M (Release m) h g → both (leb 16 m) (live? h (m - 16)) ≡ true
      → Q (heap_of (release (m - 16) h)) (heap_of (release (m - 16) g))
  pub resized : (h g : Heap) → Good h → Good g → Q h g → (m n : ℕ) → M (Resize m n) h g → live? h (m - 16) ≡ true
      → said (resize (m - 16) (need n) h) ≡ said (resize (m - 16) (need n) g)
  pub resizes : (h g : Heap) → Good h → Good g → Q h g → (m n : ℕ) → M (Resize m n) h g → live? h (m - 16) ≡ true
      → Q (heap_of (resize (m - 16) (need n) h)) (heap_of (resize (m - 16) (need n) g))
  pub nulls : (h g : Heap) (n : ℕ) → M (Resize 0 n) h g → M (Grant n) h g
  pub zeros : (h g : Heap) (m : ℕ) → M (Resize m 0) h g → M (Release m) h g
  pub empties : (h g : Heap) → Good h → Good g → Q h g → M Emptying h g → Q (heap_of (emptying h)) (heap_of (emptying g))
  pub joins : (h g : Heap) → Good h → Good g → Q h g → M Joining h g → Q (heap_of (joining h)) (heap_of (joining g))

abbrev pub Alike : (Heap → Heap → Type 0) → State → State → Type 0
Alike Q (state a r bs) (state a' r' bs') = Q (C.heap_in a r) (C.heap_in a' r') × (bs ≡ bs')

pub alike_of : (Q : Heap → Heap → Type 0) (s t : State) → Q (heap_at s) (heap_at t) → blocks_in s ≡ blocks_in t → Alike Q s t
alike_of Q (state a r bs) (state a' r' bs') q e = (q, e)

pub alike-heaps : (Q : Heap → Heap → Type 0) (s t : State) → Alike Q s t → Q (heap_at s) (heap_at t)
alike-heaps Q (state a r bs) (state a' r' bs') k = k.0

pub alike-blocks : (Q : Heap → Heap → Type 0) (s t : State) → Alike Q s t → blocks_in s ≡ blocks_in t
alike-blocks Q (state a r bs) (state a' r' bs') k = k.1

-- answered the same, and alike after it
abbrev pub Same : (Heap → Heap → Type 0) → Event → State → State → Type 0
Same Q e s t = (answer_to e s ≡ answer_to e t) × Alike Q (next e s) (next e t)

-- ---- after a step, the heaps that are read are the steps'
module _ (Q : Heap → Heap → Type 0) (a a' : List ℕ) where
  read : (g g' : Heap) (w w' : List ℕ) → Fine g → Mem g w → Fine g' → Mem g' w' → Q g g'
      → Q (C.heap_in (bytes 8 w) (bytes 4 (record_of g))) (C.heap_in (bytes 8 w') (bytes 4 (record_of g')))
  read g g' w w' F m F' m' q =
      subst (λ (k : Heap). Q k (C.heap_in (bytes 8 w') (bytes 4 (record_of g')))) (sym (written_read g F.good w m F.low))
      (subst (λ (k : Heap). Q g k) (sym (written_read g' F'.good w' m' F'.low)) q)

  grant-alike : (bs : List Block) (x x' : Ran (Option ℕ)) → Ends x (arena_words a) Fine → Ends x' (arena_words a') Fine → said x ≡ said x' → Q (heap_of x) (heap_of x')
      → (answer_of (C.granted a x) ≡ answer_of (C.granted a' x')) × Alike Q (granted bs (C.granted a x)) (granted bs (C.granted a' x'))
  grant-alike bs (ran g ws (Some c)) (ran g' ws' (Some c')) E E' e q =
      (e, (read g g' (apply ws (arena_words a)) (apply ws' (arena_words a')) E.now E.mem E'.now E'.mem q, cc))
  grant-alike bs (ran g ws (Some c)) (ran g' ws' None) E E' e q = absurd (let z : ◌≡◌ {A = ℕ} 0 1 = cc in omega arith)
  grant-alike bs (ran g ws None) (ran g' ws' (Some c')) E E' e q = absurd (let z : ◌≡◌ {A = ℕ} 0 1 = cc in omega arith)
  grant-alike bs (ran g ws None) (ran g' ws' None) E E' e q =
      (e, (read g g' (apply ws (arena_words a)) (apply ws' (arena_words a')) E.now E.mem E'.now E'.mem q, refl))

  release-alike : {A : Type 0} (m : ℕ) (bs : List Block) (x x' : Ran A) → Ends x (arena_words a) Fine → Ends x' (arena_words a') Fine → Q (heap_of x) (heap_of x')
      → (answer_of (C.done a x) ≡ answer_of (C.done a' x')) × Alike Q (released m bs (C.done a x)) (released m bs (C.done a' x'))
  release-alike m bs (ran g ws y) (ran g' ws' y') E E' q =
      (refl, (read g g' (apply ws (arena_words a)) (apply ws' (arena_words a')) E.now E.mem E'.now E'.mem q, refl))

  resize-alike : (m : ℕ) (bs : List Block) (x x' : Ran (Option ℕ)) → Ends x (arena_words a) Fine → Ends x' (arena_words a') Fine → said x ≡ said x' → Q (heap_of x) (heap_of x')
      → (answer_of (C.granted a x) ≡ answer_of (C.granted a' x')) × Alike Q (resized m bs (C.granted a x)) (resized m bs (C.granted a' x'))
  resize-alike m bs (ran g ws (Some c)) (ran g' ws' (Some c')) E E' e q = grant-alike (drop m bs) (ran g ws (Some c)) (ran g' ws' (Some c')) E E' e q
  resize-alike m bs (ran g ws (Some c)) (ran g' ws' None) E E' e q = absurd (let z : ◌≡◌ {A = ℕ} 0 1 = cc in omega arith)
  resize-alike m bs (ran g ws None) (ran g' ws' (Some c')) E E' e q = absurd (let z : ◌≡◌ {A = ℕ} 0 1 = cc in omega arith)
  resize-alike m bs (ran g ws None) (ran g' ws' None) E E' e q = grant-alike bs (ran g ws None) (ran g' ws' None) E E' e q

  job-alike : {A : Type 0} (bs : List Block) (x x' : Ran A) → Ends x (arena_words a) Fine → Ends x' (arena_words a') Fine → Q (heap_of x) (heap_of x')
      → (answer_of (C.done a x) ≡ answer_of (C.done a' x')) × Alike Q (kept bs (C.done a x)) (kept bs (C.done a' x'))
  job-alike bs (ran g ws y) (ran g' ws' y') E E' q =
      (refl, (read g g' (apply ws (arena_words a)) (apply ws' (arena_words a')) E.now E.mem E'.now E'.mem q, refl))

-- ---- the events, with the same blocks
module _ (Q : Heap → Heap → Type 0) (M : Event → Heap → Heap → Type 0) (K : Steady Q M) (a r a' r' : List ℕ) (bs : List Block) (R : Ready a r bs) (R' : Ready a' r' bs) (q : Q (C.heap_in a r) (C.heap_in a' r')) where
  abbrev h : Heap
  h = C.heap_in a r

  abbrev h' : Heap
  h' = C.heap_in a' r'

  -- what is said of two results, and their answers put in a list
  abbrev Both : (List Block → C.After → State) → C.After → C.After → Type 0
  Both f x x' = (answer_of x ≡ answer_of x') × Alike Q (f bs x) (f bs x')

  by : (f : List Block → C.After → State) (x y x' y' : C.After) → x ≡ y → x' ≡ y' → Both f y y' → Both f x x'
  by f x y x' y' e e' k = subst (λ (z : C.After). Both f z x') (sym e) (subst (λ (z : C.After). Both f y z) (sym e') k)

  grant-both : (n : ℕ) → M (Grant n) h h' → Both granted (C.grant_call a r n) (C.grant_call a' r' n)
  grant-both n k = ⊎_elim
      (λ l. by granted (C.grant_call a r n) (C.refused a r N.Request) (C.grant_call a' r' n) (C.refused a' r' N.Request)
      (grant-large a r R.lent R.sound n l) (grant-large a' r' R'.lent R'.sound n l) (refl, (q, refl)))
      (λ l.
      let F = need-bounds n in
      by granted (C.grant_call a r n) (C.granted a (grant (need n) h)) (C.grant_call a' r' n) (C.granted a' (grant (need n) h'))
      (grant-called a r R.lent R.sound n l) (grant-called a' r' R'.lent R'.sound n l)
      (grant-alike Q a a' bs (grant (need n) h) (grant (need n) h')
      (grant-fine (need n) F.whole F.least (F.most l) h (arena_words a) (ready-fine a r bs R) R.sound.mem)
      (grant-fine (need n) F.whole F.least (F.most l) h' (arena_words a') (ready-fine a' r' bs R') R'.sound.mem)
      (K.answer h h' R.sound.good R'.sound.good q n l k) (K.grants h h' R.sound.good R'.sound.good q n l k)))
      (lt-or-le 262144 n)

  job-both : (f : Heap → Ran (Unit {0})) → Job f → Q (heap_of (f h)) (heap_of (f h')) → Both kept (C.job_call f a r) (C.job_call f a' r')
  job-both f J k =
      by kept (C.job_call f a r) (C.done a (f h)) (C.job_call f a' r') (C.done a' (f h'))
      (job-called a r R.lent R.sound f) (job-called a' r' R'.lent R'.sound f)
      (job-alike Q a a' bs (f h) (f h') (J.ends h (arena_words a) (ready-fine a r bs R) R.sound.mem)
      (J.ends h' (arena_words a') (ready-fine a' r' bs R') R'.sound.mem) k)

  -- release, by its tests
  live_same : (m : ℕ) → both (leb 16 m) (live? h' (m - 16)) ≡ both (leb 16 m) (live? h (m - 16))
  live_same m = ap (both (leb 16 m)) (sym (K.live h h' R.sound.good R'.sound.good q (m - 16)))

  freed : ℕ → List ℕ → List ℕ → Heap → Bool → C.After
  freed m a r h t = elim t [ true ↦ C.done a (release (m - 16) h) | false ↦ C.refused a r N.NotLive ]

  freed-both : (m : ℕ) → M (Release m) h h' → (t : Bool) → both (leb 16 m) (live? h (m - 16)) ≡ t → Both (released m) (freed m a r h t) (freed m a' r' h' t)
  unfolding freed
  freed-both m k true e =
      let l : live? h (m - 16) ≡ true = (both_true (leb 16 m) (live? h (m - 16)) e).1 in
      let l' : live? h' (m - 16) ≡ true = sym (K.live h h' R.sound.good R'.sound.good q (m - 16)) ∙ l in
      release-alike Q a a' m bs (release (m - 16) h) (release (m - 16) h')
      (release-fine (m - 16) h (arena_words a) (ready-fine a r bs R) R.sound.mem (live-loose h (m - 16) l))
      (release-fine (m - 16) h' (arena_words a') (ready-fine a' r' bs R') R'.sound.mem (live-loose h' (m - 16) l'))
      (K.releases h h' R.sound.good R'.sound.good q m k e)
  freed-both m k false e = (refl, (q, refl))

  null : ℕ → List ℕ → List ℕ → Heap → Bool → C.After
  null m a r h t = elim t [ true ↦ C.after a r (Ok Done) | false ↦ freed m a r h (both (leb 16 m) (live? h (m - 16))) ]

  null-both : (m : ℕ) → M (Release m) h h' → (t : Bool) → eqb m 0 ≡ t → Both (released m) (null m a r h t) (null m a' r' h' t)
  unfolding null
  null-both m k true e = (refl, (q, refl))
  null-both m k false e =
      subst (λ (t : Bool). Both (released m) (freed m a r h (both (leb 16 m) (live? h (m - 16)))) (freed m a' r' h' t)) (sym (live_same m))
      (freed-both m k (both (leb 16 m) (live? h (m - 16))) refl)

  release-both : (m : ℕ) → M (Release m) h h' → Both (released m) (C.release_call a r m) (C.release_call a' r' m)
  unfolding null freed
  release-both m k =
      by (released m) (C.release_call a r m) (null m a r h (eqb m 0)) (C.release_call a' r' m) (null m a' r' h' (eqb m 0))
      (release-called a r R.lent R.sound m) (release-called a' r' R'.lent R'.sound m) (null-both m k (eqb m 0) refl)

  -- resize, by its ways: the other heap's is the same
  same_way : (m n : ℕ) → Way h m n → Way h' m n
  same_way m n (Null z) = Null z
  same_way m n (Zero z k) = Zero z k
  same_way m n (Large z k l) = Large z k l
  same_way m n (Dead z k l v) = Dead z k l (live_same m ∙ v)
  same_way m n (Through z k l v) = Through z k l (live_same m ∙ v)

  -- where two kinds of call leave the same
  same_left : (f g : List Block → C.After → State) (x x' : C.After) → f bs x ≡ g bs x → f bs x' ≡ g bs x' → Both g x x' → Both f x x'
  same_left f g x x' e e' k = (k.0, subst (λ (s : State). Alike Q s (f bs x')) (sym e) (subst (λ (s : State). Alike Q (g bs x) s) (sym e') k.1))

  ways-both : (m n : ℕ) → M (Resize m n) h h' → (w : Way h m n) → Both (resized m) (resize_by a r m n w) (resize_by a' r' m n (same_way m n w))
  unfolding same_way
  ways-both m n i (Null z) =
      same_left (resized m) granted (C.grant_call a r n) (C.grant_call a' r' n) (resized-null a r bs R m z (C.grant_call a r n)) (resized-null a' r' bs R' m z (C.grant_call a' r' n))
      (grant-both n (K.nulls h h' n (subst (λ (x : ℕ). M (Resize x n) h h') (eqb-true m 0 z) i)))
  ways-both m n i (Zero z k) =
      same_left (resized m) (released m) (C.release_call a r m) (C.release_call a' r' m) (resized-zero a r bs R m) (resized-zero a' r' bs R' m)
      (release-both m (K.zeros h h' m (subst (λ (x : ℕ). M (Resize m x) h h') (eqb-true n 0 k) i)))
  ways-both m n i (Large z k l) = (refl, (q, refl))
  ways-both m n i (Dead z k l v) = (refl, (q, refl))
  ways-both m n i (Through z k l v) =
      let F = need-bounds n in
      let u : live? h (m - 16) ≡ true = (both_true (leb 16 m) (live? h (m - 16)) v).1 in
      let u' : live? h' (m - 16) ≡ true = (both_true (leb 16 m) (live? h' (m - 16)) (live_same m ∙ v)).1 in
      resize-alike Q a a' m bs (resize (m - 16) (need n) h) (resize (m - 16) (need n) h')
      (resize-fine (need n) F.whole F.least (F.most l) (m - 16) h (arena_words a) (ready-fine a r bs R) R.sound.mem (live-loose h (m - 16) u))
      (resize-fine (need n) F.whole F.least (F.most l) (m - 16) h' (arena_words a') (ready-fine a' r' bs R') R'.sound.mem (live-loose h' (m - 16) u'))
      (K.resized h h' R.sound.good R'.sound.good q m n i u) (K.resizes h h' R.sound.good R'.sound.good q m n i u)

  resize-both : (m n : ℕ) → M (Resize m n) h h' → Both (resized m) (C.resize_call a r m n) (C.resize_call a' r' m n)
  resize-both m n i =
      let w : Way h m n = way h m n in
      by (resized m) (C.resize_call a r m n) (resize_by a r m n w) (C.resize_call a' r' m n) (resize_by a' r' m n (same_way m n w))
      (resize-called a r R.lent R.sound m n w) (resize-called a' r' R'.lent R'.sound m n (same_way m n w)) (ways-both m n i w)

  store_both : (p v : ℕ) (t : Bool) → holds? bs p ≡ t → Alike Q (elim t [ true ↦ state (set a p (v % 256)) r bs | false ↦ state a r bs ])
      (elim t [ true ↦ state (set a' p (v % 256)) r' bs | false ↦ state a' r' bs ])
  store_both p v true e = (
    subst (λ (k : Heap). Q k (C.heap_in (set a' p (v % 256)) r')) (sym (store_view a r bs R p v e))
        (subst (λ (k : Heap). Q (C.heap_in a r) k) (sym (store_view a' r' bs R' p v e)) q),
    refl,
  )
  store_both p v false e = (q, refl)

  same_blocks : (e : Event) → M e h h' → Same Q e (state a r bs) (state a' r' bs)
  unfolding next
  same_blocks (Grant n) k = let b = grant-both n k in (ap (λ (x : Answered). x ∷ []) b.0, b.1)
  same_blocks (Release m) k = let b = release-both m k in (ap (λ (x : Answered). x ∷ []) b.0, b.1)
  same_blocks (Resize m n) k = let b = resize-both m n k in (ap (λ (x : Answered). x ∷ []) b.0, b.1)
  same_blocks Emptying k =
      let b = job-both emptying emptying-job (K.empties h h' R.sound.good R'.sound.good q k) in
      (ap (λ (x : Answered). x ∷ []) b.0, b.1)
  same_blocks Joining k =
      let b = job-both joining joining-job (K.joins h h' R.sound.good R'.sound.good q k) in
      (ap (λ (x : Answered). x ∷ []) b.0, b.1)
  same_blocks (Store p v) k = (refl, store_both p v (holds? bs p) refl)

-- M holds of every event of a run, of the two heaps before it
abbrev pub Always : (Event → Heap → Heap → Type 0) → List Event → State → State → Type 0
Always M [] s t = Unit {0}
Always M (e ∷ es) s t = M e (heap_at s) (heap_at t) × Always M es (next e s) (next e t)

-- ---- the simulation
module _ (Q : Heap → Heap → Type 0) (M : Event → Heap → Heap → Type 0) (K : Steady Q M) where
  pub next-alike : (e : Event) (s t : State) → M e (heap_at s) (heap_at t) → Alike Q s t → ReadyAt s → ReadyAt t → Same Q e s t
  next-alike e (state a r bs) (state a' r' bs') i k R R' =
      subst (λ (cs : List Block). Ready a' r' cs → Same Q e (state a r bs) (state a' r' cs)) k.1
      (λ R''. same_blocks Q M K a r a' r' bs R R'' k.0 e i) R'

  pub run-alike : (es : List Event) (s t : State) → Always M es s t → Alike Q s t → ReadyAt s → ReadyAt t → Alike Q (run es s) (run es t)
  unfolding run
  run-alike [] s t i k R R' = k
  run-alike (e ∷ es) s t i k R R' = run-alike es (next e s) (next e t) i.1 (next-alike e s t i.0 k R R').1 (next-ready e s R) (next-ready e t R')

  pub answers-alike : (es : List Event) (s t : State) → Always M es s t → Alike Q s t → ReadyAt s → ReadyAt t → answers es s ≡ answers es t
  unfolding answers
  answers-alike [] s t i k R R' = refl
  answers-alike (e ∷ es) s t i k R R' =
      let o = next-alike e s t i.0 k R R' in
      let l : answers es (next e s) ≡ answers es (next e t) = answers-alike es (next e s) (next e t) i.1 o.1 (next-ready e s R) (next-ready e t R') in
      let f : answer_to e s ≡ answer_to e t = o.0 in
      cc

-- ---- heaps equal but for what was chosen, q for the second, whatever the events
abbrev pub ButChoice : Choice → Heap → Heap → Type 0
ButChoice q h g = g ≡ with_choice q h

abbrev pub Any : Event → Heap → Heap → Type 0
Any e h g = Unit {0}

module _ (q : Choice) where
  of-choice : {A : Type 0} (f : Heap → Ran A) → ((h : Heap) → Chosen q (f h) (f (with_choice q h))) → (h g : Heap) → ButChoice q h g → Chosen q (f h) (f g)
  of-choice f k h g e = subst (λ (x : Heap). Chosen q (f h) (f x)) (sym e) (k h)

  pub butchoice-steady : Steady (ButChoice q) Any
  butchoice-steady = record {
    live = λ h g G G' e c. ap (λ (k : Heap). live? k c) (sym e);
    answer = λ h g G G' e n l i. said-like (rechosen q) (grant (need n) h) (grant (need n) g) (of-choice (grant (need n)) (grant-chosen q (need n)) h g e);
    grants = λ h g G G' e n l i. (of-choice (grant (need n)) (grant-chosen q (need n)) h g e).heap;
    releases = λ h g G G' e m i l. (of-choice (release (m - 16)) (release-chosen q (m - 16)) h g e).heap;
    resized = λ h g G G' e m n i l.
        said-like (rechosen q) (resize (m - 16) (need n) h) (resize (m - 16) (need n) g) (of-choice (resize (m - 16) (need n)) (resize-chosen q (m - 16) (need n)) h g e);
    resizes = λ h g G G' e m n i l. (of-choice (resize (m - 16) (need n)) (resize-chosen q (m - 16) (need n)) h g e).heap;
    nulls = λ h g n i. tt;
    zeros = λ h g m i. tt;
    empties = λ h g G G' e i. (of-choice emptying (emptying-chosen q) h g e).heap;
    joins = λ h g G G' e i. (of-choice joining (joining-chosen q) h g e).heap;
  }

pub any-always : (es : List Event) (s t : State) → Always Any es s t
any-always [] s t = tt
any-always (e ∷ es) s t = (tt, any-always es (next e s) (next e t))
