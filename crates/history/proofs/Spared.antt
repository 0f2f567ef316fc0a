-- No call of a run changes a usable byte of a block that stays held, refused calls included, and a resized block has its first bytes where it then stands.
-- What is held is live, and of live blocks the calls on bytes say so. Assumes nothing.
use Rattle.std.specs.Prelude.{◌≡◌, refl, List, [], ◌∷◌, true, ℕ, ◌+◌, ◌-◌, ◌≤◌, ◌<◌, get_or, Ok, Err}
use Rattle.std.proofs.Common.{sym, ap, ◌∙◌, ⊎_elim, arith}
use Rattle.machine.specs.Heap.{Heap, size_of, live?}
use Rattle.machine.specs.Writes.{Ran}
use Rattle.machine.specs.Release.{emptying, joining}
use Rattle.machine.specs.Calls as C
use Rattle.machine.specs.declared.Answer.TheVariants.{Done, Granted}
use Rattle.machine.specs.declared.Refusal.{Refusal}
use Rattle.machine.specs.declared.Refusal.TheVariants as N
use Rattle.sound.specs.Tiles.{lt-or-le}
use Rattle.sound.specs.Live.{loose-live}
use Rattle.calls_consequences.specs.Results.{answered, arena_left, LiveKept}
use Rattle.calls_consequences.specs.Consequences.{Job, emptying-job, joining-job, grant-live-bytes-kept, release-live-bytes-kept, job-live-bytes-kept}
use Rattle.calls_consequences.specs.ResizeConsequences.{resize-large-refused, resized-to, resize-live-bytes-kept, resize-refused-keeps}
use Rattle.history.specs.Histories.{Event, Grant, Release, Resize, Emptying, Joining, Store, Block, State, state, heap_at, arena_in, blocks_in, granted, released, resized, kept, answer_to, next}
use Rattle.history.specs.Ready.{held_at, Ready, ReadyAt, held-loose}
use Rattle.history.specs.Called.{sound-in}

-- p is a usable byte of the block at mem m, of a chunk in h
pub record ByteOf (h : Heap) (m p : ℕ) : Type 0 where
  pub low : m ≤ p
  pub high : p + 8 < m + size_of h (m - 16)

-- ---- an event leaves the arena of its call
granted-arena : (bs : List Block) (x : C.After) → arena_in (granted bs x) ≡ arena_left x
granted-arena bs (C.after a r (Ok Done)) = refl
granted-arena bs (C.after a r (Ok (Granted k u))) = refl
granted-arena bs (C.after a r (Err y)) = refl

released-arena : (m : ℕ) (bs : List Block) (x : C.After) → arena_in (released m bs x) ≡ arena_left x
released-arena m bs (C.after a r (Ok Done)) = refl
released-arena m bs (C.after a r (Ok (Granted k u))) = refl
released-arena m bs (C.after a r (Err y)) = refl

resized-arena : (m : ℕ) (bs : List Block) (x : C.After) → arena_in (resized m bs x) ≡ arena_left x
resized-arena m bs (C.after a r (Ok Done)) = refl
resized-arena m bs (C.after a r (Ok (Granted k u))) = refl
resized-arena m bs (C.after a r (Err y)) = refl

kept-arena : (bs : List Block) (x : C.After) → arena_in (kept bs x) ≡ arena_left x
kept-arena bs (C.after a r y) = refl

module _ (a r : List ℕ) (bs : List Block) (R : Ready a r bs) (m : ℕ) (held : 1 ≤ held_at m bs) where
  abbrev h : Heap
  h = C.heap_in a r

  low : 16 ≤ m
  low = (held-loose h bs R.holds m held).0

  live : live? h (m - 16) ≡ true
  live = loose-live h (m - 16) R.sound.good.shape (held-loose h bs R.holds m held).1

  -- of a state with the arena that a call left
  spared : (p : ℕ) → ByteOf h m p → (s : State) (x : C.After) → arena_in s ≡ arena_left x → LiveKept a r (m - 16) x → get_or (arena_in s) p 0 ≡ get_or a p 0
  spared p u s x e K = ap (λ (l : List ℕ). get_or l p 0) e ∙ K.bytes p (omega (arith, u.low, low)) (omega (arith, u.high, low))

  other : (k : ℕ) → (m ≡ k → ⊥) → k ≡ m - 16 + 16 → ⊥
  other k n q = n (omega (arith, low))

  job-spares : (f : Heap → Ran (Unit {0})) → Job f → (p : ℕ) → ByteOf h m p → get_or (arena_in (kept bs (C.job_call f a r))) p 0 ≡ get_or a p 0
  job-spares f J p u =
      let x : C.After = C.job_call f a r in
      spared p u (kept bs x) x (kept-arena bs x) (job-live-bytes-kept a r R.lent f J (m - 16) live)

-- ---- an event that is a call, and neither the release nor a resize of m
abbrev pub Other : Event → ℕ → Type 0
Other (Grant n) m = Unit {0}
Other (Release k) m = m ≡ k → ⊥
Other (Resize k n) m = m ≡ k → ⊥
Other Emptying m = Unit {0}
Other Joining m = Unit {0}
Other (Store p v) m = ⊥

pub next-spares : (e : Event) (s : State) → ReadyAt s → (m p : ℕ) → Other e m → 1 ≤ held_at m (blocks_in s) → ByteOf (heap_at s) m p
    → get_or (arena_in (next e s)) p 0 ≡ get_or (arena_in s) p 0
unfolding next
next-spares (Grant n) (state a r bs) R m p l i u =
    let x : C.After = C.grant_call a r n in
    spared a r bs R m i p u (granted bs x) x (granted-arena bs x) (grant-live-bytes-kept a r R.lent n (m - 16) (live a r bs R m i))
next-spares (Release k) (state a r bs) R m p l i u =
    let x : C.After = C.release_call a r k in
    spared a r bs R m i p u (released k bs x) x (released-arena k bs x)
    (release-live-bytes-kept a r R.lent k (m - 16) (other a r bs R m i k l) (live a r bs R m i))
next-spares (Resize k n) (state a r bs) R m p l i u =
    let x : C.After = C.resize_call a r k n in
    spared a r bs R m i p u (resized k bs x) x (resized-arena k bs x)
    (resize-live-bytes-kept a r R.lent k n (m - 16) (other a r bs R m i k l) (live a r bs R m i))
next-spares Emptying (state a r bs) R m p l i u = job-spares a r bs R m i emptying emptying-job p u
next-spares Joining (state a r bs) R m p l i u = job-spares a r bs R m i joining joining-job p u
next-spares (Store q v) (state a r bs) R m p l i u = absurd l

-- ---- a held block that is resized: its byte i is byte i of the block that is granted, moved or not, as far as both reach; refused, all its bytes stay
pub resize-keeps : (s : State) → ReadyAt s → (m n k u i : ℕ) → 1 ≤ held_at m (blocks_in s) → answer_to (Resize m n) s ≡ Ok (Granted k u) ∷ [] → ByteOf (heap_at s) m (m + i) → i < u
    → get_or (arena_in (next (Resize m n) s)) (k + i) 0 ≡ get_or (arena_in s) (m + i) 0
unfolding next
resize-keeps (state a r bs) R m n k u i held e b l =
    let x : C.After = C.resize_call a r m n in
    let g : answered x ≡ (Ok (Granted k u)) = cc in
    ap (λ (c : List ℕ). get_or c (k + i) 0) (resized-arena m bs x)
    ∙ (resized-to a r R.lent m n (sound-in a r R.lent R.sound) (low a r bs R m held, live a r bs R m held) (small g) k u g).bytes i (omega (arith, b.high)) l
  where
    small : answered (C.resize_call a r m n) ≡ Ok (Granted k u) → n ≤ 262144
    small g = ⊎_elim
        (λ j. absurd (let q : (Err N.Request) ≡ (Ok (Granted k u)) = sym (ap answered (resize-large-refused a r R.lent m n j)) ∙ g in let z : ◌≡◌ {A = ℕ} 0 1 = cc in omega arith))
        (λ j. j) (lt-or-le 262144 n)

pub resize-refused-spares : (s : State) → ReadyAt s → (m n : ℕ) (x : Refusal) (p : ℕ) → 1 ≤ held_at m (blocks_in s) → answer_to (Resize m n) s ≡ Err x ∷ []
    → ByteOf (heap_at s) m p → get_or (arena_in (next (Resize m n) s)) p 0 ≡ get_or (arena_in s) p 0
unfolding next
resize-refused-spares (state a r bs) R m n x p held e b =
    let y : C.After = C.resize_call a r m n in
    let g : answered y ≡ (Err x) = cc in
    spared a r bs R m held p b (resized m bs y) y (resized-arena m bs y) (resize-refused-keeps a r R.lent m n x g (m - 16) (live a r bs R m held))
