-- Bytes that holders have written and live blocks have held ever since are the same in two runs that answer the same and hold the same blocks: a call changes no usable
-- byte of a block that stays held, a resized block takes its bytes along, and a store writes the same byte in both. Assumes nothing.
use Rattle.std.specs.Prelude.{◌≡◌, false, ◌⊎◌, ℕ, ◌+◌, ◌-◌, ◌%◌, ◌≤◌, ◌<◌, eqb, ltb, leb, length, set, Ok, Err}
use Rattle.std.proofs.Math.Path.{refl, sym, ap}
use Rattle.std.proofs.Common.{◌∙◌, subst, inl, inr, arith, get_or-set_same, get_or-set_other, eqb-true, leb-true, ltb-true}
use mathlib.Core.List.{List, [], ◌∷◌}
use Rattle.std.proofs.Math.Bool.{Bool, true}
use Rattle.std.proofs.Math.Logic.{⊎_elim}
use Rattle.std.proofs.Math.ListN.{get_or}
use Rattle.le.specs.ArenaLaws.{length-arena_words}
use Rattle.machine.specs.Lists.{both, either, ind, cnt}
use Rattle.machine.specs.Count.{eq?, ind-same, ind-other}
use Rattle.machine.specs.Heap.{Heap, starts, size_of, live?}
use Rattle.machine.specs.Writes.{Ran, ran}
use Rattle.machine.specs.Release.{release}
use Rattle.machine.specs.Calls as C
use Rattle.machine.specs.declared.Answer.TheVariants.{Done, Granted}
use Rattle.machine.specs.declared.Refusal.{Refusal}
use Rattle.machine.specs.declared.Refusal.TheVariants as N
use Rattle.sound.specs.Tiles.{lt-or-le}
use Rattle.sound.specs.Release.{both_true}
use Rattle.calls_consequences.specs.Written.{top-most, chunk-most}
use Rattle.history.specs.Histories.{Event, Grant, Release, Resize, Emptying, Joining, Store, Block, usable_at?, holds?, drop, State, state, arena_in, blocks_in, released, resized, next, answer_of, answer_to}
use Rattle.history.specs.Agrees.{still, along, resized_by, stored}
use Rattle.history.specs.Ready.{held_at, Sized, Ready, ReadyAt, held-loose, held-once, drop-count, drop-none, sized-drop}
use Rattle.history.specs.Called.{release-called}
use Rattle.history.specs.Stores.{Within, within}
use Rattle.history.proofs.Spared.{Other, next-spares, resize-keeps, resize-refused-spares}
use Rattle.machine.specs.Calls.{Answered}

-- ---- the block that has a byte that the others do not have: the one dropped
pub record Dropped (z : ℕ → ℕ) (m : ℕ) (bs : List Block) (p : ℕ) : Type 0 where
  pub held : 1 ≤ held_at m bs
  pub low : m ≤ p
  pub high : p + 8 < m + z (m - 16)

dropped : (z : ℕ → ℕ) (m : ℕ) (bs : List Block) (p : ℕ) → Sized z bs → holds? bs p ≡ true → holds? (drop m bs) p ≡ false → Dropped z m bs p
dropped z m [] p k e f = absurd (let q : ◌≡◌ {A = ℕ} 0 1 = cc in omega arith)
dropped z m (b ∷ bs) p k e f = go (dropped z m bs p k.1) (eqb m b.mem) refl (usable_at? p b) refl e f
  where
    go : (holds? bs p ≡ true → holds? (drop m bs) p ≡ false → Dropped z m bs p) → (t : Bool) → eqb m b.mem ≡ t → (u : Bool) → usable_at? p b ≡ u
        → either u (holds? bs p) ≡ true → holds? (elim t [ true ↦ bs | false ↦ b ∷ drop m bs ]) p ≡ false → Dropped z m (b ∷ bs) p
    go i true t true u e f =
        let v = both_true (leb b.mem p) (ltb p (b.mem + b.usable)) u in
        let q : m ≡ b.mem = eqb-true m b.mem t in
        record {
          held = omega (arith, ap ind t);
          low = omega (arith, q, leb-true b.mem p v.0);
          high = omega (arith, q, k.0, ap (λ (x : ℕ). z (x - 16)) q, ltb-true p (b.mem + b.usable) v.1);
        }
    go i true t false u e f = absurd (let q : ◌≡◌ {A = ℕ} 0 1 = cc in omega arith)
    go i false t true u e f = absurd (let g : either (usable_at? p b) (holds? (drop m bs) p) ≡ false = f in let q : ◌≡◌ {A = ℕ} 0 1 = cc in omega arith)
    go i false t false u e f =
        let g : either (usable_at? p b) (holds? (drop m bs) p) ≡ false = f in
        let D = i e (ap (λ (x : Bool). either x (holds? (drop m bs) p)) (sym u) ∙ g) in
        record { held = omega (arith, D.held); low = D.low; high = D.high }

-- ---- a release leaves the arena as it was, or its block goes
done-drops : {A : Type 0} (k : ℕ) (a : List ℕ) (bs : List Block) (x : Ran A) → blocks_in (released k bs (C.done a x)) ≡ drop k bs
done-drops k a bs (ran h ws y) = refl

release-way : (a r : List ℕ) (bs : List Block) → Ready a r bs → (k : ℕ)
    → (arena_in (released k bs (C.release_call a r k)) ≡ a) ⊎ (blocks_in (released k bs (C.release_call a r k)) ≡ drop k bs)
release-way a r bs R k = subst W (sym (release-called a r R.lent R.sound k)) (null (eqb k 0))
  where
    W : C.After → Type 0
    W x = (arena_in (released k bs x) ≡ a) ⊎ (blocks_in (released k bs x) ≡ drop k bs)

    live : (t : Bool) → W (elim t [ true ↦ C.done a (release (k - 16) (C.heap_in a r)) | false ↦ C.refused a r N.NotLive ])
    live true = inr (done-drops k a bs (release (k - 16) (C.heap_in a r)))
    live false = inl refl

    null : (t : Bool) → W (elim t [
      | true ↦ C.after a r (Ok Done)
      | false ↦ elim (both (leb 16 k) (live? (C.heap_in a r) (k - 16))) [
        | true ↦ C.done a (release (k - 16) (C.heap_in a r))
        | false ↦ C.refused a r N.NotLive
      ]
    ])
    null true = inl refl
    null false = live (both (leb 16 k) (live? (C.heap_in a r) (k - 16)))

-- ---- a call that leaves p held leaves its byte
module _ (a r : List ℕ) (bs : List Block) (R : Ready a r bs) where
  abbrev h : Heap
  h = C.heap_in a r

  of : (p : ℕ) → holds? bs p ≡ true → Within (λ c. size_of h c) bs p
  of p was = within (λ c. size_of h c) bs p R.holds.sizes was

  gone-other : (k m : ℕ) → 1 ≤ held_at m (drop k bs) → (1 ≤ held_at m bs) × (m ≡ k → ⊥)
  gone-other k m l = ⊎_elim
      (λ z. let e : drop k bs ≡ bs = drop-none k bs (omega arith) in
      (omega (arith, ap (held_at m) e), λ q. omega (arith, ap (held_at m) e, ap (λ (x : ℕ). held_at x bs) q)))
      (λ z. (omega (arith, drop-count k bs z m), λ q. omega (arith, drop-count k bs z m, held-once h bs R.sound.good R.holds m, ap (λ (x : ℕ). ind (eqb m x)) (sym q), ind-same m)))
      (lt-or-le (held_at k bs) 1)

  held-inside : (p : ℕ) → holds? bs p ≡ true → p < length a
  held-inside p was =
      let O = of p was in
      let l = held-loose h bs R.holds O.mem O.held in
      let G = R.sound.good in
      let m : 1 ≤ cnt (O.mem - 16) (starts h) = omega (arith, l.1) in
      omega (arith, O.high, l.0, chunk-most h G (O.mem - 16) m, top-most h G, R.sound.mem.long, length-arena_words a, R.lent.even)

  -- an event that spares every block but the one at k, and a byte of another
  other_byte : (e : Event) (k : ℕ) → ((m : ℕ) → (m ≡ k → ⊥) → Other e m) → (p : ℕ) → holds? (drop k bs) p ≡ true
      → get_or (arena_in (next e (state a r bs))) p 0 ≡ get_or a p 0
  other_byte e k o p l =
      let O = within (λ c. size_of h c) (drop k bs) p (sized-drop (λ c. size_of h c) k bs R.holds.sizes) l in
      let g = gone-other k O.mem O.held in
      next-spares e (state a r bs) R O.mem p (o O.mem g.1) g.0 (record { low = O.low; high = O.high })

  release-byte : (k p : ℕ) → holds? (blocks_in (next (Release k) (state a r bs))) p ≡ true → get_or (arena_in (next (Release k) (state a r bs))) p 0 ≡ get_or a p 0
  unfolding next
  release-byte k p now = ⊎_elim
      (λ e. ap (λ (l : List ℕ). get_or l p 0) e)
      (λ e. other_byte (Release k) k (λ m n. n) p (subst (λ (cs : List Block). holds? cs p ≡ true) e now))
      (release-way a r bs R k)

  -- ---- a resize: the byte of another block; that of the resized block, where it then stands; and any, where it is refused
  resize-other : (m n p : ℕ) → holds? (drop m bs) p ≡ true → get_or (arena_in (next (Resize m n) (state a r bs))) p 0 ≡ get_or a p 0
  resize-other m n p l = other_byte (Resize m n) m (λ k o. o) p l

  resize-along : (m n k u p : ℕ) → answer_to (Resize m n) (state a r bs) ≡ Ok (Granted k u) ∷ [] → holds? bs p ≡ true → holds? (drop m bs) p ≡ false → p - m < u
      → get_or (arena_in (next (Resize m n) (state a r bs))) (k + (p - m)) 0 ≡ get_or a p 0
  resize-along m n k u p e was gone l =
      let D = dropped (λ c. size_of h c) m bs p R.holds.sizes was gone in
      let q : m + (p - m) ≡ p = omega (arith, D.low) in
      resize-keeps (state a r bs) R m n k u (p - m) D.held e (record { low = omega arith; high = omega (arith, q, D.high) }) l ∙ ap (λ (x : ℕ). get_or a x 0) q

  resize-refused : (m n : ℕ) (x : Refusal) (p : ℕ) → answer_to (Resize m n) (state a r bs) ≡ Err x ∷ [] → holds? bs p ≡ true
      → get_or (arena_in (next (Resize m n) (state a r bs))) p 0 ≡ get_or a p 0
  resize-refused m n x p e was =
      let O = of p was in
      ⊎_elim
      (λ q. resize-refused-spares (state a r bs) R m n x p (subst (λ (k : ℕ). 1 ≤ held_at k bs) q O.held) e
      (record { low = omega (arith, q, O.low); high = omega (arith, q, O.high, ap (λ (k : ℕ). size_of h (k - 16)) q) }))
      (λ q. next-spares (Resize m n) (state a r bs) R O.mem p q O.held (record { low = O.low; high = O.high }))
      (eq? O.mem m)

-- a call but a resize
abbrev Calls : Event → Type 0
Calls (Grant n) = Unit {0}
Calls (Release m) = Unit {0}
Calls (Resize m n) = ⊥
Calls Emptying = Unit {0}
Calls Joining = Unit {0}
Calls (Store p v) = ⊥

call-byte : (e : Event) → Calls e → (s : State) → ReadyAt s → (p : ℕ) → holds? (blocks_in s) p ≡ true → holds? (blocks_in (next e s)) p ≡ true
    → get_or (arena_in (next e s)) p 0 ≡ get_or (arena_in s) p 0
call-byte (Grant n) c (state a r bs) R p was now = let O = of a r bs R p was in next-spares (Grant n) (state a r bs) R O.mem p tt O.held (record { low = O.low; high = O.high })
call-byte (Release k) c (state a r bs) R p was now = release-byte a r bs R k p now
call-byte (Resize m n) c s R p was now = absurd c
call-byte Emptying c (state a r bs) R p was now = let O = of a r bs R p was in next-spares Emptying (state a r bs) R O.mem p tt O.held (record { low = O.low; high = O.high })
call-byte Joining c (state a r bs) R p was now = let O = of a r bs R p was in next-spares Joining (state a r bs) R O.mem p tt O.held (record { low = O.low; high = O.high })
call-byte (Store q v) c s R p was now = absurd c

-- ---- offsets that are held in the first of two states and have the same byte in both; and offsets that have it where they are held
abbrev pub AllSame : List ℕ → State → State → Type 0
AllSame [] s t = Unit {0}
AllSame (p ∷ ps) s t = (holds? (blocks_in s) p ≡ true) × (get_or (arena_in s) p 0 ≡ get_or (arena_in t) p 0) × AllSame ps s t

abbrev SameHeld : List ℕ → State → State → Type 0
SameHeld [] s t = Unit {0}
SameHeld (p ∷ ps) s t = (holds? (blocks_in s) p ≡ true → get_or (arena_in s) p 0 ≡ get_or (arena_in t) p 0) × SameHeld ps s t

pub all_same : (ps : List ℕ) (s t : State) → AllSame ps s t → (p : ℕ) → 1 ≤ cnt p ps → get_or (arena_in s) p 0 ≡ get_or (arena_in t) p 0
all_same [] s t a p l = absurd (omega arith)
all_same (q ∷ ps) s t a p l = ⊎_elim
    (λ e. subst (λ (x : ℕ). get_or (arena_in s) x 0 ≡ get_or (arena_in t) x 0) (sym e) a.1)
    (λ n. all_same ps s t a.2 p (omega (arith, ind-other p q n)))
    (eq? p q)

still-same : (ps : List ℕ) (s t : State) → SameHeld ps s t → AllSame (still (blocks_in s) ps) s t
still-same [] s t A = tt
still-same (p ∷ ps) s t A = go (still-same ps s t A.1) (holds? (blocks_in s) p) refl
  where
    go : AllSame (still (blocks_in s) ps) s t → (k : Bool) → holds? (blocks_in s) p ≡ k
        → AllSame (elim k [ true ↦ p ∷ still (blocks_in s) ps | false ↦ still (blocks_in s) ps ]) s t
    go rest true k = (k, A.0 k, rest)
    go rest false k = rest

call_same : (e : Event) → Calls e → (s t : State) → ReadyAt s → ReadyAt t → blocks_in s ≡ blocks_in t → blocks_in (next e s) ≡ blocks_in (next e t)
    → (ps : List ℕ) → AllSame ps s t → SameHeld ps (next e s) (next e t)
call_same e c s t R R' b b' [] A = tt
call_same e c s t R R' b b' (p ∷ ps) A = (
  λ now. call-byte e c s R p A.0 now ∙ A.1
      ∙ sym (call-byte e c t R' p (subst (λ (bs : List Block). holds? bs p ≡ true) b A.0) (subst (λ (bs : List Block). holds? bs p ≡ true) b' now)),
  call_same e c s t R R' b b' ps A.2,
)

-- ---- a resize, with the same blocks and the same answer
done-blocks : (m : ℕ) (bs : List Block) (x : C.After) → answer_of x ≡ Ok Done → blocks_in (resized m bs x) ≡ drop m bs
done-blocks m bs (C.after a r (Ok Done)) e = refl
done-blocks m bs (C.after a r (Ok (Granted k u))) e = absurd (let z : ◌≡◌ {A = ℕ} 0 1 = cc in omega arith)
done-blocks m bs (C.after a r (Err x)) e = absurd (let z : ◌≡◌ {A = ℕ} 0 1 = cc in omega arith)

module _ (m n : ℕ) (a r a' r' : List ℕ) (bs : List Block) (R : Ready a r bs) (R' : Ready a' r' bs) where
  abbrev s : State
  s = state a r bs

  abbrev t : State
  t = state a' r' bs

  abbrev now : State
  now = next (Resize m n) (state a r bs)

  abbrev now' : State
  now' = next (Resize m n) (state a' r' bs)

  done-same : answer_to (Resize m n) (state a r bs) ≡ Ok Done ∷ [] → (ps : List ℕ) → AllSame ps s t → SameHeld ps now now'
  unfolding next
  done-same e [] A = tt
  done-same e (p ∷ ps) A = (
    λ held.
        let d : holds? (drop m bs) p ≡ true = ap (λ (cs : List Block). holds? cs p) (sym (done-blocks m bs (C.resize_call a r m n) (cc))) ∙ held in
        resize-other a r bs R m n p d ∙ A.1 ∙ sym (resize-other a' r' bs R' m n p d),
    done-same e ps A.2,
  )

  along-same : (k u : ℕ) → answer_to (Resize m n) s ≡ Ok (Granted k u) ∷ [] → answer_to (Resize m n) t ≡ Ok (Granted k u) ∷ [] → (ps : List ℕ) → AllSame ps s t
      → SameHeld (along m k u (drop m bs) ps) now now'
  along-same k u e e' [] A = tt
  along-same k u e e' (p ∷ ps) A = go (along-same k u e e' ps A.2) (holds? (drop m bs) p) refl (ltb (p - m) u) refl
    where
      go : SameHeld (along m k u (drop m bs) ps) now now' → (x : Bool) → holds? (drop m bs) p ≡ x → (y : Bool) → ltb (p - m) u ≡ y
          → SameHeld (elim x [
            | true ↦ p ∷ along m k u (drop m bs) ps
            | false ↦ elim y [ true ↦ (k + (p - m)) ∷ along m k u (drop m bs) ps | false ↦ along m k u (drop m bs) ps ]
          ]) now now'
      go rest true x y j = (λ held. resize-other a r bs R m n p x ∙ A.1 ∙ sym (resize-other a' r' bs R' m n p x), rest)
      go rest false x true j =
          let l : p - m < u = ltb-true (p - m) u j in
          (λ held. resize-along a r bs R m n k u p e A.0 x l ∙ A.1 ∙ sym (resize-along a' r' bs R' m n k u p e' A.0 x l), rest)
      go rest false x false j = rest

  refused-same : (x : Refusal) → answer_to (Resize m n) s ≡ Err x ∷ [] → answer_to (Resize m n) t ≡ Err x ∷ [] → (ps : List ℕ) → AllSame ps s t → SameHeld ps now now'
  refused-same x e e' [] A = tt
  refused-same x e e' (p ∷ ps) A =
      (λ held. resize-refused a r bs R m n x p e A.0 ∙ A.1 ∙ sym (resize-refused a' r' bs R' m n x p e' A.0), refused-same x e e' ps A.2)

  resized-same : answer_to (Resize m n) s ≡ answer_to (Resize m n) t → (ps : List ℕ) → AllSame ps s t
      → SameHeld (resized_by m bs (answer_of (C.resize_call a r m n)) ps) now now'
  resized-same told ps A = go (answer_of (C.resize_call a r m n)) refl
    where
      go : (y : Answered) → answer_to (Resize m n) s ≡ y ∷ [] → SameHeld (resized_by m bs y ps) now now'
      go (Ok Done) e = done-same e ps A
      go (Ok (Granted k u)) e = along-same k u e (sym told ∙ e) ps A
      go (Err x) e = refused-same x e (sym told ∙ e) ps A

resize-event : (m n : ℕ) (s t : State) → ReadyAt s → ReadyAt t → answer_to (Resize m n) s ≡ answer_to (Resize m n) t → blocks_in s ≡ blocks_in t → (ps : List ℕ) → AllSame ps s t
    → SameHeld (stored (Resize m n) s ps) (next (Resize m n) s) (next (Resize m n) t)
resize-event m n (state a r bs) (state a' r' cs) R R' told b ps A =
    subst (λ (ds : List Block). Ready a' r' ds → AllSame ps (state a r bs) (state a' r' ds)
    → SameHeld (stored (Resize m n) (state a r bs) ps) (next (Resize m n) (state a r bs)) (next (Resize m n) (state a' r' ds))) b
    (λ R'' A'. resized-same m n a r a' r' bs R R'' told ps A') R' A

-- ---- a store
store_same : (p v : ℕ) (a r a' r' : List ℕ) (bs : List Block) → Ready a r bs → Ready a' r' bs → (q : ℕ) → holds? bs q ≡ true
    → (get_or a q 0 ≡ get_or a' q 0) ⊎ (q ≡ p) → (t : Bool) → holds? bs p ≡ t
    → get_or (arena_in (elim t [ true ↦ state (set a p (v % 256)) r bs | false ↦ state a r bs ])) q 0
    ≡ get_or (arena_in (elim t [ true ↦ state (set a' p (v % 256)) r' bs | false ↦ state a' r' bs ])) q 0
store_same p v a r a' r' bs R R' q held e true k = ⊎_elim
    (λ (z : q ≡ p).
    ap (λ (x : ℕ). get_or (set a p (v % 256)) x 0) z ∙ get_or-set_same a p (v % 256) 0 (inside a r R)
    ∙ sym (ap (λ (x : ℕ). get_or (set a' p (v % 256)) x 0) z ∙ get_or-set_same a' p (v % 256) 0 (inside a' r' R')))
    (λ (z : q ≡ p → ⊥). get_or-set_other a p q (v % 256) 0 z ∙ ⊎_elim (λ x. x) (λ x. absurd (z x)) e ∙ sym (get_or-set_other a' p q (v % 256) 0 z))
    (eq? q p)
  where
    inside : (a r : List ℕ) → Ready a r bs → p < length a
    inside a r R = held-inside a r bs R p k
store_same p v a r a' r' bs R R' q held e false k = ⊎_elim (λ x. x) (λ x. absurd (let z : ◌≡◌ {A = Bool} true false = sym held ∙ ap (holds? bs) x ∙ k in let y : ◌≡◌ {A = ℕ} 0 1 = cc in omega arith)) e

module _ (p v : ℕ) (a r a' r' : List ℕ) (bs : List Block) (R : Ready a r bs) (R' : Ready a' r' bs) where
  -- what the store leaves of each
  abbrev left : Bool → State
  left t = elim t [ true ↦ state (set a p (v % 256)) r bs | false ↦ state a r bs ]

  abbrev left' : Bool → State
  left' t = elim t [ true ↦ state (set a' p (v % 256)) r' bs | false ↦ state a' r' bs ]

  left-blocks : (t : Bool) → blocks_in (left t) ≡ bs
  left-blocks true = refl
  left-blocks false = refl

  rest-same : (t : Bool) → holds? bs p ≡ t → (ps : List ℕ) → AllSame ps (state a r bs) (state a' r' bs) → SameHeld ps (left t) (left' t)
  rest-same t k [] A = tt
  rest-same t k (q ∷ ps) A = (λ held. store_same p v a r a' r' bs R R' q A.0 (inl A.1) t k, rest-same t k ps A.2)

  stored_same : (ps : List ℕ) → AllSame ps (state a r bs) (state a' r' bs) → SameHeld (p ∷ ps) (next (Store p v) (state a r bs)) (next (Store p v) (state a' r' bs))
  unfolding next
  stored_same ps A =
      let t : Bool = holds? bs p in
      (λ held. store_same p v a r a' r' bs R R' p (ap (λ (cs : List Block). holds? cs p) (sym (left-blocks t)) ∙ held) (inr refl) t refl, rest-same t refl ps A)

store-event : (p v : ℕ) (s t : State) → ReadyAt s → ReadyAt t → blocks_in s ≡ blocks_in t → (ps : List ℕ) → AllSame ps s t
    → SameHeld (p ∷ ps) (next (Store p v) s) (next (Store p v) t)
store-event p v (state a r bs) (state a' r' cs) R R' b ps A =
    subst (λ (ds : List Block). Ready a' r' ds → AllSame ps (state a r bs) (state a' r' ds)
    → SameHeld (p ∷ ps) (next (Store p v) (state a r bs)) (next (Store p v) (state a' r' ds))) b
    (λ R'' A'. stored_same p v a r a' r' bs R R'' ps A') R' A

-- ---- an event, with the same blocks before and after it, and the same answer
stored-held : (e : Event) (s t : State) → ReadyAt s → ReadyAt t → answer_to e s ≡ answer_to e t → blocks_in s ≡ blocks_in t → blocks_in (next e s) ≡ blocks_in (next e t)
    → (ps : List ℕ) → AllSame ps s t → SameHeld (stored e s ps) (next e s) (next e t)
stored-held (Grant n) s t R R' told b b' ps A = call_same (Grant n) tt s t R R' b b' ps A
stored-held (Release m) s t R R' told b b' ps A = call_same (Release m) tt s t R R' b b' ps A
stored-held (Resize m n) s t R R' told b b' ps A = resize-event m n s t R R' told b ps A
stored-held Emptying s t R R' told b b' ps A = call_same Emptying tt s t R R' b b' ps A
stored-held Joining s t R R' told b b' ps A = call_same Joining tt s t R R' b b' ps A
stored-held (Store p v) s t R R' told b b' ps A = store-event p v s t R R' b ps A

pub event-same : (e : Event) (s t : State) → ReadyAt s → ReadyAt t → answer_to e s ≡ answer_to e t → blocks_in s ≡ blocks_in t → blocks_in (next e s) ≡ blocks_in (next e t)
    → (ps : List ℕ) → AllSame ps s t → AllSame (still (blocks_in (next e s)) (stored e s ps)) (next e s) (next e t)
event-same e s t R R' told b b' ps A = still-same (stored e s ps) (next e s) (next e t) (stored-held e s t R R' told b b' ps A)
