-- Demand 3, first half: after an emptying and, with no grant, release or resize between, a joining nothing stays cut up, in every run. An emptying leaves every
-- cache list empty, and what may stand between leaves them so; the joining leaves every fast list empty, and the rest is Mending's. Assumes nothing.
use Rattle.std.specs.Prelude.{◌≡◌, refl, List, [], ◌∷◌, ◌++◌, Bool, true, false, ℕ, suc, ◌+◌, ◌-◌, ◌%◌, ◌<◌, get_or, set}
use Rattle.std.proofs.Common.{sym, ap, ◌∙◌, subst, ⊎_elim, arith}
use Rattle.std.proofs.Math.ListN.{get_or-eq_default}
use Rattle.sizes.specs.Limits.{none32}
use Rattle.machine.specs.Lists.{cnt, cnt_all}
use Rattle.machine.specs.Heap.{Heap, stack, cache}
use Rattle.machine.specs.Calls as C
use Rattle.sound.specs.Relation.{Good}
use Rattle.sound.specs.Tiles.{lt-or-le}
use Rattle.sound.specs.Drain.{NoFast}
use Rattle.calls_consequences.specs.Results.{Lent, heap_left}
use Rattle.calls_consequences.specs.Consequences.{emptying-leaves-cache-empty, joining-leaves-fast-empty, joining-leaves-cache}
use Rattle.history.specs.Histories.{Event, Grant, Release, Resize, Emptying, Joining, Store, Block, holds?, State, state, kept, next, run, Choice, Allowed, begin}
use Rattle.history.specs.Demand3.{MendedAt, Between, Quiet}
use Rattle.history.specs.Ready.{Ready, ReadyAt}
use Rattle.history.specs.Called.{sound-in}
use Rattle.history.specs.Stores.{store_view}
use Rattle.history.proofs.Runs.{begin-ready, next-ready, run-ready}
use Rattle.history.specs.Mending.{mending}

-- no cache or fast list has a chunk, and there is no last remainder
pub record Calm (h : Heap) : Type 0 where
  pub empty : (k : ℕ) → stack h k ≡ []
  pub none : h.remainder ≡ none32

abbrev pub CalmAt : State → Type 0
CalmAt (state a r bs) = Calm (C.heap_in a r)

-- no cache list has a chunk
abbrev NoCached : Heap → Type 0
NoCached h = (k : ℕ) → k < 64 → cache h k ≡ []

abbrev NoCachedAt : State → Type 0
NoCachedAt (state a r bs) = NoCached (C.heap_in a r)

-- ---- an emptying empties the cache lists, and what may stand between leaves them empty
no-cached : (bs : List Block) (x : C.After) → NoCached (heap_left x) → NoCachedAt (kept bs x)
no-cached bs (C.after a r y) n = n

emptying-empties : (s : State) → ReadyAt s → NoCachedAt (next Emptying s)
unfolding next
emptying-empties (state a r bs) R = no-cached bs (C.emptying_call a r) (emptying-leaves-cache-empty a r R.lent (sound-in a r R.lent R.sound))

joining-keeps : (s : State) → ReadyAt s → NoCachedAt s → NoCachedAt (next Joining s)
unfolding next
joining-keeps (state a r bs) R n =
    no-cached bs (C.joining_call a r) (λ k l. joining-leaves-cache a r R.lent (sound-in a r R.lent R.sound) k l ∙ n k l)

store_keeps : (a r : List ℕ) (bs : List Block) → Ready a r bs → (p v : ℕ) → NoCached (C.heap_in a r) → (t : Bool) → holds? bs p ≡ t
    → NoCachedAt (elim t [ true ↦ state (set a p (v % 256)) r bs | false ↦ state a r bs ])
store_keeps a r bs R p v n true e = subst NoCached (sym (store_view a r bs R p v e)) n
store_keeps a r bs R p v n false e = n

next-keeps : (e : Event) → Between e → (s : State) → ReadyAt s → NoCachedAt s → NoCachedAt (next e s)
unfolding next
next-keeps (Grant m) q s R n = absurd q
next-keeps (Release m) q s R n = absurd q
next-keeps (Resize m k) q s R n = absurd q
next-keeps Emptying q s R n = emptying-empties s R
next-keeps Joining q s R n = joining-keeps s R n
next-keeps (Store p v) q (state a r bs) R n = store_keeps a r bs R p v n (holds? bs p) refl

quiet_keeps : (fs : List Event) → Quiet fs → (s : State) → ReadyAt s → NoCachedAt s → NoCachedAt (run fs s)
unfolding run
quiet_keeps [] q s R n = n
quiet_keeps (e ∷ fs) q s R n = quiet_keeps fs q.1 (next e s) (next-ready e s R) (next-keeps e q.0 s R n)

-- ---- so the joining leaves no list but the bins a chunk
calm : (g : Heap) → Good g → NoCached g → NoFast g → g.remainder ≡ none32 → Calm g
calm g G n f e = record {
  empty = λ k. ⊎_elim
      (λ l. n k l)
      (λ l. ⊎_elim
      (λ m. let e : 64 + (k - 64) ≡ k = omega arith in subst (λ (i : ℕ). stack g i ≡ []) e (f (k - 64) (omega arith)))
      (λ m. get_or-eq_default g.stacks [] (omega (arith, G.shape.stacked74)))
      (lt-or-le k 74))
      (lt-or-le k 64);
  none = e;
}

calm-left : (bs : List Block) (x : C.After) → ReadyAt (kept bs x) → NoCachedAt (kept bs x) → NoFast (heap_left x) → (heap_left x).remainder ≡ none32 → CalmAt (kept bs x)
calm-left bs (C.after a r y) R n f e = calm (C.heap_in a r) R.sound.good n f e

joining-calm : (s : State) → ReadyAt s → NoCachedAt s → CalmAt (next Joining s)
unfolding next
joining-calm (state a r bs) R n =
    let j = joining-leaves-fast-empty a r R.lent (sound-in a r R.lent R.sound) in
    calm-left bs (C.joining_call a r) (next-ready Joining (state a r bs) R) (joining-keeps (state a r bs) R n) j.0 j.1

pub no_stack : (ls : List (List ℕ)) (x : ℕ) → ((k : ℕ) → get_or ls k [] ≡ []) → cnt_all x ls ≡ 0
no_stack [] x e = refl
no_stack (l ∷ ls) x e = omega (arith, ap (cnt x) (e 0), no_stack ls x (λ k. e (suc k)))

calm-mended : (s : State) → ReadyAt s → CalmAt s → MendedAt s
calm-mended (state a r bs) R c = mending a r bs R (λ x. no_stack (C.heap_in a r).stacks x c.empty)

-- ---- in every run
pub run-append : (es fs : List Event) (s : State) → run (es ++ fs) s ≡ run fs (run es s)
unfolding run
run-append [] fs s = refl
run-append (e ∷ es) fs s = run-append es fs (next e s)

-- an emptying after es, and a joining after fs
abbrev pub then_joined : List Event → List Event → List Event
then_joined es fs = es ++ Emptying ∷ (fs ++ Joining ∷ [])

run-joined : (es fs : List Event) (s : State) → run (then_joined es fs) s ≡ next Joining (run fs (next Emptying (run es s)))
unfolding run
run-joined es fs s = run-append es (Emptying ∷ (fs ++ Joining ∷ [])) s ∙ run-append fs (Joining ∷ []) (next Emptying (run es s))

module _ (a r : List ℕ) (q : Choice) (L : Lent a r) (k : Allowed q) (es fs : List Event) (Q : Quiet fs) where
  pub run-calm : CalmAt (run (then_joined es fs) (begin a r q))
  run-calm =
      let s : State = run es (begin a r q) in
      let R = run-ready es (begin a r q) (begin-ready a r q L k) in
      let u : State = next Emptying s in
      let R' : ReadyAt u = next-ready Emptying s R in
      subst CalmAt (sym (run-joined es fs (begin a r q))) (joining-calm (run fs u) (run-ready fs u R') (quiet_keeps fs Q u R' (emptying-empties s R)))

  pub run-mended : MendedAt (run (then_joined es fs) (begin a r q))
  run-mended =
      let s : State = run (then_joined es fs) (begin a r q) in
      calm-mended s (run-ready (then_joined es fs) (begin a r q) (begin-ready a r q L k)) run-calm
