-- A bigger arena changes nothing, whatever the two keys and editions are: two heaps equal but for the length and what was chosen are an instance of the relation that
-- every step keeps (Alike). Assumes nothing.
use Rattle.std.specs.Prelude.{◌≡◌, refl, List, false, ℕ, ◌-◌, ◌≤◌, ◌<◌, length}
use Rattle.std.proofs.Common.{sym, ap, ◌∙◌, subst, arith}
use Rattle.sizes.specs.Sizes.{need}
use Rattle.machine.specs.Heap.{Heap, live?, opened}
use Rattle.machine.specs.Writes.{heap_of}
use Rattle.machine.specs.Release.{release, emptying, joining}
use Rattle.machine.specs.Grant.{grant}
use Rattle.machine.specs.declared.HeapAnswer.{HeapAnswer}
use Rattle.calls_consequences.specs.Results.{Lent}
use Rattle.history.specs.Histories.{Event, State, heap_at, Choice, Allowed, begin}
use Rattle.history.specs.Performed.{Began, Did}
use Rattle.history.specs.Agrees.{but_given, Agrees, AgreesPerformed}
use Rattle.history.proofs.PerformedRuns.{began-is, began-ready}
use Rattle.history.proofs.Runs.{begin-ready}
use Rattle.history.proofs.Alike.{said, said-like, Steady, Alike, alike_of, Always}
use Rattle.history.proofs.RecordBytes.{records-given}
use Rattle.history.proofs.AgreesHold.{alike-agrees, alike-performed}
use Rattle.history.proofs.Emptied.{begin-opened, begin-blocks}
use Rattle.history.specs.Like.{Given, given, with_given, answer, Like, up_to9, short?, Few, up_to9-len, grant-like, release-kin, emptying-kin, joining-like}
use Rattle.history.specs.Bigger.{Premise}

-- ---- equal but for the length and what was chosen, the first the shorter
pub record Longer (h g : Heap) : Type 0 where
  pub same : g ≡ with_given (λ o. given g) h
  pub least : h.len ≤ g.len

longer : (o : Given) (h g : Heap) → g ≡ with_given (λ x. o) h → h.len ≤ o.len → Longer h g
longer o h g e l =
    let k : given g ≡ o = ap given e in
    record { same = e ∙ ap (λ (x : Given). with_given (λ y. x) h) (sym k); least = omega (arith, l, ap (λ (x : Given). x.len) k) }

-- ---- every step keeps it, and no step changes a length
module _ (h g : Heap) (L : Longer h g) where
  -- what was given to the longer one, and to the first itself
  abbrev to : Given → Given
  to o = given g

  abbrev own : Given → Given
  own o = given h

  module _ (b : ℕ) (s : short? b (up_to9 b h) ≡ false) where
    granted-like : Like to (grant b h) (grant b g)
    granted-like = subst (λ (k : Heap). Like to (grant b h) (grant b k)) (sym L.same) (grant-like to b h (omega (arith, up_to9-len b h, L.least)) s)

    granted-len : (heap_of (grant b h)).len ≡ h.len
    granted-len = ap (λ (x : Heap). x.len) (grant-like own b h (omega (arith, up_to9-len b h)) s).heap

    pub granted-longer : Longer (heap_of (grant b h)) (heap_of (grant b g))
    granted-longer = longer (given g) (heap_of (grant b h)) (heap_of (grant b g)) granted-like.heap (omega (arith, granted-len, L.least))

    pub granted-said : said (grant b h) ≡ said (grant b g)
    granted-said = said-like to (grant b h) (grant b g) granted-like

  pub released-longer : (c : ℕ) → answer (release c h) < 65536 → answer (release c g) < 65536 → Longer (heap_of (release c h)) (heap_of (release c g))
  released-longer c l k =
      let e : heap_of (release c g) ≡ with_given to (heap_of (release c h)) =
      ap (λ (x : Heap). heap_of (release c x)) L.same ∙ release-kin to c h l (subst (λ (x : Heap). answer (release c x) < 65536) L.same k) in
      longer (given g) (heap_of (release c h)) (heap_of (release c g)) e (omega (arith, ap (λ (x : Heap). x.len) (release-kin own c h l l), L.least))

  pub emptied-longer : Few h → Few g → Longer (heap_of (emptying h)) (heap_of (emptying g))
  emptied-longer l k =
      let e : heap_of (emptying g) ≡ with_given to (heap_of (emptying h)) = ap (λ (x : Heap). heap_of (emptying x)) L.same ∙ emptying-kin to h l (subst Few L.same k) in
      longer (given g) (heap_of (emptying h)) (heap_of (emptying g)) e (omega (arith, ap (λ (x : Heap). x.len) (emptying-kin own h l l), L.least))

  pub joined-longer : Longer (heap_of (joining h)) (heap_of (joining g))
  joined-longer =
      let e : heap_of (joining g) ≡ with_given to (heap_of (joining h)) = ap (λ (x : Heap). heap_of (joining x)) L.same ∙ (joining-like to h).heap in
      longer (given g) (heap_of (joining h)) (heap_of (joining g)) e (omega (arith, ap (λ (x : Heap). x.len) (joining-like own h).heap, L.least))

pub longer-steady : Steady Longer Premise
longer-steady = record {
  live = λ h g G G' L c. ap (λ (k : Heap). live? k c) (sym L.same);
  answer = λ h g G G' L m l i. granted-said h g L (need m) (i l);
  grants = λ h g G G' L m l i. granted-longer h g L (need m) (i l);
  releases = λ h g G G' L m i v. released-longer h g L (m - 16) (i v).0 (i v).1;
  resized = λ h g G G' L m k i v. absurd i;
  resizes = λ h g G G' L m k i v. absurd i;
  nulls = λ h g m i. absurd i;
  zeros = λ h g m i. absurd i;
  empties = λ h g G G' L i. emptied-longer h g L i.0 i.1;
  joins = λ h g G G' L i. joined-longer h g L;
}

-- ---- two newly opened arenas
opened-longer : (m n : ℕ) (q q' : Choice) → m ≤ n → Longer (opened m q.key q.edition) (opened n q'.key q'.edition)
opened-longer m n q q' l = record { same = refl; least = l }

module _ (a r a' r' : List ℕ) (q q' : Choice) (L : Lent a r) (L' : Lent a' r') (k : Allowed q) (k' : Allowed q') (less : length a ≤ length a') where
  first : Alike Longer (begin a r q) (begin a' r' q')
  first = alike_of Longer (begin a r q) (begin a' r' q')
      (subst (λ (h : Heap). Longer h (heap_at (begin a' r' q'))) (sym (begin-opened a r q L k))
      (subst (λ (g : Heap). Longer (opened (length a) q.key q.edition) g) (sym (begin-opened a' r' q' L' k')) (opened-longer (length a) (length a') q q' less)))
      (begin-blocks a r q L k ∙ sym (begin-blocks a' r' q' L' k'))

  -- ---- the theorem, of the calls on bytes
  pub bigger-agrees : (es : List Event) → Always Premise es (begin a r q) (begin a' r' q') → Agrees but_given es (begin a r q) (begin a' r' q')
  bigger-agrees es P =
      alike-agrees Longer Premise longer-steady but_given (λ h g G G' L. records-given (λ o. given g) h g G G' L.same) es (begin a r q) (begin a' r' q') P first
      (begin-ready a r q L k) (begin-ready a' r' q' L' k')

  -- ---- and of the exported calls
  pub bigger-performed : (x x' : HeapAnswer) (s s' : State) → Began a r q x s → Began a' r' q' x' s' → (es : List Event) → Always Premise es s s'
      → (xs ys : List HeapAnswer) (t u : State) → Did s es xs t → Did s' es ys u → AgreesPerformed but_given es s xs ys t u
  bigger-performed x x' s s' B B' es P xs ys t u D D' =
      alike-performed Longer Premise longer-steady but_given (λ h g G G' L. records-given (λ o. given g) h g G G' L.same) es s s' P
      (subst (λ (z : State). Alike Longer z s') (sym (began-is B)) (subst (λ (z : State). Alike Longer (begin a r q) z) (sym (began-is B')) first))
      (began-ready L k B) (began-ready L' k' B') xs ys t u D D'
