-- Demand 3, second half: where no block is held after an emptying and its joining, the heap that is read is the opened one with what was chosen at its own open, so all
-- later answers are a new arena's, and so is the record but for what was chosen, whatever bytes the two arenas hold and whatever the new choice is. Assumes nothing.
use Rattle.std.specs.Prelude.{◌≡◌, refl, List, [], ◌∷◌, ◌++◌, ℕ, zero, suc, length, get_or, replicate}
use Rattle.std.proofs.Common.{sym, ap, ◌∙◌, subst, ⊎_elim, arith}
use Rattle.le.specs.Arena.{arena_words}
use Rattle.le.specs.ArenaLaws.{length-arena_words}
use Rattle.sizes.specs.Limits.{none32}
use Rattle.machine.specs.Lists.{cnt}
use Rattle.machine.specs.Count.{cnt-here, cnt-le-all}
use Rattle.machine.specs.Heap.{Tile, tile, Heap, bin, binned, end_from, starts_from, top_size, opened}
use Rattle.machine.specs.Writes.{size, apply}
use Rattle.machine.specs.Calls as C
use Rattle.sound.specs.Relation.{all, flags}
use Rattle.sound.specs.Edits.{snoc-tiles}
use Rattle.history.specs.Histories.{Event, Block, State, state, heap_at, arena_in, blocks_in, kept, run, Choice, Allowed, begin}
use Rattle.calls_consequences.specs.Results.{Lent}
use Rattle.calls_consequences.specs.Written.{written_read}
use Rattle.history.specs.Demand3.{Quiet}
use Rattle.history.specs.Ready.{Ready, ReadyAt}
use Rattle.history.specs.Called.{open_lent}
use Rattle.history.proofs.Runs.{begun, begin-ready, run-ready}
use Rattle.history.proofs.Lengths.{run_length, begin-length}
use Rattle.history.specs.Mending.{last_of, adjacent, start-at}
use Rattle.history.proofs.Calm.{Calm, CalmAt, no_stack, then_joined, run-calm}
use Rattle.history.specs.Agrees.{but_choice, Agrees}
use Rattle.history.specs.Like.{given}
use Rattle.history.specs.Chosen.{with_choice}
use Rattle.history.proofs.Alike.{Alike, alike_of, ButChoice, Any, butchoice-steady, any-always}
use Rattle.history.proofs.RecordBytes.{records-choice}
use Rattle.history.proofs.AgreesHold.{alike-agrees}

-- ---- an emptied heap is the opened one
nothing-in : (l : List ℕ) → ((x : ℕ) → cnt x l ≡ 0) → l ≡ []
nothing-in [] e = refl
nothing-in (y ∷ l) e = absurd (omega (arith, e y, cnt-here y l))

all-empty : (n : ℕ) (ls : List (List ℕ)) → length ls ≡ n → ((k : ℕ) → get_or ls k [] ≡ []) → ls ≡ replicate n []
all-empty zero [] e f = refl
all-empty zero (l ∷ ls) e f = absurd (omega (arith, e))
all-empty (suc n) [] e f = absurd (omega (arith, e))
all-empty (suc n) (l ∷ ls) e f =
    let p : l ≡ [] = f 0 in
    let q : ls ≡ replicate n [] = all-empty n ls (omega (arith, e)) (λ k. f (suc k)) in
    cc

heap_from_parts : Choice → ℕ → List Tile → List (List ℕ) → List (List ℕ) → ℕ → Heap
heap_from_parts q n ts ss bs m = record { len = n; tiles = ts; stacks = ss; bins = bs; remainder = m; key = q.key; edition = q.edition }

heap-same : (h : Heap) (n m : ℕ) (ts : List Tile) (ss bs : List (List ℕ)) → h.len ≡ n → h.tiles ≡ ts → h.stacks ≡ ss → h.bins ≡ bs → h.remainder ≡ m
    → h ≡ record { len = n; tiles = ts; stacks = ss; bins = bs; remainder = m; key = h.key; edition = h.edition }
unfolding heap_from_parts
heap-same h n m ts ss bs a b c d e =
    let q : Choice = (given h).choice in
    ap (λ (x : ℕ). heap_from_parts q x h.tiles h.stacks h.bins h.remainder) a
    ∙ ap (λ (x : List Tile). heap_from_parts q n x h.stacks h.bins h.remainder) b
    ∙ ap (λ (x : List (List ℕ)). heap_from_parts q n ts x h.bins h.remainder) c
    ∙ ap (λ (x : List (List ℕ)). heap_from_parts q n ts ss x h.remainder) d
    ∙ ap (λ (x : ℕ). heap_from_parts q n ts ss bs x) e

module _ (a r : List ℕ) (R : Ready a r []) (c : Calm (C.heap_in a r)) where
  abbrev h : Heap
  h = C.heap_in a r

  -- the last chunk before the top would be in a bin, and touch the top
  no_tile : h.tiles ≡ []
  no_tile = ⊎_elim
      (λ e. e)
      (λ S.
      let T : Tile = tile (top_size h) 1 0 in
      let y : ℕ = end_from 0 S.init in
      let d : all h ≡ S.init ++ S.end ∷ T ∷ [] = ap (λ (l : List Tile). l ++ T ∷ []) S.tiles ∙ snoc-tiles S.init (T ∷ []) S.end in
      let j = adjacent (λ x. binned h x) 0 0 0 S.init S.end T [] (subst (flags (λ x. binned h x) 0 0 0) d R.sound.good.flag) in
      absurd (omega (arith, j.0, start-at h S.init [] S.end S.tiles, R.holds.count y, no_stack h.stacks y c.empty)))
      (last_of h.tiles)

  no-bin : (j : ℕ) → bin h j ≡ []
  no-bin j = nothing-in (bin h j) (λ x. omega (arith, cnt-le-all x h.bins j, R.sound.good.shape.own x, ap (λ (ts : List Tile). cnt x (starts_from 0 ts)) no_tile))

  pub emptied-view : h ≡ opened (length a) h.key h.edition
  emptied-view =
      let s = R.sound.good.shape in
      heap-same h (length a) none32 [] (replicate 74 []) (replicate 127 []) (omega (arith, length-arena_words a, R.lent.even)) no_tile
      (all-empty 74 h.stacks s.stacked74 c.empty) (all-empty 127 h.bins s.binned127 no-bin) c.none

pub calm-opened : (s : State) → ReadyAt s → CalmAt s → blocks_in s ≡ [] → heap_at s ≡ opened (length (arena_in s)) (heap_at s).key (heap_at s).edition
calm-opened (state a r bs) R c e = emptied-view a r (subst (λ (l : List Block). Ready a r l) e R) c

pub begin-opened : (a r : List ℕ) (q : Choice) → Lent a r → Allowed q → heap_at (begin a r q) ≡ opened (length a) q.key q.edition
unfolding begin
begin-opened a r q L k =
    let n : ℕ = length a in
    let o = begun a r q L k in
    ap (λ (x : C.After). heap_at (kept [] x)) (open_lent a r q L k)
    ∙ written_read (opened n q.key q.edition) o.0 (apply (size 0 n 1 ∷ []) (arena_words a)) o.1 (omega arith)

pub begin-blocks : (a r : List ℕ) (q : Choice) → Lent a r → Allowed q → blocks_in (begin a r q) ≡ []
unfolding begin
begin-blocks a r q L k = ap (λ (x : C.After). blocks_in (kept [] x)) (open_lent a r q L k)

-- ---- the theorem: a state that holds no block after an emptying and its joining, against any newly opened arena of that length, with any key and in either edition
module _ (a r : List ℕ) (q : Choice) (L : Lent a r) (k : Allowed q) (es fs : List Event) (Q : Quiet fs) (none : blocks_in (run (then_joined es fs) (begin a r q)) ≡ [])
    (a' r' : List ℕ) (q' : Choice) (L' : Lent a' r') (k' : Allowed q') (same : length a' ≡ length a) where
  abbrev s : State
  s = run (then_joined es fs) (begin a r q)

  abbrev t : State
  t = begin a' r' q'

  ready : ReadyAt s
  ready = run-ready (then_joined es fs) (begin a r q) (begin-ready a r q L k)

  pub emptied-alike : Alike (ButChoice q') (run (then_joined es fs) (begin a r q)) (begin a' r' q')
  emptied-alike =
      let n : length a' ≡ length (arena_in s) = same ∙ sym (run_length (then_joined es fs) (begin a r q) (begin-ready a r q L k) ∙ begin-length a r q L k) in
      alike_of (ButChoice q') s t
      (begin-opened a' r' q' L' k' ∙ ap (λ (m : ℕ). opened m q'.key q'.edition) n ∙ ap (with_choice q') (sym (calm-opened s ready (run-calm a r q L k es fs Q) none)))
      (none ∙ sym (begin-blocks a' r' q' L' k'))

  pub emptied-agrees : (gs : List Event) → Agrees but_choice gs (run (then_joined es fs) (begin a r q)) (begin a' r' q')
  emptied-agrees gs =
      alike-agrees (ButChoice q') Any (butchoice-steady q') but_choice (records-choice q') gs s t (any-always gs s t) emptied-alike ready (begin-ready a' r' q' L' k')
