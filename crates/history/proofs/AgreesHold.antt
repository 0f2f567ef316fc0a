-- What agrees of two histories with the same events holds wherever the heaps are alike, by any relation that every step keeps (Alike): the answers and the blocks are the
-- same, and so are the bytes that holders have written (WrittenSame). Of runs, and of what was performed by the exported calls. Assumes nothing.
use Rattle.std.specs.Prelude.{◌≡◌, ℕ}
use Rattle.std.proofs.Math.Path.{sym, ap}
use Rattle.std.proofs.Common.{◌∙◌}
use mathlib.Core.List.{List, [], ◌∷◌, map}
use Rattle.std.proofs.Math.ListN.{get_or}
use Rattle.le.specs.Number.{bytes}
use Rattle.machine.specs.Heap.{Heap, record_of}
use Rattle.machine.specs.Calls.{answer_numbers}
use Rattle.machine.specs.declared.HeapAnswer.{HeapAnswer}
use Rattle.sound.specs.Relation.{Good}
use Rattle.history.specs.Histories.{Event, State, state, heap_at, arena_in, record_in, blocks_in, next, run, numbers}
use Rattle.history.specs.Performed.{Did}
use Rattle.history.specs.Agrees.{still, stored, written, Agrees, AgreesPerformed}
use Rattle.history.specs.Ready.{ReadyAt}
use Rattle.history.proofs.Runs.{next-ready, run-ready}
use Rattle.history.proofs.PerformedRuns.{did-run, did-numbers}
use Rattle.history.proofs.Alike.{Steady, Alike, Always, alike-heaps, alike-blocks, next-alike, run-alike, answers-alike}
use Rattle.history.proofs.WrittenSame.{AllSame, all_same, event-same}
use Rattle.history.proofs.RecordBytes.{record-bytes}

good-at : (s : State) → ReadyAt s → Good (heap_at s)
good-at (state a r bs) R = R.sound.good

-- but: what is looked at of a record
module _ (Q : Heap → Heap → Type 0) (M : Event → Heap → Heap → Type 0) (K : Steady Q M) (but : List ℕ → List ℕ)
    (seen : (h g : Heap) → Good h → Good g → Q h g → but (bytes 4 (record_of h)) ≡ but (bytes 4 (record_of g))) where
  written_same : (es : List Event) (s t : State) → Always M es s t → Alike Q s t → ReadyAt s → ReadyAt t → (ps : List ℕ) → AllSame ps s t
      → AllSame (written es s ps) (run es s) (run es t)
  unfolding written run
  written_same [] s t i k R R' ps A = A
  written_same (e ∷ es) s t i k R R' ps A =
      let o = next-alike Q M K e s t i.0 k R R' in
      written_same es (next e s) (next e t) i.1 o.1 (next-ready e s R) (next-ready e t R') (still (blocks_in (next e s)) (stored e s ps))
      (event-same e s t R R' o.0 (alike-blocks Q s t k) (alike-blocks Q (next e s) (next e t) o.1) ps A)

  pub alike-agrees : (es : List Event) (s t : State) → Always M es s t → Alike Q s t → ReadyAt s → ReadyAt t → Agrees but es s t
  alike-agrees es s t i k R R' =
      let s' : State = run es s in
      let t' : State = run es t in
      let o : Alike Q s' t' = run-alike Q M K es s t i k R R' in
      let S : ReadyAt s' = run-ready es s R in
      let T : ReadyAt t' = run-ready es t R' in
      record {
        told = answers-alike Q M K es s t i k R R';
        records = ap but (record-bytes s' S) ∙ seen (heap_at s') (heap_at t') (good-at s' S) (good-at t' T) (alike-heaps Q s' t' o) ∙ ap but (sym (record-bytes t' T));
        blocks = alike-blocks Q s' t' o;
        bytes = λ p l. all_same (written es s []) s' t' (written_same es s t i k R R' [] tt) p l;
      }

  pub alike-performed : (es : List Event) (s s' : State) → Always M es s s' → Alike Q s s' → ReadyAt s → ReadyAt s'
      → (xs ys : List HeapAnswer) (t u : State) → Did s es xs t → Did s' es ys u → AgreesPerformed but es s xs ys t u
  unfolding numbers
  alike-performed es s s' i k R R' xs ys t u D D' =
      let A : Agrees but es s s' = alike-agrees es s s' i k R R' in
      let d : run es s ≡ t = did-run R D in
      let d' : run es s' ≡ u = did-run R' D' in
      record {
        told = sym (did-numbers R D) ∙ ap (map answer_numbers) A.told ∙ did-numbers R' D';
        records = ap (λ (x : State). but (record_in x)) (sym d) ∙ A.records ∙ ap (λ (x : State). but (record_in x)) d';
        blocks = ap blocks_in (sym d) ∙ A.blocks ∙ ap blocks_in d';
        bytes = λ p l. ap (λ (x : State). get_or (arena_in x) p 0) (sym d) ∙ A.bytes p l ∙ ap (λ (x : State). get_or (arena_in x) p 0) d';
      }
