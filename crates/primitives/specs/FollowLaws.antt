-- Steps that were followed one after the other were followed as one; what the record says of the heap. Assumes nothing.
use Rattle.std.specs.Prelude.{◌≡◌, refl, List, [], ℕ, get_or, Option, Some, None}
use Rattle.std.proofs.Common.{sym, ap, ◌∙◌, subst, arith}
use Rattle.sizes.specs.Layout.{length_word, top_word}
use Rattle.machine.specs.Heap.{Heap, top_of, record_of}
use Rattle.machine.specs.Writes.{Write, Ran, ran, heap_of, writes, apply, giving, more, ◌>>=◌, ◌or_else◌}
use Rattle.sound.specs.Relation.{Shape, Mem, Good}
use Rattle.sound.specs.Frames.{apply-append}
use Rattle.sound.specs.Ends.{Ends}
use Rattle.sound.specs.RecordOf.{record-len, record-top}
use Rattle.primitives.specs.Follow.{Ok, Has, Gave}

-- nothing written, and the answer g
pub gave-none : {A : Type 0} (h : Heap) (g : A) (w r : List ℕ) → r ≡ record_of h → Gave A (ran h [] g) g w w r
gave-none h g w r e = record { says = refl; bytes = refl; rec = e }

-- an equal step
pub gave-by : {A : Type 0} {s s' : Ran A} {g : A} {w v q : List ℕ} → s ≡ s' → Gave A s' g w v q → Gave A s g w v q
gave-by {A} {s} {s'} {g} {w} {v} {q} e m = subst (λ (t : Ran A). Gave A t g w v q) (sym e) m

-- one step after the other
pub gave_then : {A B : Type 0} (s : Ran A) (f : Heap → Ran B) (a : A) (b : B) {w v q v' q' : List ℕ} → Gave A s a w v q → Gave B (f (heap_of s)) b v v' q' → Gave B (s >>= f) b w v' q'
gave_then (ran h ws x) f a b {w} {v} {q} {v'} {q'} m n = go (f h) n
  where
    go : (t : Ran _) → Gave _ t b v v' q' → Gave _ (more ws t) b w v' q'
    go (ran g vs y) k = record {
      says = k.says;
      bytes = k.bytes ∙ ap (apply vs) m.bytes ∙ sym (apply-append ws vs w);
      rec = k.rec;
    }

-- what was written before a step, and the step
pub gave-more : {A : Type 0} (ws : List Write) (s : Ran A) (g : A) {w₀ w v q : List ℕ} → w ≡ apply ws w₀ → Gave A s g w v q → Gave A (more ws s) g w₀ v q
gave-more ws (ran h vs a) g {w₀} e m = record { says = m.says; bytes = m.bytes ∙ ap (apply vs) e ∙ sym (apply-append ws vs w₀); rec = m.rec }

-- another answer
pub gave-giving : {A B : Type 0} (s : Ran A) (a : A) (b : B) {w v q : List ℕ} → Gave A s a w v q → Gave B (giving b s) b w v q
gave-giving (ran h ws x) a b m = record { says = refl; bytes = m.bytes; rec = m.rec }

-- a chunk is not nothing
pub got-absurd : {B : Type 0} {c : ℕ} → ◌≡◌ {A = Option ℕ} (Some c) None → B
got-absurd e = let z : ◌≡◌ {A = ℕ} 0 1 = cc in absurd (omega arith)

-- a step of grant that found a chunk; one that found none, and the next
pub gave-took : (s : Ran (Option ℕ)) (f : Heap → Ran (Option ℕ)) (c : ℕ) {w v q : List ℕ} → Gave (Option ℕ) s (Some c) w v q → Gave (Option ℕ) (s or_else f) (Some c) w v q
gave-took (ran h ws (Some d)) f c m = m
gave-took (ran h ws None) f c m = got-absurd (sym m.says)

pub gave-next : (s : Ran (Option ℕ)) (f : Heap → Ran (Option ℕ)) (g : Option ℕ) {w v q v' q' : List ℕ} → Gave (Option ℕ) s None w v q → Gave (Option ℕ) (f (heap_of s)) g v v' q' → Gave (Option ℕ) (s or_else f) g w v' q'
gave-next (ran h ws None) f g m n = gave_then (ran h ws None) f None g m n
gave-next (ran h ws (Some d)) f g m n = got-absurd m.says

-- what a step leaves is the words and the record of its heap
pub gave-ok : {A : Type 0} (s : Ran A) (g : A) {w v q : List ℕ} → Shape (heap_of s) → Mem (heap_of s) (apply (writes s) w) → Gave A s g w v q → Ok (heap_of s) v q
gave-ok s g sh me m = record { shape = sh; mem = subst (Mem (heap_of s)) (sym m.bytes) me; rec = m.rec }

pub gave-good : {A : Type 0} (s : Ran A) (g : A) {w v q : List ℕ} → Ends s w Good → Gave A s g w v q → Has Good v q
gave-good s g e m = record { heap = heap_of s; ok = gave-ok s g e.now.shape e.mem m; holds = e.now }

-- ---- the record's length and top are the heap's
module _ (h : Heap) (w r : List ℕ) (o : Ok h w r) where
  pub ok-len : get_or r length_word 0 ≡ h.len
  ok-len = ap (λ (r : List ℕ). get_or r length_word 0) o.rec ∙ record-len h o.shape.stacked74 o.shape.binned127

  pub ok-top : get_or r top_word 0 ≡ top_of h
  ok-top = ap (λ (r : List ℕ). get_or r top_word 0) o.rec ∙ record-top h o.shape.stacked74 o.shape.binned127
