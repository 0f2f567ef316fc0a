-- A whole step that keeps the words and leaves a heap of which Q holds, and how such steps follow one another. Assumes nothing.
use Rattle.std.specs.Prelude.{◌≡◌, List, ℕ}
use Rattle.std.proofs.Common.{sym, subst}
use Rattle.machine.specs.Heap.{Heap}
use Rattle.machine.specs.Writes.{Write, apply, Ran, heap_of, writes, giving, more, ◌>>=◌, ran}
use Rattle.sound.specs.Relation.{Mem}
use Rattle.sound.specs.Frames.{apply-append}

pub record Ends {A : Type 0} (r : Ran A) (w : List ℕ) (Q : Heap → Type 0) : Type 0 where
  pub mem : Mem (heap_of r) (apply (writes r) w)
  pub now : Q (heap_of r)

pub ends_more : {A : Type 0} (ws : List Write) (r : Ran A) {w : List ℕ} {Q : Heap → Type 0} → Ends r (apply ws w) Q → Ends (more ws r) w Q
ends_more ws (ran h vs a) {w = w} e = record { mem = rw (apply-append ws vs w) e.mem; now = e.now }

pub ends-then : {A B : Type 0} {r : Ran A} (f : Heap → Ran B) {w : List ℕ} {P Q : Heap → Type 0} → Ends r w P
    → ((h : Heap) (v : List ℕ) → Mem h v → P h → Ends (f h) v Q) → Ends (r >>= f) w Q
ends-then {r = ran h ws a} f {w = w} e g = ends_more ws (f h) (g h (apply ws w) e.mem e.now)

pub ends-giving : {A B : Type 0} (b : B) (r : Ran A) {w : List ℕ} {Q : Heap → Type 0} → Ends r w Q → Ends (giving b r) w Q
ends-giving b (ran h ws a) e = record { mem = e.mem; now = e.now }

pub ends_by : {A : Type 0} {r r' : Ran A} {w : List ℕ} {Q : Heap → Type 0} → r ≡ r' → Ends r' w Q → Ends r w Q
ends_by {A} {w = w} {Q = Q} e k = subst (λ (r : Ran A). Ends r w Q) (sym e) k

pub ends-weaken : {A : Type 0} (r : Ran A) (w : List ℕ) (P Q : Heap → Type 0) → ((h : Heap) → P h → Q h) → Ends r w P → Ends r w Q
ends-weaken r w P Q f e = record { mem = e.mem; now = f (heap_of r) e.now }
