-- What it is for code to follow a step of the machine: on words and record that spell a heap, it leaves the words that the step's writes make of them
-- and the record of the step's heap, and answers as the step does. Definitions only.
use Rattle.std.specs.Prelude.{◌≡◌, List, ℕ}
use Rattle.machine.specs.Heap.{Heap, record_of}
use Rattle.machine.specs.Writes.{Ran, ran, heap_of, writes, apply}
use Rattle.sound.specs.Relation.{Shape, Mem}

-- words w and record r are those of h: what holds inside a step as well
pub record Ok (h : Heap) (w r : List ℕ) : Type 0 where
  pub shape : Shape h
  pub mem : Mem h w
  pub rec : r ≡ record_of h

-- a `requires`: some heap has these words and this record, and P holds of it
pub record Has (P : Heap → Type 0) (w r : List ℕ) : Type 0 where
  pub heap : Heap
  pub ok : Ok heap w r
  pub holds : P heap

abbrev pub answer : {A : Type 0} → Ran A → A
answer (ran h ws a) = a

-- from words w the step s was followed: the answer g, the words v and the record q
pub record Gave (A : Type 0) (s : Ran A) (g : A) (w v q : List ℕ) : Type 0 where
  pub says : answer s ≡ g
  pub bytes : v ≡ apply (writes s) w
  pub rec : q ≡ record_of (heap_of s)

-- an `ensures`: the step f was followed, whichever heap it was of which P holds
pub record Does (A : Type 0) (P : Heap → Type 0) (f : Heap → Ran A) (w r : List ℕ) (g : A) (v q : List ℕ) : Type 0 where
  pub does : (h : Heap) → Ok h w r → P h → Gave A (f h) g w v q
