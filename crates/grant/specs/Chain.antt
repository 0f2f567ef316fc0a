-- Steps in a row: a step of grant and the next where it found nothing, a step and another after it. What follows the parts follows the whole, where the parts
-- keep a sound heap. Assumes nothing.
use Rattle.std.specs.Prelude.{◌≡◌, List, ℕ, Option, Some, None}
use Rattle.std.proofs.Common.{subst}
use Rattle.machine.specs.Heap.{Heap}
use Rattle.machine.specs.Writes.{Ran, ran, apply, heap_of, ◌>>=◌, ◌or_else◌}
use Rattle.sound.specs.Relation.{Mem, Good}
use Rattle.sound.specs.Ends.{Ends, ends_more}
use Rattle.sound.specs.Moves.{nil}
use Rattle.sound.specs.Leaves.{Leaves, gave, Found}
use Rattle.primitives.specs.Follow.{Ok, Has, Gave, Does}
use Rattle.primitives.specs.FollowLaws.{gave-by, gave_then, gave-took, gave-next, gave-ok, gave-good}

unfoldable pub in_turn : {A B : Type 0} → (Heap → Ran A) → (Heap → Ran B) → Heap → Ran B
in_turn f e h = f h >>= e

unfoldable pub else : (Heap → Ran (Option ℕ)) → (Heap → Ran (Option ℕ)) → Heap → Ran (Option ℕ)
else f e h = f h or_else e

-- ---- a step that keeps a sound heap
pub record Keeps (A : Type 0) (f : Heap → Ran A) : Type 0 where
  pub ends : (h : Heap) (w : List ℕ) → Good h → Mem h w → Ends (f h) w Good

found-ends : {b : ℕ} {h : Heap} {w : List ℕ} (s : Ran (Option ℕ)) → Leaves h w s (Found b h) gave nil → Ends s w Good
found-ends (ran n ws (Some c)) l = record { mem = l.mem; now = l.now.0 }
found-ends (ran n ws None) l = record { mem = l.mem; now = l.now.0 }

pub keeps-found : (b : ℕ) (f : Heap → Ran (Option ℕ)) → ((h : Heap) (w : List ℕ) → Good h → Mem h w → Leaves h w (f h) (Found b h) gave nil) → Keeps (Option ℕ) f
keeps-found b f l = record { ends = λ h w g m. found-ends (f h) (l h w g m) }

else-ends : (s : Ran (Option ℕ)) (e : Heap → Ran (Option ℕ)) (w : List ℕ) → Ends s w Good → ((h : Heap) (v : List ℕ) → Good h → Mem h v → Ends (e h) v Good) → Ends (s or_else e) w Good
else-ends (ran h ws (Some c)) e w k l = k
else-ends (ran h ws None) e w k l = ends_more ws (e h) (l h (apply ws w) k.now k.mem)

pub keeps-else : {f e : Heap → Ran (Option ℕ)} → Keeps (Option ℕ) f → Keeps (Option ℕ) e → Keeps (Option ℕ) (else f e)
unfolding else
keeps-else {f} {e} k l = record { ends = λ h w g m. else-ends (f h) e w (k.ends h w g m) l.ends }

module _ {A : Type 0} {f : Heap → Ran A} {w r : List ℕ} {a : A} {v q : List ℕ} (K : Keeps A f) (d : Does A Good f w r a v q) where
  pub after : Has Good w r → Has Good v q
  after H = gave-good (f H.heap) a (K.ends H.heap w H.holds H.ok.mem) (d.does H.heap H.ok H.holds)

  after-ok : (h : Heap) → Ok h w r → Good h → Ok (heap_of (f h)) v q
  after-ok h o g = let E = K.ends h w g o.mem in gave-ok (f h) a E.now.shape E.mem (d.does h o g)

-- ---- the same step by another name
pub does-by : {A : Type 0} {f e : Heap → Ran A} {w r : List ℕ} {a : A} {v q : List ℕ} → ((h : Heap) → f h ≡ e h) → Does A Good e w r a v q → Does A Good f w r a v q
does-by s d = record { does = λ h o g. gave-by (s h) (d.does h o g) }

-- ---- one after the other
pub then : {A B : Type 0} {f : Heap → Ran A} {e : Heap → Ran B} {w r : List ℕ} {a : A} {v q : List ℕ} {b : B} {u p : List ℕ}
    → Keeps A f → Does A Good f w r a v q → Does B Good e v q b u p → Does B Good (in_turn f e) w r b u p
unfolding in_turn
then {f = f} {e = e} {w = w} {a = a} {b = b} K d n = record {
  does = λ h o g. gave_then (f h) e a b (d.does h o g) (n.does (heap_of (f h)) (after-ok K d h o g) (K.ends h w g o.mem).now);
}

-- ---- a step that found a chunk; one that found none, and the next
pub took : {f : Heap → Ran (Option ℕ)} (e : Heap → Ran (Option ℕ)) {w r : List ℕ} {a : Option ℕ} {c : ℕ} {v q : List ℕ} → Does (Option ℕ) Good f w r a v q → a ≡ Some c → Does (Option ℕ) Good (else f e) w r (Some c) v q
unfolding else
took {f} e {w = w} {c = c} {v = v} {q = q} d x = record { does = λ h o g. gave-took (f h) e c (subst (λ (a : Option ℕ). Gave (Option ℕ) (f h) a w v q) x (d.does h o g)) }

pub next : {f e : Heap → Ran (Option ℕ)} {w r : List ℕ} {a : Option ℕ} {v q : List ℕ} {b : Option ℕ} {u p : List ℕ}
    → Keeps (Option ℕ) f → Does (Option ℕ) Good f w r a v q → a ≡ None → Does (Option ℕ) Good e v q b u p → Does (Option ℕ) Good (else f e) w r b u p
unfolding else
next {f} {e} {w} {r} {a} {v} {q} {b} K d x n = record {
  does = λ h o g.
      gave-next (f h) e b (subst (λ (a : Option ℕ). Gave (Option ℕ) (f h) a w v q) x (d.does h o g)) (n.does (heap_of (f h)) (after-ok K d h o g) (K.ends h w g o.mem).now);
}
