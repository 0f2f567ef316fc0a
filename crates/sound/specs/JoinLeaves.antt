-- A join as a whole: from any sound heap and any loose chunk the heap stays sound, the chunk alone goes from the loose ones, and every stack and the last
-- remainder are as they were. Assumes nothing.
use Rattle.std.specs.Prelude.{◌≡◌, refl, List, [], Bool, true, false, ℕ, eqb, get_or}
use Rattle.std.proofs.Common.{ap, ◌∙◌}
use Rattle.machine.specs.Heap.{Heap, top_of, p_of, next, before, binned}
use Rattle.machine.specs.Writes.{Ran, heap_of, more, ◌>>=◌, ran}
use Rattle.machine.specs.Release.{absorb, join_next, put_down, join}
use Rattle.sound.specs.Relation.{Mem, Loose, Good}
use Rattle.sound.specs.Join.{join-ends}
use Rattle.sound.specs.Moves.{nil, one, any}
use Rattle.sound.specs.JoinMoves.{join-moved}
use Rattle.sound.specs.Leaves.{Leaves, Still}

-- ---- a join changes no stack, and not the last remainder
record Same {A : Type 0} (h : Heap) (r : Ran A) : Type 0 where
  stacks : (heap_of r).stacks ≡ h.stacks
  remainder : (heap_of r).remainder ≡ h.remainder

same_if : {A : Type 0} {h : Heap} (t : Bool) {x y : Ran A} → Same h x → Same h y → Same {A = A} h (elim t [ true ↦ x | false ↦ y ])
same_if true p q = p
same_if false p q = q

same_then : {A B : Type 0} {h : Heap} {r : Ran A} (f : Heap → Ran B) → Same h r → ((g : Heap) → Same g (f g)) → Same h (r >>= f)
same_then {A} {B} {h} {r = ran g ws a} f s k = go (f g) (k g)
  where
    go : (r : Ran B) → Same g r → Same h (more ws r)
    go (ran l vs b) t = record { stacks = t.stacks ∙ s.stacks; remainder = t.remainder ∙ s.remainder }

next-same : (c : ℕ) (h : Heap) → Same h (join_next c h)
unfolding join_next absorb
next-same c h = same_if (eqb (binned h (next h c)) 0) (record { stacks = refl; remainder = refl }) (record { stacks = refl; remainder = refl })

down-same : (c : ℕ) (h : Heap) → Same h (put_down c h)
unfolding put_down
down-same c h = same_if (eqb (next h c) (top_of h)) (record { stacks = refl; remainder = refl }) (record { stacks = refl; remainder = refl })

join-same : (c : ℕ) (h : Heap) → Same h (join c h)
unfolding join absorb
join-same c h = same_if (eqb (p_of h c) 0)
    (same_then {r = absorb (before h c) (before h c) h} (λ h₁. join_next (before h c) h₁ >>= (λ h₂. put_down (before h c) h₂))
    (record { stacks = refl; remainder = refl }) (rest (before h c)))
    (rest c h)
  where
    rest : (q : ℕ) (g : Heap) → Same g (join_next q g >>= (λ h₂. put_down q h₂))
    rest q g = same_then (λ h₂. put_down q h₂) (next-same q g) (down-same q)

-- every stack
abbrev pub Every : ℕ → Type 0
Every k = Unit {0}

pub join-leaves : (h : Heap) (w : List ℕ) (c : ℕ) → Good h → Mem h w → Loose h c → Leaves h w (join c h) (λ a g. Good g × Still Every h g) (any nil) (one c)
join-leaves h w c g m lo =
    let E = join-ends h w c g m lo in
    let S = join-same c h in
    record {
      mem = E.mem;
      now = (E.now, record { lists = λ k i. ap (λ (ls : List (List ℕ)). get_or ls k []) S.stacks; remainder = S.remainder });
      moved = join-moved h w c g m lo;
    }
