-- A whole step as it leaves things: the words are the heap's, Q holds of answer and heap, and the loose chunks moved by counts. How such steps follow
-- one another, also where the second waits on the first's answer. Assumes nothing.
use Rattle.std.specs.Prelude.{◌≡◌, refl, List, [], Bool, true, false, ℕ, ◌+◌, ◌≤◌, ◌<◌, Option, Some, None}
use Rattle.std.proofs.Common.{sym, ◌∙◌, subst, arith}
use Rattle.machine.specs.Heap.{Heap, stack, size_of}
use Rattle.machine.specs.Writes.{apply, Ran, heap_of, writes, giving, more, ◌>>=◌, nothing, ◌or_else◌, ran}
use Rattle.sound.specs.Relation.{Mem, Loose, Good}
use Rattle.sound.specs.Frames.{apply-append}
use Rattle.sound.specs.Ends.{Ends}
use Rattle.sound.specs.Moves.{answer_of, nil, one, any, Moved, moved_more, moved-giving, moved_none}

pub record Leaves {A : Type 0} (h : Heap) (w : List ℕ) (r : Ran A) (Q : A → Heap → Type 0) (i : A → ℕ → ℕ) (o : ℕ → ℕ) : Type 0 where
  pub mem : Mem (heap_of r) (apply (writes r) w)
  pub now : Q (answer_of r) (heap_of r)
  pub moved : Moved h r i o

pub leaves_of : {A : Type 0} {h : Heap} {w : List ℕ} {r : Ran A} {Q : Heap → Type 0} {i : A → ℕ → ℕ} {o : ℕ → ℕ} → Ends r w Q → Moved h r i o
    → Leaves h w r (λ a g. Q g) i o
leaves_of e m = record { mem = e.mem; now = e.now; moved = m }

pub leaves-ends : {A : Type 0} {h : Heap} {w : List ℕ} {r : Ran A} {P : A → Heap → Type 0} {Q : Heap → Type 0} {i : A → ℕ → ℕ} {o : ℕ → ℕ}
    → Leaves h w r P i o → ((a : A) (g : Heap) → P a g → Q g) → Ends r w Q
leaves-ends {r = r} l f = record { mem = l.mem; now = f (answer_of r) (heap_of r) l.now }

pub leaves-weaken : {A : Type 0} {h : Heap} {w : List ℕ} {r : Ran A} {P Q : A → Heap → Type 0} {i : A → ℕ → ℕ} {o : ℕ → ℕ}
    → Leaves h w r P i o → ((a : A) (g : Heap) → P a g → Q a g) → Leaves h w r Q i o
leaves-weaken {r = r} l f = record { mem = l.mem; now = f (answer_of r) (heap_of r) l.now; moved = l.moved }

pub leaves_by : {A : Type 0} {h : Heap} {w : List ℕ} {r r' : Ran A} {Q : A → Heap → Type 0} {i : A → ℕ → ℕ} {o : ℕ → ℕ} → r ≡ r'
    → Leaves h w r' Q i o → Leaves h w r Q i o
leaves_by {A} {h} {w} {Q = Q} {i = i} {o = o} e l = subst (λ (r : Ran A). Leaves h w r Q i o) (sym e) l

-- by a test; by what was found
pub leaves-if : {A : Type 0} {h : Heap} {w : List ℕ} (t : Bool) {x y : Ran A} {Q : A → Heap → Type 0} {i : A → ℕ → ℕ} {o : ℕ → ℕ}
    → (t ≡ true → Leaves h w x Q i o) → (t ≡ false → Leaves h w y Q i o) → Leaves h w (elim t [ true ↦ x | false ↦ y ]) Q i o
leaves-if true f g = f refl
leaves-if false f g = g refl

pub leaves-got : {A : Type 0} {h : Heap} {w : List ℕ} (t : Option ℕ) {x : ℕ → Ran A} {y : Ran A} {Q : A → Heap → Type 0} {i : A → ℕ → ℕ} {o : ℕ → ℕ}
    → ((c : ℕ) → t ≡ Some c → Leaves h w (x c) Q i o) → (t ≡ None → Leaves h w y Q i o) → Leaves h w (elim t [ Some c ↦ x c | None ↦ y ]) Q i o
leaves-got (Some c) f g = f c refl
leaves-got None f g = g refl

-- nothing is done
pub leaves_none : {A : Type 0} {h : Heap} {w : List ℕ} {a : A} {Q : A → Heap → Type 0} → Mem h w → Q a h → Leaves h w (ran h [] a) Q (any nil) nil
leaves_none {h = h} {a = a} m q = record { mem = m; now = q; moved = moved_none h a }

pub leaves-giving : {A B : Type 0} {h : Heap} {w : List ℕ} (b : B) {r : Ran A} {P : A → Heap → Type 0} {Q : B → Heap → Type 0} {i : A → ℕ → ℕ}
    {j : B → ℕ → ℕ} {o : ℕ → ℕ}
    → Leaves h w r P i o → ((a : A) (x : ℕ) → j b x ≡ i a x) → ((a : A) (g : Heap) → P a g → Q b g) → Leaves h w (giving b r) Q j o
leaves-giving {h = h} b {r = ran g ws a} {i = i} {j = j} {o = o} l e f = record { mem = l.mem; now = f a g l.now; moved = moved-giving b (e a) l.moved }

-- one step, then another: what goes and comes adds up, and no loose chunk that stays goes in between
pub leaves-next : {A B : Type 0} {h : Heap} {w : List ℕ} {r : Ran A} (f : Heap → Ran B) {Q : B → Heap → Type 0}
    {i₁ : A → ℕ → ℕ} {i₂ i : B → ℕ → ℕ} {o₁ o₂ o : ℕ → ℕ} → Moved h r i₁ o₁ → Leaves (heap_of r) (apply (writes r) w) (f (heap_of r)) Q i₂ o₂
    → ((b : B) (x : ℕ) → o₁ x + o₂ x + i b x ≡ o x + i₁ (answer_of r) x + i₂ b x)
    → ((x : ℕ) → Loose h x → o x ≡ 0 → (o₁ x ≡ 0) × (o₂ x ≡ 0)) → Leaves h w (r >>= f) Q i o
leaves-next {A} {B} {h} {w} {r = ran h₁ ws a} f {Q = Q} {i₁ = i₁} {i₂ = i₂} {i = i} {o₁ = o₁} {o₂ = o₂} {o = o} l k e c = go (f h₁) k
  where
    go : (s : Ran B) → Leaves h₁ (apply ws w) s Q i₂ o₂ → Leaves h w (more ws s) Q i o
    go (ran h₂ vs b) n = record { mem = rw (apply-append ws vs w) n.mem; now = n.now; moved = moved_more l n.moved e c }

pub leaves-then : {A B : Type 0} {h : Heap} {w : List ℕ} {r : Ran A} (f : Heap → Ran B) {P : A → Heap → Type 0} {Q : B → Heap → Type 0}
    {i₁ : A → ℕ → ℕ} {i₂ i : B → ℕ → ℕ} {o₁ o₂ o : ℕ → ℕ} → Leaves h w r P i₁ o₁
    → ((g : Heap) (v : List ℕ) → Mem g v → P (answer_of r) g → Leaves g v (f g) Q i₂ o₂)
    → ((b : B) (x : ℕ) → o₁ x + o₂ x + i b x ≡ o x + i₁ (answer_of r) x + i₂ b x)
    → ((x : ℕ) → Loose h x → o x ≡ 0 → (o₁ x ≡ 0) × (o₂ x ≡ 0)) → Leaves h w (r >>= f) Q i o
leaves-then {w = w} {r = r} f l k e c = leaves-next f l.moved (k (heap_of r) (apply (writes r) w) l.mem l.now) e c

-- a loose chunk that does not go keeps its size
pub leaves-size : {A : Type 0} {h : Heap} {w : List ℕ} {r : Ran A} {Q : A → Heap → Type 0} {i : A → ℕ → ℕ} {o : ℕ → ℕ} (c : ℕ) → Loose h c → o c ≡ 0
    → Leaves h w r Q i o → Leaves h w r (λ a g. Q a g × (size_of g c ≡ size_of h c)) i o
leaves-size c lo e l = record { mem = l.mem; now = (l.now, l.moved.same c lo e); moved = l.moved }

-- what stays may be said to go and to come again
pub leaves-widen : {A : Type 0} {h : Heap} {w : List ℕ} {r : Ran A} {Q : A → Heap → Type 0} {i i' : A → ℕ → ℕ} {o o' : ℕ → ℕ} → Leaves h w r Q i o
    → ((a : A) (x : ℕ) → o' x + i a x ≡ o x + i' a x) → ((x : ℕ) → o' x ≡ 0 → o x ≡ 0) → Leaves h w r Q i' o'
leaves-widen {r = r} l e c = record {
  mem = l.mem;
  now = l.now;
  moved = record {
    count = λ x. omega (arith, l.moved.count x, e (answer_of r) x);
    same = λ x lo z. l.moved.same x lo (c x z);
    spare = λ x lo z. l.moved.spare x lo (c x z);
    past = l.moved.past;
  };
}

-- ---- a step of grant: what it gives is new among the loose
abbrev pub gave : Option ℕ → ℕ → ℕ
gave (Some c) x = one c x
gave None x = 0

-- the stacks of M and the last remainder are as they were
pub record Still (M : ℕ → Type 0) (h g : Heap) : Type 0 where
  pub lists : (k : ℕ) → M k → stack g k ≡ stack h k
  pub remainder : g.remainder ≡ h.remainder

abbrev pub Cached : ℕ → Type 0
Cached k = k < 64

-- what a step of grant for b leaves: with a chunk, one of at least b; without, the cache lists and the last remainder as they were
abbrev pub Found : ℕ → Heap → Option ℕ → Heap → Type 0
Found b h (Some c) g = Good g × (b ≤ size_of g c)
Found b h None g = Good g × Still Cached h g

pub still-here : (M : ℕ → Type 0) (h : Heap) → Still M h h
still-here M h = record { lists = λ k i. refl; remainder = refl }

pub still-then : (M : ℕ → Type 0) (h g k : Heap) → Still M h g → Still M g k → Still M h k
still-then M h g k s t = record { lists = λ i m. t.lists i m ∙ s.lists i m; remainder = t.remainder ∙ s.remainder }

found_after : (b : ℕ) (h g : Heap) (a : Option ℕ) (k : Heap) → Still Cached h g → Found b g a k → Found b h a k
found_after b h g (Some c) k s f = f
found_after b h g None k s f = (f.0, still-then Cached h g k s f.1)

pub found-then : {A : Type 0} {b : ℕ} {h : Heap} {w : List ℕ} {r : Ran A} (f : Heap → Ran (Option ℕ)) → Leaves h w r (λ a g. Good g × Still Cached h g) (any nil) nil
    → ((g : Heap) (v : List ℕ) → Good g → Mem g v → Leaves g v (f g) (Found b g) gave nil) → Leaves h w (r >>= f) (Found b h) gave nil
found-then {b = b} {h = h} f l k =
    leaves-then f l (λ g v m p. leaves-weaken (k g v p.0 m) (λ a n q. found_after b h g a n p.1 q)) (λ b x. refl) (λ x lo z. (refl, refl))

pub found-else : {b : ℕ} {h : Heap} {w : List ℕ} {r : Ran (Option ℕ)} (f : Heap → Ran (Option ℕ)) → Leaves h w r (Found b h) gave nil
    → ((g : Heap) (v : List ℕ) → Good g → Mem g v → Leaves g v (f g) (Found b g) gave nil) → Leaves h w (r or_else f) (Found b h) gave nil
found-else {r = ran h₁ ws (Some c)} f l k = l
found-else {b} {h} {w} {r = ran h₁ ws None} f l k =
    leaves-next f l.moved (leaves-weaken (k h₁ (apply ws w) l.now.0 l.mem) (λ a n q. found_after b h h₁ a n l.now.1 q)) (λ b x. refl)
    (λ x lo z. (refl, refl))

pub found_nothing : (b : ℕ) (h : Heap) (w : List ℕ) → Good h → Mem h w → Leaves h w (nothing h) (Found b h) gave nil
found_nothing b h w g m = record {
  mem = m;
  now = (g, still-here Cached h);
  moved =
      record { count = λ x. omega arith; same = λ x lo z. refl; spare = λ x lo z. tt; past = tt };
}
