-- Resize: from any sound heap and any live block the heap stays sound; every other live block stays as it is; the block answered, or the old one where it is
-- refused, has of the old one's usable words all that it has room for. By the ways through the tests. Assumes nothing.
use Rattle.std.specs.Prelude.{◌≡◌, refl, List, ◌++◌, Bool, true, false, ℕ, ◌+◌, ◌-◌, ◌*◌, ◌/◌, ◌%◌, ◌≤◌, eqb, ltb, leb, get_or, Option, Some, None}
use Rattle.std.proofs.Common.{sym, ap, ◌∙◌, subst, arith, eqb-true, ltb-true, leb-true, leb-false}
use Rattle.machine.specs.Lists.{both}
use Rattle.machine.specs.Count.{ind-same, ind-other}
use Rattle.machine.specs.Heap.{Heap, top_of, top_size, size_of, p_of, next, binned, bin_has}
use Rattle.machine.specs.Writes.{Write, apply, Ran, ran, heap_of, writes, does, giving, more, ◌>>=◌}
use Rattle.machine.specs.Primitives.{unlink, widen, grow_top}
use Rattle.machine.specs.Release.{release}
use Rattle.machine.specs.Grant.{seek}
use Rattle.machine.specs.Resize.{finish, copies, moved, resize}
use Rattle.sound.specs.Relation.{Mem, Loose, Good}
use Rattle.sound.specs.Tiles.{starts-once}
use Rattle.sound.specs.Frames.{apply-append}
use Rattle.sound.specs.Apart.{tiled-tiles}
use Rattle.sound.specs.Spares.{spared}
use Rattle.sound.specs.Moves.{answer_of, nil, one, any, Moved, moved_keeps}
use Rattle.sound.specs.Leaves.{Leaves, leaves-giving, leaves-next, leaves-size, gave, Found}
use Rattle.sound.specs.Release.{both_true, release-leaves}
use Rattle.sound.specs.Grant.{seek-leaves}
use Rattle.sound.specs.Copies.{copies-mem, copies-moved, copied}
use Rattle.sound.specs.Below.{OwnP}
use Rattle.sound.specs.Finish.{InPlace, in-place-next}
use Rattle.sound.specs.Widen.{joined-in-place, stay-in-place, grow-in-place, behind-in-place}

-- ---- where the block is after it: what is answered, or where it was
abbrev pub now_at : ℕ → Option ℕ → ℕ
now_at c (Some d) = d
now_at c None = c

-- k: the heap in which c's size word is written, where c is answered
pub record Resized (c b : ℕ) (k h : Heap) (w : List ℕ) (r : Ran (Option ℕ)) : Type 0 where
  pub leaves : Leaves h w r (Found b h) (λ a x. one (now_at c a) x) (one c)
  pub refused : answer_of r ≡ None → Moved h r (any nil) nil
  pub own : answer_of r ≡ Some c → OwnP c (p_of k c) (heap_of r)
  pub words : (i : ℕ) → 2 ≤ i → i ≤ size_of h c / 8 → i ≤ size_of (heap_of r) (now_at c (answer_of r)) / 8
      → get_or (apply (writes r) w) (now_at c (answer_of r) / 8 + i) 0 ≡ get_or w (c / 8 + i) 0

resized-if : {c b : ℕ} {h : Heap} {w : List ℕ} (t : Bool) {k l : Heap} {x y : Ran (Option ℕ)} → (t ≡ true → Resized c b k h w x) → (t ≡ false → Resized c b l h w y)
    → Resized c b (elim t [ true ↦ k | false ↦ l ]) h w (elim t [ true ↦ x | false ↦ y ])
resized-if true f g = f refl
resized-if false f g = g refl

-- c is answered
here-resized : {A : Type 0} {c b : ℕ} {k h : Heap} {w : List ℕ} (x : Ran A) → InPlace c b (p_of k c) (one c) h w x → Resized c b k h w (giving (Some c) x)
here-resized {c = c} {k = k} {h = h} {w = w} (ran g ws a) I = record {
  leaves = leaves-giving (Some c) I.leaves (λ a x. refl) (λ a g p. p);
  refused = λ e. absurd (let z : ◌≡◌ {A = ℕ} 0 1 = cc in omega arith);
  own = λ e. I.own;
  words = λ i l u v. spared c (8 * i) ws w (c / 8 + i) (I.spare (8 * i) (omega arith) (omega arith)) (omega arith) (omega arith);
}

-- another block is answered
there-resized : {c b d : ℕ} {k h : Heap} {w : List ℕ} (r : Ran (Option ℕ)) → answer_of r ≡ Some d → (d ≡ c → ⊥) → Leaves h w r (Found b h) (λ a x. one (now_at c a) x) (one c)
    → ((i : ℕ) → 2 ≤ i → i ≤ size_of h c / 8 → get_or (apply (writes r) w) (d / 8 + i) 0 ≡ get_or w (c / 8 + i) 0) → Resized c b k h w r
there-resized {c = c} {d = d} {w = w} r e ne l f = record {
  leaves = l;
  refused = λ q. absurd (let z : ◌≡◌ {A = ℕ} 0 1 = cc in omega arith);
  own = λ q. absurd (ne (let z : d ≡ c = cc in z));
  words = λ i j u v. subst (λ (a : Option ℕ). get_or (apply (writes r) w) (now_at c a / 8 + i) 0 ≡ get_or w (c / 8 + i) 0) (sym e) (f i j u);
}

-- ---- what a step does after writes
giving-more : {A B : Type 0} (ws : List Write) (b : B) (r : Ran A) → giving b (more ws r) ≡ more ws (giving b r)
giving-more ws b (ran h vs a) = refl

answer-more : {A B : Type 0} (ws : List Write) (b : B) (r : Ran A) → answer_of (more ws (giving b r)) ≡ b
answer-more ws b (ran h vs a) = refl

apply-more : {A B : Type 0} (ws vs : List Write) (b : B) (r : Ran A) (w : List ℕ)
    → apply (writes (more ws (giving b (more vs r)))) w ≡ apply (writes r) (apply vs (apply ws w))
apply-more ws vs b (ran h us a) w = apply-append ws (vs ++ us) w ∙ apply-append vs us (apply ws w)

-- ---- a block was sought
module _ (h : Heap) (w : List ℕ) (c b : ℕ) (g : Good h) (lc : Loose h c) (b16 : b % 16 ≡ 0) (b32 : 32 ≤ b) (less : size_of h c ≤ b) where
  none_found : (h₁ : Heap) (ws : List Write) → Leaves h w (ran h₁ ws None) (Found b h) gave nil → Resized c b h₁ h w (ran h₁ ws None)
  none_found h₁ ws L = record {
    leaves = record {
      mem = L.mem;
      now = L.now;
      moved = record { count = λ x. omega (arith, L.moved.count x); same = λ x lo z. L.moved.same x lo refl; spare = λ x lo z. L.moved.spare x lo refl; past = L.moved.past };
    };
    refused = λ e. record { count = λ x. omega (arith, L.moved.count x); same = L.moved.same; spare = L.moved.spare; past = L.moved.past };
    own = λ e. absurd (let z : ◌≡◌ {A = ℕ} 0 1 = cc in omega arith);
    words = λ i l u v. spared c (size_of h c) ws w (c / 8 + i) (L.moved.spare c lc refl) (omega arith) (omega arith);
  }

  module _ (h₁ : Heap) (ws : List Write) (d : ℕ) (L : Leaves h w (ran h₁ ws (Some d)) (Found b h) gave nil) where
    -- c is as it was, and d is loose, as it was not before
    pub old-loose : Loose h₁ c
    old-loose = moved_keeps L.moved c lc refl

    pub old-size : size_of h₁ c ≡ size_of h c
    old-size = L.moved.same c lc refl

    pub new-loose : Loose h₁ d
    new-loose = omega (arith, L.moved.count d, ind-same d, g.shape.own d)

    new : (x : ℕ) → Loose h x → one d x ≡ 0
    new x lo = ind-other x d (λ q.
        let s = L.now.0.shape in
        let ld : Loose h d = subst (λ (x : ℕ). Loose h x) q lo in
        omega (arith, L.moved.count d, ind-same d, ld, s.own d, starts-once h₁.tiles 0 d (tiled-tiles h₁ s)))

    pub new_apart : d ≡ c → ⊥
    new_apart q = omega (arith, new c lc, ap (one d) q, ind-same d)

    near : d ≡ c + size_of h c → Resized c b h₁ h w (more ws (giving (Some c) (widen c h₁ >>= (λ g. finish c b g))))
    near e =
        let X : Ran (Unit {0}) = widen c h₁ >>= (λ g. finish c b g) in
        subst (λ (r : Ran (Option ℕ)). Resized c b h₁ h w r) (giving-more ws (Some c) X)
        (here-resized (more ws X)
        (in-place-next {r = ran h₁ ws (Some d)} (λ g. widen c g >>= (λ g. finish c b g)) L.moved (L.moved.spare c lc refl) (omega (arith, old-size))
        (joined-in-place h₁ (apply ws w) c d b L.now.0 L.mem old-loose new-loose (omega (arith, e, old-size)) b16 b32 L.now.1)
        (λ x. omega arith) (λ x lo z. (refl, omega (arith, new x lo)))))

    far : Resized c b h₁ h w (more ws (giving (Some d) (does h₁ (copies d c (size_of h₁ c / 8 - 1)) >>= (λ g. release c g))))
    far =
        let v : List ℕ = apply ws w in
        let room : size_of h₁ c ≤ size_of h₁ d = omega (arith, old-size, L.now.1) in
        let vs : List Write = copies d c (size_of h₁ c / 8 - 1) in
        let out : one c d ≡ 0 = ind-other d c new_apart in
        let R = release-leaves h₁ (apply vs v) c L.now.0 (copies-mem h₁ v c d L.now.0 L.mem old-loose new-loose new_apart room) old-loose in
        let f : Heap → Ran (Option ℕ) = λ g. giving (Some d) (does g vs >>= (λ g. release c g)) in
        there-resized (more ws (f h₁)) (answer-more ws (Some d) (does h₁ vs >>= (λ g. release c g))) new_apart
        (leaves-next f {i₂ = λ a x. one (now_at c a) x} L.moved
        (leaves-giving (Some d)
        (leaves-next (λ g. release c g) {i = any (one d)} {o = λ x. one d x + one c x} (copies-moved h₁ v c d L.now.0 L.mem old-loose new-loose new_apart room)
        (leaves-size d new-loose out R) (λ b x. omega arith) (λ x lo z. (omega arith, omega arith)))
        (λ a x. refl) (λ a g p. (p.0, omega (arith, p.1, L.now.1))))
        (λ a x. omega arith) (λ x lo z. (refl, omega (arith, new x lo))))
        (λ i l u.
        ap (λ (m : List ℕ). get_or m (d / 8 + i) 0) (apply-more ws vs (Some d) (release c h₁) w)
        ∙ spared d (size_of h₁ d) (writes (release c h₁)) (apply vs v) (d / 8 + i) (R.moved.spare d new-loose out) (omega arith) (omega (arith, old-size))
        ∙ copied h₁ v c d L.now.0 L.mem old-loose new-loose new_apart room i l (omega (arith, old-size))
        ∙ spared c (size_of h c) ws w (c / 8 + i) (L.moved.spare c lc refl) (omega arith) (omega arith))

  sought : (r : Ran (Option ℕ)) → Leaves h w r (Found b h) gave nil → Resized c b (heap_of r) h w (moved c b (size_of h c) r)
  sought (ran h₁ ws None) L = none_found h₁ ws L
  sought (ran h₁ ws (Some d)) L = go (eqb d (c + size_of h c)) refl
    where
      go : (t : Bool) → eqb d (c + size_of h c) ≡ t → Resized c b h₁ h w (more ws (elim t [
        | true ↦ giving (Some c) (widen c h₁ >>= (λ g. finish c b g))
        | false ↦ giving (Some d) (does h₁ (copies d c (size_of h c / 8 - 1)) >>= (λ g. release c g))
      ]))
      go true e = near h₁ ws d L (eqb-true d (c + size_of h c) e)
      go false e = subst (λ (z : ℕ). Resized c b h₁ h w (more ws (giving (Some d) (does h₁ (copies d c (z / 8 - 1)) >>= (λ g. release c g))))) (old-size h₁ ws d L)
          (far h₁ ws d L)

-- ---- the heap in which a block that is not moved gets its size: as it is, or as the steps left it that sought another
abbrev pub standing : ℕ → ℕ → Heap → Heap
standing c b h = elim (leb b (size_of h c)) [
  | true ↦ h
  | false ↦ elim (both (eqb (next h c) (top_of h)) (leb (b + 32) (size_of h c + top_size h))) [
    | true ↦ h
    | false ↦ elim (both (ltb 0 (binned h (next h c))) (leb b (size_of h c + size_of h (next h c)))) [ true ↦ h | false ↦ heap_of (seek b h) ]
  ]
]

-- ---- the whole of it
pub resize-resized : (h : Heap) (w : List ℕ) (c b : ℕ) → Good h → Mem h w → Loose h c → b % 16 ≡ 0 → 32 ≤ b
    → Resized c b (standing c b h) h w (resize c b h)
unfolding resize
resize-resized h w c b g k lc b16 b32 = resized-if (leb b (size_of h c))
    (λ e. here-resized (finish c b h) (stay-in-place h w c b g k lc b16 b32 (leb-true b (size_of h c) e)))
    (λ e.
    let less : size_of h c ≤ b = omega (arith, leb-false b (size_of h c) e) in
    resized-if (both (eqb (next h c) (top_of h)) (leb (b + 32) (size_of h c + top_size h)))
    (λ e.
    let t = both_true (eqb (next h c) (top_of h)) (leb (b + 32) (size_of h c + top_size h)) e in
    here-resized (grow_top c b h)
    (grow-in-place h w c b g k lc b16 b32 (eqb-true (next h c) (top_of h) t.0) less (leb-true (b + 32) (size_of h c + top_size h) t.1)))
    (λ e. resized-if (both (ltb 0 (binned h (next h c))) (leb b (size_of h c + size_of h (next h c))))
    (λ e.
    let t = both_true (ltb 0 (binned h (next h c))) (leb b (size_of h c + size_of h (next h c))) e in
    here-resized (unlink (bin_has h (next h c)) (next h c) h >>= (λ g. widen c g >>= (λ g. finish c b g)))
    (behind-in-place h w c b g k lc b16 b32 (ltb-true 0 (binned h (next h c)) t.0) (leb-true b (size_of h c + size_of h (next h c)) t.1)))
    (λ e. sought h w c b g lc b16 b32 less (seek b h) (seek-leaves b b16 b32 h w g k))))
