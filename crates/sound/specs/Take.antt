-- A chunk is taken out of its bin, and given whole or carved: the heap stays sound, the chunk is loose then, and every other loose chunk is as it was.
-- One law (from-bin) for all that is done with a chunk that has just left its bin. Assumes nothing.
use Rattle.std.specs.Prelude.{◌≡◌, refl, List, [], ◌∷◌, ◌++◌, Bool, ℕ, ◌+◌, ◌-◌, ◌%◌, ◌≤◌, ltb, Some}
use Rattle.std.proofs.Common.{sym, ap, ◌∙◌, subst, append_assoc, inl, inr, ⊎_elim, arith, ltb-false}
use Rattle.sizes.specs.Limits.{least_chunk}
use Rattle.machine.specs.Lists.{cnt}
use Rattle.machine.specs.Count.{eq?, ind-same, ind-other, cnt-le-all}
use Rattle.machine.specs.Heap.{Tile, tile, Heap, bin, with_tiles, with_remainder, end_from, starts_from, since, hd_size, starts, size_of, next, total}
use Rattle.machine.specs.Writes.{Write, apply, Ran, heap_of, writes, ◌>>=◌, size, note}
use Rattle.machine.specs.Primitives.{unlink, set_p, set_remainder}
use Rattle.machine.specs.Grant.{take_last, split, carve, step8}
use Rattle.sound.specs.Relation.{tiled, Mem, Loose, Good}
use Rattle.sound.specs.Tiles.{tiled-split, tiled-join, end-append, starts-append, none_out, Place, place}
use Rattle.sound.specs.Apart.{size-at, tiled-tiles}
use Rattle.sound.specs.Lists.{unlink-mem}
use Rattle.sound.specs.Edits.{snoc-end, snoc-tiles, size-next, Kept, note-is, note-kept, cut-is, cut-kept, size-place}
use Rattle.sound.specs.Carve.{Out, Outs, take-out, split-is, mark-ends, split-ends, remainder-good, remainder-mem}
use Rattle.sound.specs.Moves.{nil, one, any, Moved, listed-not, moved_more, moved_by, unlink-moved, link-moved, set-moved, note-moved, cut_moved}
use Rattle.sound.specs.Leaves.{Leaves, leaves_of, leaves-weaken, leaves-if, leaves-giving, leaves-next, leaves-then, leaves-widen, gave, Still, Found}
use Rattle.sound.specs.JoinLeaves.{Every}

-- what is done with c, which has left its bin, says that c goes, and whether it comes again
pub from-bin : {A : Type 0} {h : Heap} {w : List ℕ} (j c : ℕ) (f : Heap → Ran A) {Q : A → Heap → Type 0} {i : A → ℕ → ℕ} → Good h → Mem h w → 1 ≤ cnt c (bin h j)
    → ((a : List Tile) (t u : Tile) (r : List Tile) (v : List ℕ) → c ≡ end_from 0 a → size_of h c ≡ t.size → Out (heap_of (unlink j c h)) a t u r
    → Mem (heap_of (unlink j c h)) v
    → Leaves (heap_of (unlink j c h)) v (f (heap_of (unlink j c h))) Q i (one c))
    → Leaves h w (unlink j c h >>= f) Q i nil
from-bin {h = h} {w = w} j c f g k mc done =
    let s = g.shape in
    let tot : 1 ≤ total c h = omega (arith, cnt-le-all c h.bins j) in
    let P : Place h.tiles 0 c = place h.tiles 0 c (omega (arith, s.own c)) in
    let O : Outs (heap_of (unlink j c h)) P.a P.t = subst (λ (c : ℕ). Outs (heap_of (unlink j c h)) P.a P.t) (sym P.at)
    (take-out h P.a P.t P.z j P.tiles g (subst (λ (c : ℕ). 1 ≤ cnt c (bin h j)) P.at mc)) in
    leaves-next f
    (unlink-moved h j c s mc)
    (done P.a P.t O.u O.z (apply (writes (unlink j c h)) w) P.at (size-place h c s P).0 O.out (unlink-mem h w j c s k mc))
    (λ b x. omega arith) (λ x lo z. (refl, listed-not h x c s lo tot))

module _ (h : Heap) (w : List ℕ) (a r : List Tile) (t u : Tile) (O : Out h a t u r) (k : Mem h w) where
  pub mark-leaves : Leaves h w (set_p (next h (end_from 0 a)) h) (λ b g. Good g × (size_of g (end_from 0 a) ≡ t.size) × Still Every h g) (any nil) nil
  mark-leaves =
      let c : ℕ = end_from 0 a in
      let a₁ : List Tile = a ++ t ∷ [] in
      let e₁ : h.tiles ≡ a₁ ++ u ∷ r = O.tiles ∙ sym (snoc-tiles a (u ∷ r) t) in
      let f : tiled a × tiled (t ∷ u ∷ r) = tiled-split a (t ∷ u ∷ r) (subst tiled O.tiles (tiled-tiles h O.shape)) in
      let en : next h c ≡ end_from 0 a₁ = ap (λ (z : ℕ). c + z) (size-at h a (u ∷ r) t O.tiles f.0) ∙ sym (snoc-end a t) in
      let E = mark-ends h w a r t u 0 O k in
      record {
        mem = E.mem;
        now = (E.now.0, E.now.1, record { lists = λ k i. refl; remainder = refl });
        moved = moved_by (ap (λ (y : ℕ). set_p y h) en) (set-moved h a₁ r u e₁ O.shape);
      }

  split-moved : (n : ℕ) → n % 16 ≡ 0 → 32 ≤ n → n + 32 ≤ t.size → Moved h (split (end_from 0 a) n h) (any (one (end_from 0 a))) (one (end_from 0 a))
  split-moved n n16 n32 nt =
      let c : ℕ = end_from 0 a in
      let s = O.shape in
      let z : ℕ = t.size - n in
      let A₁ : Tile = tile n 1 0 in
      let B₁ : Tile = tile z 1 0 in
      let f : tiled a × tiled (t ∷ u ∷ r) = tiled-split a (t ∷ u ∷ r) (subst tiled O.tiles (tiled-tiles h s)) in
      let sz : size_of h c ≡ t.size = size-at h a (u ∷ r) t O.tiles f.0 in
      let ts₁ : List Tile = a ++ A₁ ∷ B₁ ∷ u ∷ r in
      let h₁ : Heap = with_tiles ts₁ h in
      let ws : List Write = size c n 1 ∷ size (c + n) z 1 ∷ [] in
      let K₁ : Kept h ts₁ w ws = cut-kept h w a (u ∷ r) t O.tiles s n n16 n32 nt k O.loose in
      let a₂ : List Tile = a ++ A₁ ∷ B₁ ∷ [] in
      let e₂ : ts₁ ≡ a₂ ++ u ∷ r = sym (append_assoc a (A₁ ∷ B₁ ∷ []) (u ∷ r)) in
      let x : ℕ = end_from 0 a₂ in
      let ex : x ≡ c + n + z = end-append 0 a (A₁ ∷ B₁ ∷ []) in
      let en : next h c ≡ x = ap (λ (y : ℕ). c + y) sz ∙ (let q : c + t.size ≡ c + n + z = omega arith in q) ∙ sym ex in
      let U : Tile = tile u.size u.p z in
      let ts₂ : List Tile = a₂ ++ U ∷ r in
      let h₂ : Heap = with_tiles ts₂ h in
      let vs : List Write = note x z ∷ [] in
      let v : List ℕ = apply ws w in
      let K₂ : Kept h₁ ts₂ v vs = note-kept h₁ v a₂ r u e₂ K₁.shape z K₁.mem in
      let ci = cut-is h w a (u ∷ r) t O.tiles s n in
      let ni = note-is h₁ v a₂ r u e₂ K₁.shape z in
      let nostart : cnt (c + n) (starts h) ≡ 0 =
      omega (
        arith,
        ap (λ (l : List Tile). cnt (c + n) (starts_from 0 l)) O.tiles,
        starts-append 0 a (t ∷ u ∷ r) (c + n),
        none_out a 0 (c + n) f.0 (inr (omega arith)),
        ind-other (c + n) c (λ q. omega arith),
        none_out (u ∷ r) (c + t.size) (c + n)
            f.1.3 (inl (omega arith)),
      ) in
      let none : total (c + n) h ≡ 0 = omega (arith, s.own (c + n)) in
      let lo : Loose h₂ (c + n) = omega (arith, none, starts-append 0 a₂ (U ∷ r) (c + n), starts-append 0 a (A₁ ∷ B₁ ∷ []) (c + n), ind-same (c + n)) in
      let here : 1 ≤ cnt (c + n) (starts h₁) = omega (arith, starts-append 0 a (A₁ ∷ B₁ ∷ u ∷ r) (c + n), ind-same (c + n)) in
      let fa : tiled (a ++ A₁ ∷ []) = tiled-join a (A₁ ∷ []) f.0 (n16, n32, omega arith, tt) in
      let nn : next h₁ (c + n) ≡ x = ap (λ (y : ℕ). c + n + y) (size-next h₁ a (u ∷ r) A₁ B₁ refl fa) ∙ sym ex in
      let other : (y : ℕ) → Loose h y → one (c + n) y ≡ 0 = λ y l. ⊎_elim
      (λ q. absurd (omega (arith, l, ap (λ (o : ℕ). cnt o (starts h)) q))) (λ q. ind-other y (c + n) q) (eq? y (c + n)) in
      moved_by
      (split-is c n x z h h₁ h₂ ws vs en (ap (λ (y : ℕ). y - n) sz) ci ni)
      (moved_more
      (moved_by (sym ci) (cut_moved h a (u ∷ r) t O.tiles s n n16 n32 nt K₁.shape))
      (moved_more {i = any nil} {o = one (c + n)}
      (moved_by (sym ni) (note-moved h₁ a₂ r u e₂ K₁.shape (c + n) z here nn))
      (link-moved h₂ 1 (c + n) [] (bin h₂ 1) K₂.shape (omega (arith, s.binned127)) lo refl (λ z. absurd (omega (arith, z))))
      (λ b y. omega arith) (λ y l q. (q, q)))
      (λ b y. omega arith) (λ y l q. (q, other y l)))

  pub split-leaves : (n : ℕ) → n % 16 ≡ 0 → 32 ≤ n → n + 32 ≤ t.size
      → Leaves h w (split (end_from 0 a) n h) (λ b g. Good g × (size_of g (end_from 0 a) ≡ n)) (any (one (end_from 0 a))) (one (end_from 0 a))
  split-leaves n n16 n32 nt =
      leaves_of
      (split-ends h w a r t u n O k n16 n32 nt) (split-moved n n16 n32 nt)

-- the same of c, which lies at the end of a
pub mark-at : (h : Heap) (w : List ℕ) (a r : List Tile) (t u : Tile) (c : ℕ) → c ≡ end_from 0 a → Out h a t u r → Mem h w
    → Leaves h w (set_p (next h c) h) (λ b g. Good g × (size_of g c ≡ t.size) × Still Every h g) (any nil) nil
mark-at h w a r t u c e O k =
    subst (λ (c : ℕ). Leaves h w (set_p (next h c) h) (λ b g. Good g × (size_of g c ≡ t.size) × Still Every h g) (any nil) nil) (sym e) (mark-leaves h w a r t u O k)

-- ---- another last remainder
pub remainder-leaves : (h : Heap) (w : List ℕ) (d : ℕ) (Q : Heap → Type 0) → Good h → Mem h w → ((g : Heap) → g.tiles ≡ h.tiles → Good g → Q g)
    → Leaves h w (set_remainder d h) (λ a g. Q g) (any nil) nil
remainder-leaves h w d Q g m q = record {
  mem = remainder-mem h w d m;
  now = q (with_remainder d h) refl (remainder-good h d g);
  moved = record { count = λ x. omega arith; same = λ x lo z. refl; spare = λ x lo z. tt; past = tt };
}

-- ---- taken whole
pub take_last-leaves : (h : Heap) (w : List ℕ) (j c : ℕ) → Good h → Mem h w → 1 ≤ cnt c (bin h j)
    → Leaves h w (take_last j c h) (λ a g. Good g × (size_of g c ≡ size_of h c) × Still Every h g) (any (one c)) nil
unfolding take_last
take_last-leaves h w j c g k mc =
    let Q : Unit {0} → Heap → Type 0 = λ b n. Good n × (size_of n c ≡ size_of h c) × Still Every h n in
    from-bin j c (λ n. set_p (next n c) n) g k mc
    (λ a t u r v e z O m.
    let h₁ : Heap = heap_of (unlink j c h) in
    leaves-widen
    (leaves-weaken
    (mark-at h₁ v a r t u c e O m)
    (λ b n p. (p.0, p.1 ∙ sym z, record { lists = p.2.lists; remainder = p.2.remainder }))) (λ b x. omega arith) (λ x q. refl))

-- ---- split, the rest the last remainder
pub split_rest-leaves : (h : Heap) (w : List ℕ) (a r : List Tile) (t u : Tile) (c n : ℕ) → c ≡ end_from 0 a → Out h a t u r → Mem h w → n % 16 ≡ 0
    → 32 ≤ n → n + 32 ≤ t.size
    → Leaves h w (split c n h >>= (λ g. set_remainder (c + n) g)) (λ b g. Good g × (size_of g c ≡ n)) (any (one c)) (one c)
split_rest-leaves h w a r t u c n e O k n16 n32 nt =
    subst (λ (c : ℕ). Leaves h w (split c n h >>= (λ g. set_remainder (c + n) g)) (λ b g. Good g × (size_of g c ≡ n)) (any (one c)) (one c)) (sym e)
    (let c : ℕ = end_from 0 a in
    leaves-then (λ g. set_remainder (c + n) g)
    (split-leaves h w a r t u O k n n16 n32 nt)
    (λ j v m p. remainder-leaves j v (c + n) (λ g. Good g × (size_of g c ≡ n)) p.0 m (λ i q g. (g, ap (λ (ts : List Tile). hd_size (since 0 c ts)) q ∙ p.1)))
    (λ b x. omega arith) (λ x lo z. (z, refl)))

carve-leaves : (h : Heap) (w : List ℕ) (a r : List Tile) (t u : Tile) (c n : ℕ) (new? : Bool) → c ≡ end_from 0 a → size_of h c ≡ t.size
    → Out h a t u r → Mem h w → n % 16 ≡ 0 → 32 ≤ n → n ≤ t.size
    → Leaves h w (carve c n new? h) (λ b g. Good g × (n ≤ size_of g c)) (any (one c)) (one c)
unfolding carve
carve-leaves h w a r t u c n new? e z O k n16 n32 nt = leaves-if (ltb (size_of h c - n) least_chunk)
    (λ l.
    leaves-widen
    (leaves-weaken
    (mark-at h w a r t u c e O k)
    (λ b g p. (p.0, omega (arith, p.1))))
    (λ b x. omega arith) (λ x q. refl))
    (λ l.
    let room : n + 32 ≤ t.size = omega (arith, ltb-false (size_of h c - n) least_chunk l) in
    leaves-if new?
    (λ q. leaves-weaken (split_rest-leaves h w a r t u c n e O k n16 n32 room) (λ b g p. (p.0, omega (arith, p.1))))
    (λ q. leaves-weaken
    (subst (λ (c : ℕ). Leaves h w (split c n h) (λ b g. Good g × (size_of g c ≡ n)) (any (one c)) (one c)) (sym e)
    (split-leaves h w a r t u O k n n16 n32 room))
    (λ b g p. (p.0, omega (arith, p.1)))))

-- ---- step 8
pub step8-leaves : (h : Heap) (w : List ℕ) (j c b : ℕ) (new? : Bool) → Good h → Mem h w → 1 ≤ cnt c (bin h j) → b % 16 ≡ 0 → 32 ≤ b → b ≤ size_of h c
    → Leaves h w (step8 j c b new? h) (Found b h) gave nil
unfolding step8
step8-leaves h w j c b new? g k mc b16 b32 bc =
    leaves-giving (Some c)
    (from-bin j c (λ n. carve c b new? n) g k mc
    (λ a t u r v e z O m. carve-leaves (heap_of (unlink j c h)) v a r t u c b new? e z O m b16 b32 (omega arith))) (λ a x. refl) (λ a n p. p)
