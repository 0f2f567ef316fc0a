-- A join takes the joined chunk from the loose ones and leaves all others as they were: sizes and usable words. Part by part as the join goes, by the
-- same states in between. Assumes nothing.
use Rattle.std.specs.Prelude.{◌≡◌, refl, List, [], ◌∷◌, ◌++◌, ℕ, ◌+◌, ◌-◌, ◌≤◌}
use Rattle.std.proofs.Common.{sym, ap, ◌∙◌, subst, inr, ⊎_elim, arith}
use Rattle.sizes.specs.Limits.{unsorted}
use Rattle.machine.specs.Lists.{lst, cnt}
use Rattle.machine.specs.Count.{ind-same}
use Rattle.machine.specs.Heap.{Tile, tile, Heap, bin, with_tiles, end_from, starts_from, hd_p, top_of, top_size, starts, size_of, p_of, next, before, binned, total, bin_has}
use Rattle.machine.specs.Writes.{Write, apply, heap_of, writes, does, ◌>>=◌, size, note}
use Rattle.machine.specs.Primitives.{put_first, unlink, swallow}
use Rattle.machine.specs.Release.{absorb, join_next, put_down, join}
use Rattle.sound.specs.Relation.{tiled, Mem, Shape, Loose, Good}
use Rattle.sound.specs.Tiles.{zero_or, tiled-split, end-le, end-append, starts-append, none_out, starts-once, Place, place}
use Rattle.sound.specs.Apart.{size-at, tiled-tiles, tiles-at}
use Rattle.sound.specs.Lists.{unlink-shape}
use Rattle.sound.specs.Edits.{snoc-end, snoc-tiles, Kept, clear-is, clear_kept}
use Rattle.sound.specs.Join.{bin-has, Joining, next-no, next-yes, next-ends, down_top, down-bin, Before, before_of, lst-starts, open-flags, gap_here, prev-ends, join-here, join-prev}
use Rattle.sound.specs.Moves.{nil, one, any, Moved, listed-not, moved_then, moved-giving, moved_by, unlink-moved, link-moved, swallow-moved, clear-moved, to-top-moved}

-- q leaves its bin, and the chunk at the end of a takes in the next
absorb-moved : (h : Heap) (a r : List Tile) (t u : Tile) (j q : ℕ) (o : ℕ → ℕ) → h.tiles ≡ a ++ t ∷ u ∷ r → Shape h → 1 ≤ cnt q (bin h j)
    → ((x : ℕ) → one (end_from 0 a) x + one (end_from 0 a + t.size) x ≡ o x + one q x)
    → ((x : ℕ) → Loose h x → o x ≡ 0 → one (end_from 0 a) x + one (end_from 0 a + t.size) x ≡ 0)
    → Moved h (unlink j q h >>= (λ g. swallow (end_from 0 a) g)) (any (one (end_from 0 a))) o
absorb-moved h a r t u j q o e s m bal out =
    let c : ℕ = end_from 0 a in
    moved_then (λ g. swallow c g)
    (unlink-moved h j q s m) (swallow-moved (heap_of (unlink j q h)) a r t u e (unlink-shape h j q s m))
    (λ b x. omega (arith, bal x)) (λ x lo z. (refl, out x lo z))

next-moved : (h : Heap) (a : List Tile) (t : Tile) (r : List Tile) (n : ℕ) → Joining h a t r n
    → Moved h (join_next (end_from 0 a) h) (any (one (end_from 0 a))) (one (end_from 0 a))
unfolding absorb
next-moved h a t r n G =
    let c : ℕ = end_from 0 a in
    let f : tiled a × tiled (t ∷ r) = tiled-split a (t ∷ r) (subst tiled G.tiles (tiled-tiles h G.shape)) in
    let en : next h c ≡ c + t.size = ap (λ (z : ℕ). c + z) (size-at h a r t G.tiles f.0) in
    ⊎_elim
    (λ z. moved_by (next-no c h (ap (binned h) en ∙ z)) (record { count = λ x. omega arith; same = λ x lo y. refl; spare = λ x lo y. tt; past = tt }))
    (λ z. moved_by (next-yes c (c + t.size) h en z) (yes r G z))
    (zero_or (binned h (c + t.size)))
  where
    yes : (r : List Tile) → Joining h a t r n → 1 ≤ binned h (end_from 0 a + t.size)
        → Moved h (absorb (end_from 0 a + t.size) (end_from 0 a) h) (any (one (end_from 0 a))) (one (end_from 0 a))
    yes [] G z =
        let e : top_of h ≡ end_from 0 a + t.size = ap (end_from 0) G.tiles ∙ snoc-end a t in
        absurd (omega (arith, G.shape.own (end_from 0 a + t.size), none_out h.tiles 0 (end_from 0 a + t.size) (tiled-tiles h G.shape) (inr (omega arith))))
    yes (u ∷ r) G z =
        let x : ℕ = end_from 0 a + t.size in
        absorb-moved h a r t u (bin_has h x) x (one (end_from 0 a)) G.tiles G.shape (bin-has h x z) (λ y. refl)
        (λ y lo i. omega (arith, listed-not h y x G.shape lo (omega arith)))

down-moved : (h : Heap) (w : List ℕ) (a : List Tile) (n : ℕ) (t : Tile) (r : List Tile) → Joining h a t r n → Mem h w
    → Moved h (put_down (end_from 0 a) h) (any nil) (one (end_from 0 a))
down-moved h w a n t [] G k =
    let c : ℕ = end_from 0 a in
    let s = G.shape in
    let f : tiled a × tiled (t ∷ []) = tiled-split a (t ∷ []) (subst tiled G.tiles (tiled-tiles h s)) in
    let en : next h c ≡ top_of h = ap (λ (z : ℕ). c + z) (size-at h a [] t G.tiles f.0) ∙ sym (ap (end_from 0) G.tiles ∙ snoc-end a t) in
    moved_by (down_top c h en)
    (moved-giving (h.len - c) (λ x. refl) (to-top-moved h a t G.tiles s))
down-moved h w a n t (u ∷ r) G k =
    let c : ℕ = end_from 0 a in
    let s = G.shape in
    let a₁ : List Tile = a ++ t ∷ [] in
    let e₁ : h.tiles ≡ a₁ ++ u ∷ r = G.tiles ∙ sym (snoc-tiles a (u ∷ r) t) in
    let x : ℕ = end_from 0 a₁ in
    let f : tiled a × tiled (t ∷ u ∷ r) = tiled-split a (t ∷ u ∷ r) (subst tiled G.tiles (tiled-tiles h s)) in
    let f₁ : tiled a₁ × tiled (u ∷ r) = tiled-split a₁ (u ∷ r) (subst tiled e₁ (tiled-tiles h s)) in
    let sz : size_of h c ≡ t.size = size-at h a (u ∷ r) t G.tiles f.0 in
    let en : next h c ≡ x = ap (λ (z : ℕ). c + z) sz ∙ sym (snoc-end a t) in
    let U : Tile = tile u.size 0 t.size in
    let ts : List Tile = a₁ ++ U ∷ r in
    let h₁ : Heap = with_tiles ts h in
    let ws : List Write = size x u.size 0 ∷ note x t.size ∷ [] in
    let K : Kept h ts w ws = clear_kept h w a₁ r u e₁ s t.size k in
    let tp : top_of h ≡ end_from (x + u.size) r = ap (end_from 0) e₁ ∙ end-append 0 a₁ (u ∷ r) in
    let nt : next h c ≡ top_of h → ⊥ = λ q. omega (arith, en, tp, end-le (x + u.size) r, f₁.1.1) in
    let ci = clear-is h w a₁ r u e₁ s t.size in
    let mc : 1 ≤ cnt c (starts h) = omega (arith, ap (λ (l : List Tile). cnt c (starts_from 0 l)) G.tiles, starts-append 0 a (t ∷ u ∷ r) c, ind-same c) in
    let lo : Loose h₁ c = omega (arith, G.loose, starts-append 0 a₁ (U ∷ r) c, starts-append 0 a (t ∷ []) c, ind-same c) in
    moved_by (down-bin c x t.size h (does h₁ ws) nt en sz ci)
    (moved-giving t.size (λ y. refl)
    (moved_then (λ g. put_first unsorted c g)
    (moved_by (sym ci) (clear-moved h a₁ r u e₁ s c t.size mc en))
    (link-moved h₁ 1 c [] (bin h₁ 1) K.shape (omega (arith, s.binned127)) lo refl (λ z. absurd (omega (arith, z))))
    (λ b y. refl) (λ y l z. (z, z))))

-- joined with the chunk after it and put down
rest-moved : (h : Heap) (w : List ℕ) (a : List Tile) (n : ℕ) (t : Tile) (r : List Tile) → Joining h a t r n → Mem h w
    → Moved h (join_next (end_from 0 a) h >>= (λ h₂. put_down (end_from 0 a) h₂)) (any nil) (one (end_from 0 a))
rest-moved h w a n t r G k =
    let c : ℕ = end_from 0 a in
    let E = next-ends h w a t r n G k in
    let J = E.now in
    moved_then (λ h₂. put_down c h₂) (next-moved h a t r n G)
    (down-moved (heap_of (join_next c h)) (apply (writes (join_next c h)) w) a n J.t J.r J.gap E.mem)
    (λ b y. refl) (λ y l z. (z, z))

-- the whole join of a loose chunk c
pub join-moved : (h : Heap) (w : List ℕ) (c : ℕ) → Good h → Mem h w → Loose h c → Moved h (join c h) (any nil) (one c)
unfolding absorb
join-moved h w c g k lo =
    let P : Place h.tiles 0 c = place h.tiles 0 c (omega arith) in
    subst (λ (c : ℕ). Moved h (join c h) (any nil) (one c)) (sym P.at)
    (go P (omega (arith, lo, starts-once h.tiles 0 c (tiled-tiles h g.shape), ap (λ (x : ℕ). total x h) P.at)))
  where
    go : (P : Place h.tiles 0 c) → total (end_from 0 P.a) h ≡ 0 → Moved h (join (end_from 0 P.a) h) (any nil) (one (end_from 0 P.a))
    go P lo =
        let a = P.a in
        let t = P.t in
        let r = P.z in
        let x : ℕ = end_from 0 a in
        let s = g.shape in
        let f : tiled a × tiled (t ∷ r) = tiled-split a (t ∷ r) (subst tiled P.tiles (tiled-tiles h s)) in
        let tt' = tiles-at h a (t ∷ r) P.tiles f.0 in
        let ep : p_of h x ≡ t.p = ap hd_p tt'.1 in
        let F = open-flags h w a r t P.tiles g lo in
        ⊎_elim
        (λ z.
        let B : Before (λ x. binned h x) 0 a = before_of (λ x. binned h x) a (omega (arith, F.1.0)) in
        let q : ℕ = end_from 0 B.a₀ in
        let eq : before h x ≡ q = ap (λ (l : List Tile). lst 0 (starts_from 0 l)) (tt'.0 ∙ B.tiles) ∙ lst-starts 0 0 B.a₀ B.s in
        let ec : x ≡ q + B.s.size = ap (end_from 0) B.tiles ∙ snoc-end B.a₀ B.s in
        let e₀ : h.tiles ≡ B.a₀ ++ B.s ∷ t ∷ r = P.tiles ∙ ap (λ (l : List Tile). l ++ t ∷ r) B.tiles ∙ snoc-tiles B.a₀ (t ∷ r) B.s in
        let mq : 1 ≤ cnt q (bin h (bin_has h q)) = bin-has h q (omega (arith, B.was)) in
        let nq : (y : ℕ) → Loose h y → one q y ≡ 0 = λ y l. listed-not h y q s l (omega (arith, B.was)) in
        let oc : (y : ℕ) → one x y ≡ one (q + B.s.size) y = λ y. ap (λ (v : ℕ). one v y) ec in
        let E = prev-ends h w a r t P.tiles g lo B.a₀ B.s B.tiles B.was k in
        moved_by (join-prev x q h (ep ∙ z) eq)
        (moved_then (λ h₁. join_next q h₁ >>= (λ h₂. put_down q h₂))
        (absorb-moved h B.a₀ r B.s t (bin_has h q) q (one x) e₀ s mq (λ y. omega (arith, oc y)) (λ y l i. omega (arith, oc y, nq y l)))
        (rest-moved (heap_of (absorb q q h)) (apply (writes (absorb q q h)) w) B.a₀ (top_size h) E.now.t E.now.r E.now.gap E.mem)
        (λ b y. omega arith) (λ y l i. (i, nq y l))))
        (λ z.
        moved_by (join-here x h (λ q. omega (arith, ep)))
        (rest-moved h w a (top_size h) t r (gap_here h w a r t P.tiles g lo (omega (arith, f.1.2))) k))
        (zero_or t.p)
