-- Where chunks lie: the size of a chunk in place, and that chunks, each as long as it is, lie apart. Assumes nothing.
use Rattle.std.specs.Prelude.{◌≡◌, refl, List, [], ◌∷◌, ◌++◌, ◌⊎◌, ℕ, ◌+◌, ◌≤◌, ◌<◌, eqb}
use Rattle.std.proofs.Common.{sym, ap, ◌∙◌, subst, append_assoc, inl, inr, ⊎_elim, arith}
use Rattle.machine.specs.Lists.{ind, cnt}
use Rattle.machine.specs.Count.{eq?, ind-other}
use Rattle.machine.specs.Heap.{Tile, tile, Heap, with_tiles, end_from, starts_from, up_to, since, hd_size, top_size, starts, size_of, total}
use Rattle.sound.specs.Relation.{all, tiled, Shape}
use Rattle.sound.specs.Tiles.{zero_or, tiled-split, starts-append, Start, start, up-to, since_at, Place, place, size-mid}
use Rattle.sound.specs.Frames.{Starts, starts-all}

-- ---- what stands at the end of a
pub tiles-at : (h : Heap) (a r : List Tile) → h.tiles ≡ a ++ r → tiled a → (up_to 0 (end_from 0 a) h.tiles ≡ a) × (since 0 (end_from 0 a) h.tiles ≡ r)
tiles-at h a r e f = (rw e (up-to 0 a r f), rw e (since_at 0 a r f))

pub size-at : (h : Heap) (a z : List Tile) (t : Tile) → h.tiles ≡ a ++ t ∷ z → tiled a → size_of h (end_from 0 a) ≡ t.size
size-at h a z t e f = ap hd_size (tiles-at h a (t ∷ z) e f).1

pub tiled-tiles : (h : Heap) → Shape h → tiled h.tiles
tiled-tiles h s = (tiled-split h.tiles (tile (top_size h) 1 0 ∷ []) s.sizes).0

-- a chunk's start lies before x, is x, or lies after x's end
pub clear_of : (h : Heap) (x y : ℕ) → Shape h → 1 ≤ cnt x (starts h) → 1 ≤ cnt y (Starts h)
    → (y + 32 ≤ x) ⊎ ((y ≡ x) ⊎ (x + size_of h x ≤ y))
clear_of h x y s mx my =
    let P : Place h.tiles 0 x = place h.tiles 0 x mx in
    let T : Tile = tile (top_size h) 1 0 in
    let e : all h ≡ P.a ++ P.t ∷ (P.z ++ T ∷ []) = ap (λ (l : List Tile). l ++ T ∷ []) P.tiles ∙ append_assoc P.a (P.t ∷ P.z) (T ∷ []) in
    let f : tiled P.a × tiled (P.t ∷ (P.z ++ T ∷ [])) = tiled-split P.a (P.t ∷ (P.z ++ T ∷ [])) (subst tiled e s.sizes) in
    let sz : size_of h x ≡ P.t.size = ap (size_of h) P.at ∙ size-at h P.a P.z P.t P.tiles f.0 in
    let c : cnt y (Starts h) ≡ cnt y (starts_from 0 P.a) + (ind (eqb y (end_from 0 P.a)) + cnt y (starts_from (end_from 0 P.a + P.t.size) (P.z ++ T ∷ [])))
    = ap (λ (l : List Tile). cnt y (starts_from 0 l)) e ∙ starts-append 0 P.a (P.t ∷ (P.z ++ T ∷ [])) y in
    ⊎_elim
    (λ z. ⊎_elim
    (λ q. inr (inl q))
    (λ q.
    let g : Start (P.z ++ T ∷ []) (end_from 0 P.a + P.t.size) y = start (P.z ++ T ∷ []) (end_from 0 P.a + P.t.size) y f.1.3
    (omega (arith, c, ind-other y (end_from 0 P.a) (λ r. q (r ∙ sym P.at)))) in
    inr (inr (omega (arith, sz, P.at, g.low))))
    (eq? y x))
    (λ z. let g : Start P.a 0 y = start P.a 0 y f.0 z in inl (omega (arith, P.at, g.high)))
    (zero_or (cnt y (starts_from 0 P.a)))

-- two chunks lie apart
pub chunks_apart : (h : Heap) (x y : ℕ) → Shape h → 1 ≤ cnt x (starts h) → 1 ≤ cnt y (starts h) → (x ≡ y → ⊥) → (x + size_of h x ≤ y) ⊎ (y + size_of h y ≤ x)
chunks_apart h x y s mx my n = ⊎_elim
    (λ l. ⊎_elim
    (λ i. absurd (omega arith))
    (λ i. ⊎_elim (λ j. absurd (n j)) (λ j. inr j) i)
    (clear_of h y x s my (omega (arith, starts-all h x))))
    (λ i. ⊎_elim (λ j. absurd (n (sym j))) (λ j. inl j) i)
    (clear_of h x y s mx (omega (arith, starts-all h y)))

-- a middle is put in another's place: chunks of which no start is in it keep their sizes
pub sizes-at : (h : Heap) (ts a m n z : List Tile) (x : ℕ) → tiled h.tiles → tiled n → h.tiles ≡ a ++ (m ++ z) → ts ≡ a ++ (n ++ z)
    → (end_from (end_from 0 a) m ≡ end_from (end_from 0 a) n) ⊎ (z ≡ []) → 1 ≤ cnt x (starts h) → cnt x (starts_from (end_from 0 a) m) ≡ 0
    → size_of (with_tiles ts h) x ≡ size_of h x
sizes-at h ts a m n z x ft fn e e' q i out =
    let c : ℕ = end_from 0 a in
    let fa : tiled a × tiled (m ++ z) = tiled-split a (m ++ z) (subst tiled e ft) in
    let fm : tiled m × tiled z = tiled-split m z fa.1 in
    let in3 : 1 ≤ cnt x (starts_from 0 a) + cnt x (starts_from (end_from c m) z) =
    omega (arith, ap (λ (l : List Tile). cnt x (starts_from 0 l)) e, starts-append 0 a (m ++ z) x, starts-append c m z x) in
    let low : 1 ≤ cnt x (starts_from 0 a) → x < c = λ k. let g : Start a 0 x = start a 0 x fa.0 k in omega (arith, g.high) in
    let high : cnt x (starts_from 0 a) ≡ 0 → end_from c m ≤ x = λ k. let g : Start z (end_from c m) x =
    start z (end_from c m) x fm.1 (omega arith) in omega (arith, g.low) in
    let d : (x < c) ⊎ ((end_from c m ≤ x) × (end_from c m ≡ end_from c n)) = ⊎_elim
    (λ k. ⊎_elim (λ p. inr (high k, p)) (λ p. absurd (omega (arith, ap (λ (l : List Tile). cnt x (starts_from (end_from c m) l)) p))) q)
    (λ k. inl (low k))
    (zero_or (cnt x (starts_from 0 a))) in
    ap (λ (l : List Tile). hd_size (since 0 x l)) e' ∙ sym (size-mid 0 x a m n z fm.0 fn d) ∙ ap (λ (l : List Tile). hd_size (since 0 x l)) (sym e)

pub sizes-mid : (h : Heap) (ts a m n z : List Tile) (x : ℕ) → Shape h → tiled h.tiles → tiled n → h.tiles ≡ a ++ (m ++ z) → ts ≡ a ++ (n ++ z)
    → (end_from (end_from 0 a) m ≡ end_from (end_from 0 a) n) ⊎ (z ≡ []) → 1 ≤ total x h → cnt x (starts_from (end_from 0 a) m) ≡ 0
    → size_of (with_tiles ts h) x ≡ size_of h x
sizes-mid h ts a m n z x s ft fn e e' q i out = sizes-at h ts a m n z x ft fn e e' q (omega (arith, s.own x)) out

-- a tile of the same size in the place of u
pub sizes-same : (h : Heap) (a z : List Tile) (u v : Tile) (x : ℕ) → h.tiles ≡ a ++ u ∷ z → Shape h → v.size ≡ u.size → v.p ≤ 1 → 1 ≤ cnt x (starts h)
    → size_of (with_tiles (a ++ v ∷ z) h) x ≡ size_of h x
sizes-same h a z u v x e s q p m =
    let f : tiled a × tiled (u ∷ z) = tiled-split a (u ∷ z) (subst tiled e (tiled-tiles h s)) in
    ⊎_elim
    (λ y. rw y (size-at (with_tiles (a ++ v ∷ z) h) a z v refl f.0 ∙ q ∙ sym (size-at h a z u e f.0)))
    (λ y. sizes-at h (a ++ v ∷ z) a (u ∷ []) (v ∷ []) z x (tiled-tiles h s) (omega (arith, f.1.0), omega (arith, f.1.1), p, tt) e refl
    (inl (omega arith)) m (omega (arith, ind-other x (end_from 0 a) y)))
    (eq? x (end_from 0 a))
