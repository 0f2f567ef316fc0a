-- What a repair leaves of each chunk: a held one is a live block as it was, and none of its usable words is written; a free one lies in a chunk of unsorted, or in the
-- top. By induction along the tiles before the chunk. Assumes nothing.
use Rattle.std.specs.Prelude.{◌≡◌, refl, List, [], ◌∷◌, ◌++◌, ◌⊎◌, Bool, true, false, ℕ, ◌+◌, ◌/◌, ◌≤◌, ◌<◌, eqb, length, get_or, replicate}
use Rattle.std.proofs.Common.{sym, ap, ◌∙◌, subst, append_assoc, append-nil, inl, inr, ⊎_elim, arith, eqb-true}
use Rattle.std.proofs.lemmas.Bool.{eqb-false}
use Rattle.sizes.specs.Limits.{large, unsorted}
use Rattle.machine.specs.Lists.{ind, cnt, cnt_all}
use Rattle.machine.specs.Count.{ind-same, ind-other, cnt-append, cnt_all-set}
use Rattle.machine.specs.Heap.{Tile, tile, Heap, bin, end_from, starts_from, hd_p, top_of, top_size, starts, size_of, binned, total, live?}
use Rattle.machine.specs.Writes.{Write, note, apply, does, heap_of, writes}
use Rattle.sound.specs.Relation.{all, tiled, flags, Shape, Loose}
use Rattle.sound.specs.Tiles.{tiled-split, end-le, end-append, starts-append, Place, place}
use Rattle.sound.specs.Flags.{flags-split}
use Rattle.sound.specs.Frames.{set_cases}
use Rattle.sound.specs.Apart.{size-at}
use Rattle.sound.specs.Lists.{link-shape}
use Rattle.sound.specs.Spares.{Spares, spared, spares-append, spares_then, link-spares}
use Rattle.sound.specs.Live.{loose-live}
use Rattle.repair.specs.Repair.{ended, tiles_anew, free_anew, bare, noted, tiles_on, tile_writes, put_last, put_all, repair}
use Rattle.repair.proofs.AnewTiles.{by-anew, on-append, writes-all}
use Rattle.repair.proofs.Mends.{Tiles, bare-fits, anew-tiled, bare-shape}
use Rattle.repair.proofs.MendedHeap.{mended_heap, repair-heap, mended-good}

-- s bytes from c on lie in one chunk of unsorted, or in the top
pub data In (g : Heap) (c s : ℕ) : Type 0 where
  in_unsorted : (b : ℕ) → b ≤ c → c + s ≤ b + size_of g b → 1 ≤ cnt b (bin g unsorted) → In g c s
  in_top : top_of g ≤ c → In g c s

-- ---- one of the tiles us, the first of which is at b: Q holds of its offset, its size and P behind it
record One (Q : ℕ → ℕ → ℕ → Type 0) (b : ℕ) (us : List Tile) : Type 0 where
  a : List Tile
  u : Tile
  z : List Tile
  tiles : us ≡ a ++ u ∷ z
  is : Q (end_from b a) u.size (hd_p z)

one-after : (Q : ℕ → ℕ → ℕ → Type 0) (b : ℕ) (v us : List Tile) → One Q (end_from b v) us → One Q b (v ++ us)
one-after Q b v us k = record {
  a = v ++ k.a;
  u = k.u;
  z = k.z;
  tiles = ap (λ (l : List Tile). v ++ l) k.tiles ∙ sym (append_assoc v k.a (k.u ∷ k.z));
  is = subst (λ (d : ℕ). Q d k.u.size (hd_p k.z)) (sym (end-append b v k.a)) k.is;
}

-- ---- a step along the tiles
step : (f : ℕ → Bool) (g o : ℕ) (t : Tile) (ts : List Tile) (P : List Tile → Type 0) → (f o ≡ true → P (tiles_anew f (g + t.size) (o + t.size) ts))
    → (f o ≡ false → P (ended g t.size ++ tiles_anew f 0 (o + t.size) ts)) → P (tiles_anew f g o (t ∷ ts))
unfolding tiles_anew
step f g o t ts P x y = go (f o) refl
  where
    go : (b : Bool) → f o ≡ b → P (elim b [ true ↦ tiles_anew f (g + t.size) (o + t.size) ts | false ↦ ended g t.size ++ tiles_anew f 0 (o + t.size) ts ])
    go true e = x e
    go false e = y e

ended-case : (P : List Tile → Type 0) (g s : ℕ) → (g ≡ 0 → P (tile s 1 0 ∷ [])) → ((g ≡ 0 → ⊥) → P (tile g 1 0 ∷ tile s 0 g ∷ [])) → P (ended g s)
ended-case P g s x y = go (eqb g 0) refl
  where
    go : (b : Bool) → eqb g 0 ≡ b → P (elim b [ true ↦ tile s 1 0 ∷ [] | false ↦ tile g 1 0 ∷ tile s 0 g ∷ [] ])
    go true e = x (eqb-true g 0 e)
    go false e = y (eqb-false g 0 e)

ended-end : (g o b s : ℕ) → o ≡ b + g → end_from b (ended g s) ≡ o + s
ended-end g o b s e = ended-case (λ v. end_from b v ≡ o + s) g s (λ n. omega (arith, e, n)) (λ n. omega (arith, e))

-- the first tile has P set
head-p : (f : ℕ → Bool) (g o : ℕ) (ts : List Tile) → hd_p (tiles_anew f g o ts) ≡ 1
head-p f = by-anew f (λ g o ts us l. hd_p us ≡ 1) (λ g o. refl) (λ g o t ts us l r. r) (λ o t ts us l r. refl) (λ g o t ts us l n r. refl)

-- what holds of the tiles anew from the chunk c on, however many bytes right before it are free, and still holds with tiles put before them, holds of all
walk : (f : ℕ → Bool) (X : ℕ → List Tile → Type 0) → ((b : ℕ) (v us : List Tile) → X (end_from b v) us → X b (v ++ us)) → (t : Tile) (z : List Tile) (c : ℕ)
    → ((g b : ℕ) → c ≡ b + g → X b (tiles_anew f g c (t ∷ z))) → (g o b : ℕ) (a : List Tile) → o ≡ b + g → end_from o a ≡ c → X b (tiles_anew f g o (a ++ t ∷ z))
walk f X after t z c here g o b [] e q = subst (λ (y : ℕ). X b (tiles_anew f g y (t ∷ z))) (sym q) (here g b (omega (arith, e, q)))
walk f X after t z c here g o b (v ∷ a) e q =
    let us : List Tile = tiles_anew f 0 (o + v.size) (a ++ t ∷ z) in
    step f g o v (a ++ t ∷ z) (X b)
    (λ y. walk f X after t z c here (g + v.size) (o + v.size) b a (omega (arith, e)) q)
    (λ y. after b (ended g v.size) us
    (subst (λ (d : ℕ). X d us) (sym (ended-end g o b v.size e)) (walk f X after t z c here 0 (o + v.size) (o + v.size) a (omega arith) q)))

-- so it is with each chunk of h
at-chunk : (f : ℕ → Bool) (h : Heap) (c : ℕ) (X : ℕ → ℕ → List Tile → Type 0) → Tiles h → 1 ≤ cnt c (starts h)
    → ((s b : ℕ) (v us : List Tile) → X s (end_from b v) us → X s b (v ++ us))
    → ((t : Tile) (z : List Tile) → 32 ≤ t.size → (g b : ℕ) → c ≡ b + g → X t.size b (tiles_anew f g c (t ∷ z)))
    → X (size_of h c) 0 (tiles_anew f 0 0 h.tiles)
at-chunk f h c X t m after here =
    let P : Place h.tiles 0 c = place h.tiles 0 c m in
    let F : tiled P.a × tiled (P.t ∷ P.z) = tiled-split P.a (P.t ∷ P.z)
    (subst tiled P.tiles (tiled-split h.tiles (tile (top_size h) 1 0 ∷ []) t.sizes).0) in
    let e : size_of h c ≡ P.t.size = ap (size_of h) P.at ∙ size-at h P.a P.z P.t P.tiles F.0 in
    subst (λ (s : ℕ). X s 0 (tiles_anew f 0 0 h.tiles)) (sym e)
    (subst (λ (ts : List Tile). X P.t.size 0 (tiles_anew f 0 0 ts)) (sym P.tiles)
    (walk f (X P.t.size) (after P.t.size) P.t P.z c (here P.t P.z F.1.1) 0 0 0 P.a refl (sym P.at)))

-- ---- a held chunk is a tile again, and P behind it is set
abbrev Held : ℕ → ℕ → ℕ → ℕ → ℕ → Type 0
Held c s d n p = (d ≡ c) × (n ≡ s) × (p ≡ 1)

held-here : (f : ℕ → Bool) (c : ℕ) (t : Tile) (z : List Tile) → f c ≡ false → (g b : ℕ) → c ≡ b + g → One (Held c t.size) b (tiles_anew f g c (t ∷ z))
held-here f c t z q g b e =
    let us : List Tile = tiles_anew f 0 (c + t.size) z in
    let p : hd_p us ≡ 1 = head-p f 0 (c + t.size) z in
    step f g c t z (One (Held c t.size) b) (λ y. absurd (omega (arith, ap ind (sym y ∙ q))))
    (λ y. ended-case (λ v. One (Held c t.size) b (v ++ us)) g t.size
    (λ n. record { a = []; u = tile t.size 1 0; z = us; tiles = refl; is = (omega (arith, e, n), refl, p) })
    (λ n. record { a = tile g 1 0 ∷ []; u = tile t.size 0 g; z = us; tiles = refl; is = (sym e, refl, p) }))

held_one : (f : ℕ → Bool) (h : Heap) (c : ℕ) → Tiles h → 1 ≤ cnt c (starts h) → f c ≡ false → One (Held c (size_of h c)) 0 (tiles_anew f 0 0 h.tiles)
held_one f h c t m q = at-chunk f h c (λ s. One (Held c s)) t m (λ s. one-after (Held c s)) (λ t z l. held-here f c t z q)

-- ---- a free chunk lies in a tile behind which P is clear, or behind all
abbrev Free : ℕ → ℕ → ℕ → ℕ → ℕ → Type 0
Free c s d n p = (d ≤ c) × (c + s ≤ d + n) × (p ≡ 0)

abbrev Part : ℕ → ℕ → ℕ → List Tile → Type 0
Part c s b us = One (Free c s) b us ⊎ (end_from b us ≤ c)

part-after : (c s b : ℕ) (v us : List Tile) → Part c s (end_from b v) us → Part c s b (v ++ us)
part-after c s b v us = ⊎_elim (λ k. inl (one-after (Free c s) b v us k)) (λ l. inr (omega (arith, l, end-append b v us)))

-- bytes of a free stretch
stretch : (f : ℕ → Bool) (c s g o b : ℕ) (ts : List Tile) → o ≡ b + g → b ≤ c → c + s ≤ o → 1 ≤ s → Part c s b (tiles_anew f g o ts)
unfolding tiles_anew
stretch f c s g o b [] e l m p = inr l
stretch f c s g o b (t ∷ ts) e l m p =
    let us : List Tile = tiles_anew f 0 (o + t.size) ts in
    step f g o t ts (Part c s b)
    (λ y. stretch f c s (g + t.size) (o + t.size) b ts (omega (arith, e)) l (omega (arith, m)) p)
    (λ y. ended-case (λ v. Part c s b (v ++ us)) g t.size
    (λ n. absurd (omega (arith, n, e, l, m, p)))
    (λ n.
    let k : One (Free c s) b (tile g 1 0 ∷ tile t.size 0 g ∷ us) =
    record { a = []; u = tile g 1 0; z = tile t.size 0 g ∷ us; tiles = refl; is = (l, omega (arith, e, m), refl) } in
    inl k))

free-here : (f : ℕ → Bool) (c : ℕ) (t : Tile) (z : List Tile) → f c ≡ true → 32 ≤ t.size → (g b : ℕ) → c ≡ b + g → Part c t.size b (tiles_anew f g c (t ∷ z))
free-here f c t z q w g b e =
    step f g c t z (Part c t.size b)
    (λ y. stretch f c t.size (g + t.size) (c + t.size) b z (omega (arith, e)) (omega (arith, e)) (omega arith) (omega (arith, w)))
    (λ y. absurd (omega (arith, ap ind (sym y ∙ q))))

free_part : (f : ℕ → Bool) (h : Heap) (c : ℕ) → Tiles h → 1 ≤ cnt c (starts h) → f c ≡ true → Part c (size_of h c) 0 (tiles_anew f 0 0 h.tiles)
free_part f h c t m q = at-chunk f h c (Part c) t m (part-after c) (λ t z l. free-here f c t z q l)

-- ---- P behind a tile, and the top's
hd-top : (z : List Tile) (n : ℕ) → hd_p (z ++ tile n 1 0 ∷ []) ≡ hd_p z
hd-top [] n = refl
hd-top (v ∷ z) n = refl

behind : (b : ℕ → ℕ) (o q s n : ℕ) (z : List Tile) → flags b o q s (z ++ tile n 1 0 ∷ []) → hd_p z + q ≡ 1
behind b o q s n [] k = k.0
behind b o q s n (v ∷ z) k = k.0

module _ (f : ℕ → Bool) (h : Heap) (t : Tiles h) where
  -- a heap with no list has no chunk in one; mended, it has the free ones in unsorted
  none : (x : ℕ) → total x (bare f h) ≡ 0
  none x = refl

  listed : (x : ℕ) → total x (mended_heap f h) ≡ cnt x (free_anew f 0 0 h.tiles)
  listed x =
      let i : cnt_all x (replicate 74 []) ≡ 0 = refl in
      let j : cnt_all x (replicate 125 []) ≡ 0 = refl in
      omega (arith, i, j)

  mended-shape : Shape (mended_heap f h)
  mended-shape = record {
    small = t.small;
    sizes = anew-tiled f h t;
    stacked74 = refl;
    binned127 = refl;
    own = λ x. omega (arith, listed x, (bare-fits f h t).own x);
    roomy = λ j x p. set_cases (λ z. 1 ≤ cnt x z → large ≤ size_of (bare f h) x) (bare f h).bins unsorted (free_anew f 0 0 h.tiles) j (omega arith)
        (λ q. absurd (omega (arith, p, q))) (λ q. (bare-shape f h t).roomy j x p);
  }

  module _ (Q : ℕ → ℕ → ℕ → Type 0) (k : One Q 0 (tiles_anew f 0 0 h.tiles)) where
    one-all : all (bare f h) ≡ k.a ++ k.u ∷ (k.z ++ tile (top_size (bare f h)) 1 0 ∷ [])
    one-all = let T : Tile = tile (top_size (bare f h)) 1 0 in ap (λ (l : List Tile). l ++ T ∷ []) k.tiles ∙ append_assoc k.a (k.u ∷ k.z) (T ∷ [])

    one-tiled : tiled k.a × tiled (k.u ∷ (k.z ++ tile (top_size (bare f h)) 1 0 ∷ []))
    one-tiled = tiled-split k.a (k.u ∷ (k.z ++ tile (top_size (bare f h)) 1 0 ∷ [])) (subst tiled one-all (anew-tiled f h t))

    one_size : size_of (mended_heap f h) (end_from 0 k.a) ≡ k.u.size
    one_size = size-at (mended_heap f h) k.a k.z k.u k.tiles one-tiled.0

    one-start : 1 ≤ cnt (end_from 0 k.a) (starts (mended_heap f h))
    one-start =
        let d : ℕ = end_from 0 k.a in
        omega (arith, ap (λ (l : List Tile). cnt d (starts_from 0 l)) k.tiles, starts-append 0 k.a (k.u ∷ k.z) d, ind-same d)

    -- P behind it tells whether it is free
    one-listed : hd_p k.z + cnt (end_from 0 k.a) (free_anew f 0 0 h.tiles) ≡ 1
    one-listed =
        let n : ℕ = top_size (bare f h) in
        let d : ℕ = end_from 0 k.a in
        let b : ℕ → ℕ = λ x. binned (mended_heap f h) x in
        let F : flags b 0 0 0 (k.a ++ k.u ∷ (k.z ++ tile n 1 0 ∷ [])) = subst (flags b 0 0 0) one-all (mended-good f h t mended-shape).flag in
        let S = flags-split b 0 0 0 k.a (k.u ∷ (k.z ++ tile n 1 0 ∷ [])) F in
        let i : cnt_all d (replicate 125 []) ≡ 0 = refl in
        omega (arith, behind b (d + k.u.size) (b d) k.u.size n k.z S.1.3, i)

-- ---- the words of tiles that end before the block x, or start behind its end; of tiles right behind it, where P is set; of all tiles, where it is one of them
spares-on : (x s o : ℕ) (us : List Tile) → tiled us → (end_from o us ≤ x) ⊎ (x + s + 16 ≤ o) → Spares x s (tiles_on o us)
unfolding tiles_on
spares-on x s o [] f d = tt
spares-on x s o (t ∷ us) f d =
    (lie 1 (omega arith), go (spares-on x s (o + t.size) us f.3 (⊎_elim (λ y. inl y) (λ y. inr (omega (arith, y))) d)) (eqb t.p 0))
  where
    lie : (i : ℕ) → i ≤ 1 → (o / 8 + i < x / 8 + 2) ⊎ ((x + s) / 8 < o / 8 + i)
    lie i l = ⊎_elim (λ y. inl (omega (arith, y, l, f.1, end-le (o + t.size) us))) (λ y. inr (omega (arith, y))) d

    go : Spares x s (tiles_on (o + t.size) us) → (c : Bool)
        → Spares x s (◌++◌ {A = Write} (elim c [ true ↦ note o t.prev ∷ [] | false ↦ [] ]) (tiles_on (o + t.size) us))
    go r true = (lie 0 (omega arith), r)
    go r false = r

spares-behind : (x s : ℕ) (us : List Tile) → tiled us → hd_p us ≡ 1 → Spares x s (tiles_on (x + s) us)
unfolding tiles_on
spares-behind x s [] f p = tt
spares-behind x s (v ∷ us) f p = (inr (omega arith), go (eqb v.p 0) refl)
  where
    go : (c : Bool) → eqb v.p 0 ≡ c
        → Spares x s (◌++◌ {A = Write} (elim c [ true ↦ note (x + s) v.prev ∷ [] | false ↦ [] ]) (tiles_on (x + s + v.size) us))
    go true q = absurd (omega (arith, eqb-true v.p 0 q, p))
    go false q = spares-on x s (x + s + v.size) us f.3 (inr (omega (arith, f.1)))

spares-tile : (x s : ℕ) (a : List Tile) (u : Tile) (z : List Tile) → tiled a → tiled (u ∷ z) → Held x s (end_from 0 a) u.size (hd_p z)
    → Spares x s (tiles_on 0 (a ++ u ∷ z))
unfolding tiles_on
spares-tile x s a u z fa fu k =
    let d : ℕ = end_from 0 a in
    subst (Spares x s) (sym (on-append 0 a (u ∷ z)))
    (spares-append x s (tiles_on 0 a) (tiles_on d (u ∷ z)) (spares-on x s 0 a fa (inl (omega (arith, k.0)))) (
      inl (omega (arith, k.0)),
      spares-append x s (noted d u) (tiles_on (d + u.size) z) (own (eqb u.p 0))
          (subst (λ (o : ℕ). Spares x s (tiles_on o z)) (omega (arith, k.0, k.1)) (spares-behind x s z fu.3 k.2)),
    ))
  where
    own : (c : Bool) → Spares x s (elim c [ true ↦ note (end_from 0 a) u.prev ∷ [] | false ↦ [] ])
    own true = (inl (omega (arith, k.0)), tt)
    own false = tt

-- ---- the links: those of the chunks that are put
put_all-spares : (l : List ℕ) (h : Heap) (x : ℕ) → Shape h → ((y : ℕ) → total y h + cnt y l ≤ cnt y (starts h)) → Loose h x → cnt x l ≡ 0
    → Spares x (size_of h x) (writes (put_all l h))
unfolding put_all
put_all-spares [] h x s own lo n = tt
put_all-spares (c ∷ l) h x s own lo n =
    let xs : List ℕ = bin h unsorted in
    let hj : unsorted < length h.bins = omega (arith, s.binned127) in
    let lc : total c h < cnt c (starts h) = omega (arith, own c, ind-same c) in
    let ne : x ≡ c → ⊥ = λ q. omega (arith, n, ap (λ (y : ℕ). ind (eqb y c)) q, ind-same c) in
    let sum : (y : ℕ) → total y (heap_of (put_last c h)) ≡ total y h + ind (eqb y c) = λ y.
    omega (arith, cnt_all-set y h.bins unsorted (xs ++ c ∷ []) hj, cnt-append y xs (c ∷ [])) in
    spares_then (put_last c h) (λ g. put_all l g) x (size_of h x)
    (link-spares h unsorted c x xs [] s lo lc ne (sym (append-nil xs)) (λ z. absurd (omega (arith, z))))
    (put_all-spares l (heap_of (put_last c h)) x (link-shape h unsorted c xs [] s hj lc (sym (append-nil xs)) (λ z. absurd (omega (arith, z))))
    (λ y. omega (arith, own y, sum y)) (omega (arith, lo, sum x, ind-other x c ne)) (omega (arith, n)))

-- ---- a held chunk of h: a live block of its size, of which no usable word is written; the last of them is the previous size of the chunk behind it
pub held_kept : (f : ℕ → Bool) (h : Heap) (w : List ℕ) (c : ℕ) → Tiles h → 1 ≤ cnt c (starts h) → f c ≡ false
    → (live? (heap_of (repair f h)) c ≡ true) × (size_of (heap_of (repair f h)) c ≡ size_of h c)
    × ((i : ℕ) → c / 8 + 2 ≤ i → i ≤ (c + size_of h c) / 8 → get_or (apply (writes (repair f h)) w) i 0 ≡ get_or w i 0)
unfolding repair
held_kept f h w c t m q =
    let s : ℕ = size_of h c in
    let l : List ℕ = free_anew f 0 0 h.tiles in
    let Q : ℕ → ℕ → ℕ → Type 0 = Held c s in
    let k : One Q 0 (tiles_anew f 0 0 h.tiles) = held_one f h c t m q in
    let z : List Tile = k.z ++ tile (top_size (bare f h)) 1 0 ∷ [] in
    let F : tiled k.a × tiled (k.u ∷ z) = one-tiled f h t Q k in
    let big : size_of (mended_heap f h) c ≡ s = ap (size_of (mended_heap f h)) (sym k.is.0) ∙ one_size f h t Q k ∙ k.is.1 in
    let at : 1 ≤ cnt c (starts (mended_heap f h)) = subst (λ (d : ℕ). 1 ≤ cnt d (starts (mended_heap f h))) k.is.0 (one-start f h t Q k) in
    let no : cnt c l ≡ 0 = omega (arith, one-listed f h t Q k, ap (λ (d : ℕ). cnt d l) k.is.0, k.is.2) in
    let lo : Loose (mended_heap f h) c = omega (arith, at, no, listed f h t c) in
    let r : (live? (heap_of (repair f h)) c ≡ true) × (size_of (heap_of (repair f h)) c ≡ s) =
    subst (λ (g : Heap). (live? g c ≡ true) × (size_of g c ≡ s)) (sym (repair-heap f h)) (loose-live (mended_heap f h) c (mended-shape f h t) lo, big) in
    let ts : Spares c s (tile_writes (bare f h)) = subst (Spares c s) (sym (writes-all (bare f h)))
    (subst (λ (us : List Tile). Spares c s (tiles_on 0 us)) (sym (one-all f h t Q k))
    (spares-tile c s k.a k.u z F.0 F.1 (k.is.0, k.is.1, hd-top k.z (top_size (bare f h)) ∙ k.is.2))) in
    let ls : Spares c s (writes (put_all l (bare f h))) = subst (λ (n : ℕ). Spares c n (writes (put_all l (bare f h)))) big
    (put_all-spares l (bare f h) c (bare-shape f h t) (λ y. omega (arith, none f h t y, (bare-fits f h t).own y)) (omega (arith, at, none f h t c)) no) in
    (r.0, r.1, λ i. spared c s (writes (repair f h)) w i (spares_then (does (bare f h) (tile_writes (bare f h))) (λ g. put_all l g) c s ts ls))

-- ---- a free chunk of h
pub free-freed : (f : ℕ → Bool) (h : Heap) (c : ℕ) → Tiles h → 1 ≤ cnt c (starts h) → f c ≡ true → In (mended_heap f h) c (size_of h c)
free-freed f h c t m q =
    ⊎_elim
    (λ k.
    let Q : ℕ → ℕ → ℕ → Type 0 = Free c (size_of h c) in
    in_unsorted (end_from 0 k.a) k.is.0 (omega (arith, k.is.1, one_size f h t Q k)) (omega (arith, one-listed f h t Q k, k.is.2)))
    (λ l. in_top l)
    (free_part f h c t m q)
