-- Release of a chunk whose P is set changes no tile before it: neither the join nor what is put down reaches below; or it has the fast chunks joined too, and
-- then no fast list has a chunk. Through the join's parts, by the states in between. Assumes nothing.
use Rattle.std.specs.Prelude.{◌≡◌, refl, List, [], ◌∷◌, ◌++◌, Bool, true, false, ◌⊎◌, ℕ, ◌+◌, ◌-◌, ltb, leb, length}
use Rattle.std.proofs.Common.{sym, ap, ◌∙◌, subst, append-nil, inl, inr, arith}
use Rattle.sizes.specs.Limits.{most_cached, cache_room, most_fast, consolidate_from}
use Rattle.sizes.specs.Sizes.{cache_of}
use Rattle.machine.specs.Lists.{both, cnt}
use Rattle.machine.specs.Count.{ind-same}
use Rattle.machine.specs.Heap.{Tile, tile, Heap, cache, any_fast?, end_from, starts_from, hd_p, top_of, top_size, size_of, p_of, next, total}
use Rattle.machine.specs.Writes.{Write, apply, Ran, ran, heap_of, writes, giving, more, ◌>>=◌}
use Rattle.machine.specs.Release.{join_next, put_down, join, consolidate, joined, release_past, release}
use Rattle.sound.specs.Relation.{tiled, Mem, Loose, Good}
use Rattle.sound.specs.Tiles.{tiled-split, end-le, end-append, starts-append}
use Rattle.sound.specs.Apart.{size-at, tiled-tiles, tiles-at}
use Rattle.sound.specs.Edits.{snoc-end, snoc-tiles, clear-is, to-top-is}
use Rattle.sound.specs.Join.{Joining, gap_here, next-ends, down_top, down-bin, join-here}
use Rattle.sound.specs.JoinLeaves.{join-leaves}
use Rattle.sound.specs.Drain.{NoFast, consolidate-leaves}

-- the tiles begin with a
pub record Below (a : List Tile) (h : Heap) : Type 0 where
  pub rest : List Tile
  pub tiles : h.tiles ≡ a ++ rest

-- the P of c is p, or the fast chunks were joined, and the chunk before c among them perhaps
abbrev pub OwnP : ℕ → ℕ → Heap → Type 0
OwnP c p h = (p_of h c ≡ p) ⊎ NoFast h

pub p-at : (h : Heap) (a : List Tile) (t : Tile) → tiled a → Below (a ++ t ∷ []) h → p_of h (end_from 0 a) ≡ t.p
p-at h a t f B = ap hd_p (tiles-at h a (t ∷ B.rest) (B.tiles ∙ snoc-tiles a B.rest t) f).1

heap-if : {A : Type 0} (P : Heap → Type 0) (t : Bool) (x y : Ran A) → P (heap_of x) → P (heap_of y) → P (heap_of {A = A} (elim t [ true ↦ x | false ↦ y ]))
heap-if P true x y p q = p
heap-if P false x y p q = q

pub heap-giving : {A B : Type 0} (b : B) (r : Ran A) → heap_of (giving b r) ≡ heap_of r
heap-giving b (ran h ws a) = refl

heap-more : {A : Type 0} (ws : List Write) (r : Ran A) → heap_of (more ws r) ≡ heap_of r
heap-more ws (ran h vs a) = refl

pub heap-then : {A B : Type 0} (r : Ran A) (f : Heap → Ran B) → heap_of (r >>= f) ≡ heap_of (f (heap_of r))
heap-then (ran h ws a) f = heap-more ws (f h)

-- ---- what is put down
down-below : (h : Heap) (a : List Tile) (n : ℕ) (t : Tile) (r : List Tile) → Joining h a t r n → Below a (heap_of (put_down (end_from 0 a) h))
down-below h a n t [] G =
    let c : ℕ = end_from 0 a in
    let f : tiled a × tiled (t ∷ []) = tiled-split a (t ∷ []) (subst tiled G.tiles (tiled-tiles h G.shape)) in
    let en : next h c ≡ top_of h = ap (λ (z : ℕ). c + z) (size-at h a [] t G.tiles f.0) ∙ sym (ap (end_from 0) G.tiles ∙ snoc-end a t) in
    record {
      rest = [];
      tiles = ap (λ (r : Ran ℕ). (heap_of r).tiles) (down_top c h en ∙ ap (giving (h.len - c)) (to-top-is h a t G.tiles G.shape)) ∙ sym (append-nil a);
    }
down-below h a n t (u ∷ r) G =
    let c : ℕ = end_from 0 a in
    let s = G.shape in
    let a₁ : List Tile = a ++ t ∷ [] in
    let e₁ : h.tiles ≡ a₁ ++ u ∷ r = G.tiles ∙ sym (snoc-tiles a (u ∷ r) t) in
    let x : ℕ = end_from 0 a₁ in
    let f : tiled a × tiled (t ∷ u ∷ r) = tiled-split a (t ∷ u ∷ r) (subst tiled G.tiles (tiled-tiles h s)) in
    let sz : size_of h c ≡ t.size = size-at h a (u ∷ r) t G.tiles f.0 in
    let en : next h c ≡ x = ap (λ (z : ℕ). c + z) sz ∙ sym (snoc-end a t) in
    let tp : top_of h ≡ end_from (x + u.size) r = ap (end_from 0) e₁ ∙ end-append 0 a₁ (u ∷ r) in
    let nt : next h c ≡ top_of h → ⊥ = λ q. omega (arith, en, tp, end-le (x + u.size) r, f.1.3.1) in
    record {
      rest = t ∷ tile u.size 0 t.size ∷ r;
      tiles = ap (λ (r : Ran ℕ). (heap_of r).tiles) (down-bin c x t.size h _ nt en sz (clear-is h [] a₁ r u e₁ s t.size)) ∙ snoc-tiles a (tile u.size 0 t.size ∷ r) t;
    }

-- ---- no tile of a is changed, or the fast chunks were joined too
abbrev pub Unmoved : List Tile → Heap → Type 0
Unmoved a h = Below a h ⊎ NoFast h

joined-unmoved : (a : List Tile) (w : List ℕ) (r : Ran ℕ) → Good (heap_of r) → Mem (heap_of r) (apply (writes r) w) → Below a (heap_of r) → Unmoved a (heap_of (joined r))
joined-unmoved a w (ran h ws s) g k B =
    heap-if (Unmoved a) (both (leb consolidate_from s) (any_fast? h)) (more ws (giving s (consolidate h))) (ran h ws s)
    (subst (Unmoved a) (sym (heap-more ws (giving s (consolidate h)) ∙ heap-giving s (consolidate h))) (inr (consolidate-leaves h (apply ws w) g k).now.empty))
    (inl B)

-- ---- release of a chunk whose P is set
module _ (h : Heap) (w : List ℕ) (a : List Tile) (t : Tile) (r : List Tile) (g : Good h) (k : Mem h w) (e : h.tiles ≡ a ++ t ∷ r) (one : t.p ≡ 1)
    (lo : total (end_from 0 a) h ≡ 0) where
  abbrev c : ℕ
  c = end_from 0 a

  join-below : Below a (heap_of (join c h))
  join-below =
      let f : tiled a × tiled (t ∷ r) = tiled-split a (t ∷ r) (subst tiled e (tiled-tiles h g.shape)) in
      let J = (next-ends h w a t r (top_size h) (gap_here h w a r t e g lo one) k).now in
      let p : p_of h c ≡ 1 = ap hd_p (tiles-at h a (t ∷ r) e f.0).1 ∙ one in
      let D = down-below (heap_of (join_next c h)) a (top_size h) J.t J.r J.gap in
      record {
        rest = D.rest;
        tiles = ap (λ (r : Ran ℕ). (heap_of r).tiles) (join-here c h (λ q. omega (arith, q, p)))
            ∙ ap (λ (h : Heap). h.tiles) (heap-then (join_next c h) (λ h. put_down c h)) ∙ D.tiles;
      }

  loose : Loose h c
  loose = omega (arith, lo, ap (λ (l : List Tile). cnt c (starts_from 0 l)) e, starts-append 0 a (t ∷ r) c, ind-same c)

  pub release-below : Unmoved a (heap_of (release c h))
  unfolding release release_past
  release-below =
      heap-if (Unmoved a) (both (leb (size_of h c) most_cached) (ltb (length (cache h (cache_of (size_of h c)))) cache_room)) _ _
      (inl (record { rest = t ∷ r; tiles = e }))
      (heap-if (Unmoved a) (leb (size_of h c) most_fast) _ _
      (inl (record { rest = t ∷ r; tiles = e }))
      (let L = join-leaves h w c g k loose in joined-unmoved a w (join c h) L.now.0 L.mem join-below))
