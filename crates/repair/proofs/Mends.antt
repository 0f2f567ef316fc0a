-- A heap whose tiles fill an allowed arena is good after its repair, and its words stand, whatever is told free. Its free chunks are in unsorted. Assumes nothing.
use Rattle.std.specs.Prelude.{◌≡◌, refl, List, [], ◌∷◌, ◌++◌, ◌⊎◌, Bool, ℕ, zero, suc, ◌+◌, ◌*◌, ◌≤◌, ◌<◌, ◌^◌, length, get_or, set, replicate}
use Rattle.std.proofs.Common.{sym, ap, ◌∙◌, subst, append_assoc, append-nil, inl, not-suc-le-zero, arith, length-set, get_or-set_same, set-set}
use Rattle.std.proofs.lemmas.List.{set-get_or}
use Rattle.sizes.specs.Limits.{none64, most_arena, large, unsorted, plain, mixed}
use Rattle.sizes.specs.Layout.{key_word}
use Rattle.machine.specs.Lists.{cnt}
use Rattle.machine.specs.Count.{ind-same, cnt-append, cnt_all-set}
use Rattle.machine.specs.Heap.{Tile, tile, Heap, bin, with_bin, top_of, top_size, starts, size_of, total}
use Rattle.machine.specs.Writes.{Write, apply, Ran, ran, heap_of, writes, more}
use Rattle.machine.specs.Skips.{skips}
use Rattle.sound.specs.Relation.{all, tiled, tiles_at, chain_by, links, stand, Mem, Shape}
use Rattle.sound.specs.Tiles.{tiled-split, tiled-join, end-even}
use Rattle.sound.specs.Frames.{end-all, apply-length}
use Rattle.sound.specs.Rings.{kind-case}
use Rattle.sound.specs.Lists.{link-shape, link-mem}
use Rattle.sound.specs.Opened.{cnt_all-none, of_none}
use Rattle.sound.specs.Ends.{Ends, ends_more}
use Rattle.repair.specs.Repair.{tiles_anew, free_anew, bare, tile_writes, put_last, put_all}
use Rattle.repair.specs.Told.{free_from}
use Rattle.repair.proofs.AnewTiles.{Fits, anew-fits, anew-told, writes-all, on-stands}

-- what is asked of the heap that is mended: its tiles fill an allowed arena
pub record Tiles (h : Heap) : Type 0 where
  pub small : h.len ≤ most_arena
  pub sizes : tiled (all h)

-- all but unsorted
pub but-one : (n : ℕ) (l : List ℕ) (j : ℕ) → 2 ≤ j → (P : List ℕ → Type 0) → P [] → P (get_or ([] ∷ l ∷ replicate n []) j [])
but-one n l zero u P p = absurd (omega (arith, u))
but-one n l (suc zero) u P p = absurd (omega (arith, u))
but-one n l (suc (suc j)) u P p = of_none n j P p

-- ---- the heap with no list
pub free-of-bare : (f : ℕ → Bool) (h : Heap) → free_from 0 (bare f h).tiles ≡ free_anew f 0 0 h.tiles
free-of-bare f h = anew-told f 0 0 h.tiles 0 refl

module _ (f : ℕ → Bool) (h : Heap) (t : Tiles h) where
  parts : tiled h.tiles × tiled (tile (top_size h) 1 0 ∷ [])
  parts = tiled-split h.tiles (tile (top_size h) 1 0 ∷ []) t.sizes

  pub bare-fits : Fits 0 (top_of h) (tiles_anew f 0 0 h.tiles) (free_anew f 0 0 h.tiles)
  bare-fits = anew-fits f 0 0 h.tiles 0 refl (refl, inl refl) parts.0

  -- with the top they fill the arena
  pub anew-tiled : tiled (all (bare f h))
  anew-tiled =
      let us : List Tile = tiles_anew f 0 0 h.tiles in
      let k = bare-fits in
      let p = parts in
      let eh = end-even 0 h.tiles refl p.0 in
      let eu = end-even 0 us refl k.sizes in
      tiled-join us (tile (top_size (bare f h)) 1 0 ∷ []) k.sizes
      (omega (arith, eh, eu, p.1.0, p.1.1, k.ends), omega (arith, p.1.1, k.ends), omega arith, tt)

  pub bare-shape : Shape (bare f h)
  bare-shape = record {
    small = t.small;
    sizes = anew-tiled;
    stacked74 = refl;
    binned127 = refl;
    own = λ x. omega (arith, cnt_all-none 74 x, cnt_all-none 127 x);
    roomy = λ j x p. of_none 127 j (λ l. 1 ≤ cnt x l → large ≤ size_of (bare f h) x) (λ i. absurd (not-suc-le-zero i));
  }

  pub bare-mem : (w : List ℕ) → 8 * length w ≡ h.len → h.key < 2 ^ 64 → (h.edition ≡ plain) ⊎ (h.edition ≡ mixed)
      → Mem (bare f h) (apply (tile_writes (bare f h)) w)
  bare-mem w e q ed =
      let v : List ℕ = apply (tile_writes (bare f h)) w in
      record {
        long = ap (λ (n : ℕ). 8 * n) (apply-length (tile_writes (bare f h)) w) ∙ e;
        words = subst (λ (ws : List Write). tiles_at (apply ws w) 0 (all (bare f h))) (sym (writes-all (bare f h)))
            (on-stands 0 (all (bare f h)) w refl anew-tiled (omega (arith, e, end-all (bare f h) anew-tiled)));
        chains = λ k. of_none 74 k (chain_by h.edition v) tt;
        blinks = λ j. of_none 127 j (λ l. links v none64 l none64) tt;
        keys = λ z k x p. of_none 74 k (λ l. 1 ≤ cnt x l → get_or v (key_word x) 0 ≡ h.key) (λ i. absurd (not-suc-le-zero i));
        key64 = q;
        edited = ed;
        skipped = λ z j. of_none 127 j (λ l. stand (skips j (λ x. size_of (bare f h) x) l) v)
            (kind-case (λ ws. stand ws v) j [] [] (λ z. tt) (λ z. tt) tt);
      }

-- ---- one after the other goes last in unsorted, and no other list, nor a tile, changes
pub heap-more : {A : Type 0} (ws : List Write) (r : Ran A) → heap_of (more ws r) ≡ heap_of r
heap-more ws (ran h vs a) = refl

abbrev with_bins : List (List ℕ) → Heap → Heap
with_bins b h = record { len = h.len; tiles = h.tiles; stacks = h.stacks; bins = b; remainder = h.remainder; key = h.key; edition = h.edition }

pub put_all-heap : (l : List ℕ) (h : Heap) → unsorted < length h.bins → heap_of (put_all l h) ≡ with_bin unsorted (bin h unsorted ++ l) h
unfolding put_all
put_all-heap [] h lt = ap (λ (b : List (List ℕ)). with_bins b h) (sym (ap (set h.bins unsorted) (append-nil (bin h unsorted)) ∙ set-get_or h.bins unsorted []))
put_all-heap (c ∷ l) h lt =
    let xs : List ℕ = bin h unsorted in
    let ys : List ℕ = xs ++ c ∷ [] in
    let h1 : Heap = heap_of (put_last c h) in
    heap-more (writes (put_last c h)) (put_all l h1)
    ∙ put_all-heap l h1 (omega (arith, lt, length-set h.bins unsorted ys))
    ∙ ap (λ (b : List (List ℕ)). with_bins b h)
    (set-set h.bins unsorted ys (bin h1 unsorted ++ l)
    ∙ ap (set h.bins unsorted) (ap (λ (z : List ℕ). z ++ l) (get_or-set_same h.bins unsorted ys [] lt) ∙ append_assoc xs (c ∷ []) l))

pub put_all-ends : (l : List ℕ) (h : Heap) (w : List ℕ) → Shape h → Mem h w → ((x : ℕ) → total x h + cnt x l ≤ cnt x (starts h)) → Ends (put_all l h) w Shape
unfolding put_all
put_all-ends [] h w s m own = record { mem = m; now = s }
put_all-ends (c ∷ l) h w s m own =
    let xs : List ℕ = bin h unsorted in
    let hj : unsorted < length h.bins = omega (arith, s.binned127) in
    let lo : total c h < cnt c (starts h) = omega (arith, own c, ind-same c) in
    let ws : List Write = writes (put_last c h) in
    let h1 : Heap = heap_of (put_last c h) in
    ends_more ws (put_all l h1)
    (put_all-ends l h1 (apply ws w)
    (link-shape h unsorted c xs [] s hj lo (sym (append-nil xs)) (λ z. absurd (omega (arith, z))))
    (link-mem h w unsorted c xs [] s m hj lo (sym (append-nil xs)) (λ z. absurd (omega (arith, z))))
    (λ x. omega (arith, own x, cnt_all-set x h.bins unsorted (xs ++ c ∷ []) hj, cnt-append x xs (c ∷ []))))
