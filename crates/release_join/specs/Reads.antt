-- What the words tell of a tile in its place: size, P and note as the code reads them, and how far a chunk reaches.
-- By the tiles' words in parts. Assumes nothing.
use Rattle.std.specs.Prelude.{◌≡◌, refl, List, [], ◌∷◌, ◌++◌, ℕ, ◌+◌, ◌*◌, ◌%◌, ◌≤◌, length, get_or}
use Rattle.std.proofs.Common.{sym, ap, ◌∙◌, subst, append_assoc, inr, arith}
use Rattle.le.specs.Arena.{arena_words}
use Rattle.le.specs.ArenaLaws.{length-arena_words}
use Rattle.sizes.specs.Layout.{prev_word, size_word}
use Rattle.machine.specs.Heap.{Tile, tile, Heap, end_from, since, hd_size, hd_p, top_of, top_size, size_of, p_of, binned}
use Rattle.machine.specs.View.{size_at}
use Rattle.sound.specs.Relation.{all, tiled, tiles_at, Loose}
use Rattle.sound.specs.Tiles.{tiled-split, end-le, end-even, end-append, none_out, Place, place, tiles-split}
use Rattle.sound.specs.Frames.{end-all}
use Rattle.sound.specs.Apart.{tiled-tiles, tiles-at}
use Rattle.primitives.specs.Follow.{Ok}
use Rattle.primitives.specs.Chunks.{Inside}

-- the tile t stands at c
pub record Reads (w : List ℕ) (c : ℕ) (t : Tile) : Type 0 where
  pub size : size_at w c ≡ t.size
  pub p : get_or w (size_word c) 0 % 2 ≡ t.p
  pub note : t.p ≡ 0 → get_or w (prev_word c) 0 ≡ t.prev
  pub even : c % 16 ≡ 0
  pub whole : t.size % 16 ≡ 0
  pub least : 32 ≤ t.size
  pub bit : t.p ≤ 1
  pub high : c + t.size ≤ 8 * length w
  pub small : c + t.size ≤ 262144

pub reads-inside : (m : ℕ) (w : List ℕ) (c : ℕ) (t : Tile) → 8 * length w ≤ m → Reads w c t → Inside m c
reads-inside m w c t l k = record { even = k.even; high = omega (arith, k.high, k.least); small = omega (arith, k.small, k.least) }

pub all-at : (h : Heap) (a z : List Tile) → h.tiles ≡ a ++ z → all h ≡ a ++ (z ++ tile (top_size h) 1 0 ∷ [])
all-at h a z e = ap (λ (l : List Tile). l ++ tile (top_size h) 1 0 ∷ []) e ∙ append_assoc a z (tile (top_size h) 1 0 ∷ [])

module _ (h : Heap) (w r : List ℕ) (o : Ok h w r) where
  pub reads : (a z : List Tile) (t : Tile) → all h ≡ a ++ t ∷ z → Reads w (end_from 0 a) t
  reads a z t e =
      let c : ℕ = end_from 0 a in
      let s = o.shape in
      let k : tiles_at w 0 a × tiles_at w c (t ∷ z) = tiles-split w 0 a (t ∷ z) (subst (tiles_at w 0) e o.mem.words) in
      let f : tiled a × tiled (t ∷ z) = tiled-split a (t ∷ z) (subst tiled e s.sizes) in
      let n : end_from (c + t.size) z ≡ h.len = sym (end-append 0 a (t ∷ z)) ∙ ap (end_from 0) (sym e) ∙ end-all h s.sizes in
      record {
        size = omega (arith, k.1.0, f.1.0, f.1.2);
        p = omega (arith, k.1.0, f.1.0, f.1.2);
        note = k.1.1;
        even = end-even 0 a refl f.0;
        whole = f.1.0;
        least = f.1.1;
        bit = f.1.2;
        high = omega (arith, n, end-le (c + t.size) z, o.mem.long);
        small = omega (arith, n, end-le (c + t.size) z, s.small);
      }

  -- the top is in no bin
  pub top-free : binned h (top_of h) ≡ 0
  top-free = omega (arith, o.shape.own (top_of h), none_out h.tiles 0 (top_of h) (tiled-tiles h o.shape) (inr (omega arith)))

  -- a loose chunk as the code reads it
  pub record LooseReads (c : ℕ) : Type 0 where
    pub place : Place h.tiles 0 c
    pub reads : Reads w c place.t
    pub size : size_of h c ≡ size_at w c
    pub p : p_of h c ≡ get_or w (size_word c) 0 % 2

  pub loose-reads : (c : ℕ) → Loose h c → LooseReads c
  loose-reads c lo = go (place h.tiles 0 c (omega arith))
    where
      go : Place h.tiles 0 c → LooseReads c
      go P =
          let k : Reads w c P.t = subst (λ (c : ℕ). Reads w c P.t) (sym P.at)
          (reads P.a (P.z ++ tile (top_size h) 1 0 ∷ []) P.t (all-at h P.a (P.t ∷ P.z) P.tiles)) in
          let f : tiled P.a × tiled (P.t ∷ P.z) = tiled-split P.a (P.t ∷ P.z) (subst tiled P.tiles (tiled-tiles h o.shape)) in
          let s : since 0 c h.tiles ≡ P.t ∷ P.z = ap (λ (c : ℕ). since 0 c h.tiles) P.at ∙ (tiles-at h P.a (P.t ∷ P.z) P.tiles f.0).1 in
          record { place = P; reads = k; size = ap hd_size s ∙ sym k.size; p = ap hd_p s ∙ sym k.p }

-- the words do not reach past the bytes
pub arena-words-within : (a : List ℕ) → 8 * length (arena_words a) ≤ length a
arena-words-within a = omega (arith, length-arena_words a)

-- a chunk's size word lies inside
pub size-inside : {m c : ℕ} → Inside m c → (c % 8 ≡ 0) × (c + 16 ≤ m)
size-inside k = (omega (arith, k.even), omega (arith, k.high))
