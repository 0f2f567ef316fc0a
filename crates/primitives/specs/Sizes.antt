-- What the size words say of a chunk and of the top, and that a P set or cleared by them follows the machine: the tiles end where they did, so the record
-- stays. By the tiles before a chunk and from it on. Assumes nothing.
use Rattle.std.specs.Prelude.{◌≡◌, refl, List, [], ◌∷◌, ◌++◌, ℕ, ◌+◌, ◌%◌, ◌≤◌, get_or}
use Rattle.std.proofs.Common.{sym, ◌∙◌, subst, arith}
use Rattle.std.proofs.Math.Path.{ap}
use Rattle.sizes.specs.Layout.{size_word, top_word}
use Rattle.machine.specs.Lists.{cnt}
use Rattle.machine.specs.Heap.{Tile, tile, Heap, end_from, since, up_to, edit, top_of, top_size, starts, size_of, p_of, hd_p, record_of}
use Rattle.machine.specs.Writes.{size, put}
use Rattle.machine.specs.Primitives.{mark_t, set_p}
use Rattle.machine.specs.View.{size_at}
use Rattle.sound.specs.Relation.{tiled, tiles_at, MemBy, Shape}
use Rattle.sound.specs.Tiles.{tiled-split, end-append, place, tiles-split}
use Rattle.sound.specs.Apart.{size-at, tiled-tiles, tiles-at}
use Rattle.sound.specs.RecordOf.{record-top, record-with_tiles, set-id}
use Rattle.primitives.specs.Follow.{Ok, Gave}

-- the size word of the chunk c says its size and its P
pub record Says (h : Heap) (w : List ℕ) (c : ℕ) : Type 0 where
  pub size : size_at w c ≡ size_of h c
  pub p : get_or w (size_word c) 0 % 2 ≡ p_of h c

module _ (h : Heap) (s : Shape h) where
  top-tile : List Tile
  top-tile = tile (top_size h) 1 0 ∷ []

  -- by any version of the rules
  module _ {v : ℕ} (w : List ℕ) (m : MemBy v h w) where
    place-says : (a z : List Tile) (t : Tile) → h.tiles ≡ a ++ t ∷ z → Says h w (end_from 0 a)
    unfolding top-tile
    place-says a z t e =
        let k : tiles_at w 0 a × tiles_at w (end_from 0 a) (t ∷ z) = tiles-split w 0 a (t ∷ z) (subst (tiles_at w 0) e (tiles-split w 0 h.tiles top-tile m.words).0) in
        let f : tiled a × tiled (t ∷ z) = tiled-split a (t ∷ z) (subst tiled e (tiled-tiles h s)) in
        let u : p_of h (end_from 0 a) ≡ t.p = ap hd_p (tiles-at h a (t ∷ z) e f.0).1 in
        let z : size_of h (end_from 0 a) ≡ t.size = size-at h a z t e f.0 in
        record { size = omega (arith, k.1.0, f.1.0, f.1.2); p = omega (arith, k.1.0, f.1.0, f.1.2) }

    pub chunk-says : (c : ℕ) → 1 ≤ cnt c (starts h) → Says h w c
    chunk-says c i = let q = place h.tiles 0 c i in subst (Says h w) (sym q.at) (place-says q.a q.z q.t q.tiles)

    top-word : (get_or w (size_word (top_of h)) 0 ≡ top_size h + 1) × (top_size h % 16 ≡ 0)
    unfolding top-tile
    top-word = ((tiles-split w 0 h.tiles top-tile m.words).1.0, (tiled-split h.tiles top-tile s.sizes).1.0)

    pub top-size : size_at w (top_of h) ≡ top_size h
    top-size = omega (arith, top-word.0, top-word.1)

  -- ---- a mark of a chunk keeps where the tiles end
  place_end : (a z : List Tile) (t : Tile) (b k : ℕ) → h.tiles ≡ a ++ t ∷ z → top_of (edit (end_from 0 a) (mark_t b k) h) ≡ top_of h
  place_end a z t b k e =
      let f = tiled-split a (t ∷ z) (subst tiled e (tiled-tiles h s)) in
      let u = tiles-at h a (t ∷ z) e f.0 in
      ap (λ (l : List Tile). end_from 0 (l ++ mark_t b k (since 0 (end_from 0 a) h.tiles))) u.0 ∙ ap (λ (l : List Tile). end_from 0 (a ++ mark_t b k l)) u.1
      ∙ end-append 0 a (tile t.size b k ∷ z) ∙ sym (end-append 0 a (t ∷ z)) ∙ ap (end_from 0) (sym e)

  pub mark-record : (n b k : ℕ) → 1 ≤ cnt n (starts h) → record_of (edit n (mark_t b k) h) ≡ record_of h
  mark-record n b k i =
      let q = place h.tiles 0 n i in
      let e : top_of (edit n (mark_t b k) h) ≡ top_of h = subst (λ (n : ℕ). top_of (edit n (mark_t b k) h) ≡ top_of h) (sym q.at) (place_end q.a q.z q.t b k q.tiles) in
      record-with_tiles h (up_to 0 n h.tiles ++ mark_t b k (since 0 n h.tiles))
      ∙ set-id (record_of h) top_word (top_of (edit n (mark_t b k) h)) (record-top h s.stacked74 s.binned127 ∙ sym e)

module _ (h : Heap) (w r : List ℕ) (o : Ok h w r) (n : ℕ) (i : 1 ≤ cnt n (starts h)) where
  pub set-p-gave : (v : List ℕ) → v ≡ put (size n (size_at w n) 1) w → Gave (Unit {0}) (set_p n h) tt w v r
  set-p-gave v e = record {
    says = refl;
    bytes = e ∙ ap (λ (z : ℕ). put (size n z 1) w) (chunk-says h o.shape w o.mem n i).size;
    rec = o.rec ∙ sym (mark-record h o.shape n 1 0 i);
  }
