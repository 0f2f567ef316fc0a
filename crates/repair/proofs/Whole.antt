-- The repair of words and record, from its parts: the walk over the lists tells what is free, the tiles and the record are written anew, and what is free goes to unsorted.
-- Assumes nothing.
use Rattle.std.specs.Prelude.{◌≡◌, Bool, true, false, eqb, ltb, length, get_or}
use Rattle.std.proofs.Math.Path.{refl, sym, ap}
use Rattle.std.proofs.Common.{◌∙◌, subst, ⊎_elim, arith, eq-eqb, ne_eqb, lt-ltb, le-ltb}
use mathlib.Core.List.{List, [], ◌∷◌, ◌++◌}
use Prim.Native.Nat.{ℕ, ◌+◌, ◌-◌, ◌*◌, ◌/◌, ◌^◌, ◌≤◌, ◌<◌}
use Rattle.sizes.specs.Layout.{top_word, key_low, key_high}
use Rattle.machine.specs.Heap.{Heap, end_from, record_of}
use Rattle.machine.specs.Writes.{Write, size, apply, Ran, ran, heap_of, writes, does, ◌>>=◌}
use Rattle.machine.specs.View.{key_in, tiles_of, view}
use Rattle.sound.specs.Relation.{Mem}
use Rattle.sound.specs.Tiles.{lt-or-le, tiled-join}
use Rattle.sound.specs.Frames.{apply-append}
use Rattle.primitives.specs.Follow.{Ok, Has, Gave}
use Rattle.audit_walks.specs.Tiles.{TilesOk, tiles-sound}
use Rattle.audit_walks.specs.Marks.{unmet_mark, Flagging}
use Rattle.audit_reached.specs.Reached.{reached_in, first_mark, reached_mark, ReachedBy}
use Rattle.audit_reached.specs.Tiled.{Tiled}
use Rattle.repair.specs.Repair.{free?, tiles_anew, free_anew, bare, tiles_on, tile_writes, put_all, repair}
use Rattle.repair.specs.Told.{Told, Anew, Bare, free_of, Unlisted, Mended}
use Rattle.repair.proofs.Mends.{Tiles, free-of-bare, bare-fits, bare-shape, bare-mem}

-- ---- the marks of the walk tell what is free
pub reached-told : (v : ℕ) (w r m : List ℕ) → ReachedBy v w r m → Told w m (free? v w r)
reached-told v w r m k = record { tells = λ x i. go x (reached_in v w r x) (k x i) }
  where
    go : (x j : ℕ) → get_or m (x / 16) 0 ≡ reached_mark j → ltb j 200 ≡ elim (eqb (get_or m (x / 16) 0) unmet_mark) [ true ↦ false | false ↦ true ]
    go x j e = ⊎_elim
        (λ l. let n : get_or m (x / 16) 0 ≡ first_mark + j = e ∙ rw (lt-ltb j 200 l, reached_mark) in
        lt-ltb j 200 l ∙ sym (rw (ne_eqb (get_or m (x / 16) 0) unmet_mark (λ z. omega arith))))
        (λ l. let n : get_or m (x / 16) 0 ≡ unmet_mark = e ∙ rw (le-ltb j 200 l, reached_mark) in
        le-ltb j 200 l ∙ sym (rw (eq-eqb (get_or m (x / 16) 0) unmet_mark n)))
        (lt-or-le j 200)

-- ---- the heap that is mended has good tiles
module _ (v : ℕ) (w r : List ℕ) (T : Tiled w r) (small : 8 * length w ≤ 262144) (halves : (i : ℕ) → i < 396 → get_or r i 0 < 2 ^ 32) where
  abbrev f : ℕ → Bool
  f = free? v w r

  good : TilesOk w 0 (tiles_of w) × (get_or r top_word 0 ≡ end_from 0 (tiles_of w))
  unfolding tiles_of
  good = tiles-sound (length w) w (get_or r top_word 0) 0 T.tiles

  pub view-flagging : Flagging w (get_or r top_word 0)
  view-flagging = record { tiles = good.0; at_top = good.1 }

  pub view-tiles : Tiles (view w r)
  view-tiles =
      let k = good.0 in
      record {
        small = small;
        sizes = tiled-join (tiles_of w) _ k.sizes (omega (arith, k.top), omega (arith, k.top, k.least), omega arith, tt);
      }

  pub view-key : key_in r < 2 ^ 64
  view-key = omega (arith, halves key_low (omega arith), halves key_high (omega arith))

  -- the new top lies before the old one's end
  pub anew-low : (u : List ℕ) (t : ℕ) → Anew f w t u → t < 262144
  anew-low u t A = let k = good.0 in omega (arith, A.top, (bare-fits f (view w r) view-tiles).ends, k.top, k.least)

  -- the tiles and the record anew
  module _ (u q : List ℕ) (t : ℕ) (A : Anew f w t u) (R : (h : Heap) → Bare h r t → q ≡ record_of h) where
    abbrev b : Heap
    b = bare f (view w r)

    tile-words : u ≡ apply (tile_writes b) w
    tile-words = A.words ∙ ap (λ (x : ℕ). apply (tiles_on 0 (tiles_anew f 0 0 (tiles_of w)) ++ (size x (8 * length w - x) 1 ∷ [])) w) A.top

    rec-words : q ≡ record_of b
    rec-words = R b (record { long = sym T.long; top = sym A.top; stacks = refl; bins = refl; remainder = refl; key = refl; edition = refl })

    anew-ok : Ok b u q
    anew-ok = record {
      shape = bare-shape f (view w r) view-tiles;
      mem = subst (λ (x : List ℕ). Mem b x) (sym tile-words) (bare-mem f (view w r) view-tiles w refl view-key T.edited);
      rec = rec-words;
    }

    anew-unlisted : Unlisted b t
    anew-unlisted = record { top = sym A.top; stacks = refl; bins = refl }

    pub anew-has : Has (λ h. Unlisted h t) u q
    anew-has = record { heap = b; ok = anew-ok; holds = anew-unlisted }

    -- and then what is free goes to unsorted
    repair-writes : (l : List ℕ) (x : Ran (Unit {0})) (g : Heap) (ws : List Write) → x ≡ put_all l g → (heap_of (does g ws >>= put_all l) ≡ heap_of x) × (writes (does g ws >>= put_all l) ≡ ws ++ writes x)
    repair-writes l (ran h vs s) g ws e = rw (sym e) (refl, refl)

    pub mended-by : (u' q' : List ℕ) → ((h : Heap) → Ok h u q → Unlisted h t → Gave (Unit {0}) (put_all (free_of h) h) tt u u' q') → Mended v w r u' q'
    unfolding repair
    mended-by u' q' P =
        let G = P b anew-ok anew-unlisted in
        let l : List ℕ = free_anew f 0 0 (tiles_of w) in
        let e : put_all (free_of b) b ≡ put_all l b = ap (λ (l : List ℕ). put_all l b) (free-of-bare f (view w r)) in
        let k = repair-writes l (put_all l b) b (tile_writes b) refl in
        record {
          words = G.bytes ∙ ap (λ (x : List ℕ). apply (writes (put_all (free_of b) b)) x) tile-words ∙ ap (λ (x : Ran (Unit {0})). apply (writes x) (apply (tile_writes b) w)) e
              ∙ sym (apply-append (tile_writes b) (writes (put_all l b)) w) ∙ ap (λ (ws : List Write). apply ws w) (sym k.1);
          rec = G.rec ∙ ap (λ (x : Ran (Unit {0})). record_of (heap_of x)) e ∙ ap record_of (sym k.0);
        }
