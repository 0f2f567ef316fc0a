-- The tiles anew, one a turn: those that are done stand in the words, which are as they were from the tile at hand on. By the tiles that are left. Assumes nothing.
use Rattle.std.specs.Prelude.{◌≡◌, refl, Bool, true, false, ℕ, ◌+◌, ◌-◌, ◌*◌, ◌/◌, ◌%◌, ◌≤◌, ◌<◌, get_or}
use Rattle.std.proofs.Math.Path.{sym, ap}
use Rattle.std.proofs.Common.{◌∙◌, ⊎_elim, arith, get_or-set_other, eq-eqb, ne_eqb}
use mathlib.Core.List.{List, [], ◌∷◌, ◌++◌, append_assoc, append-nil}
use Rattle.std.proofs.Math.ListN.{length}
use Rattle.machine.specs.Lists.{cnt}
use Rattle.machine.specs.Count.{eq?, cnt-here, cnt-there}
use Rattle.machine.specs.Heap.{Tile, tile, starts_from, end_from}
use Rattle.machine.specs.Writes.{size, note, put, apply}
use Rattle.machine.specs.View.{size_at, tiles_of}
use Rattle.sound.specs.Tiles.{end-le, end-append}
use Rattle.sound.specs.Frames.{apply-append}
use Rattle.audit_walks.specs.Tiles.{TilesOk, tiles-later, tile-read}
use Rattle.audit_walks.specs.Marks.{unmet_mark, Flagging, starts_of}
use Rattle.repair.specs.Repair.{ended, tiles_anew, tiles_on}
use Rattle.repair.proofs.AnewTiles.{on-append}
use Rattle.repair.specs.Told.{Told, Anew}

-- ---- the tiles that a held chunk o of s bytes makes of itself and of g free bytes before it, and their writes
ended-none : (g s : ℕ) → g ≡ 0 → ended g s ≡ tile s 1 0 ∷ []
ended-none g s e = rw (eq-eqb g 0 e, ended)

ended-free : (g s : ℕ) → (g ≡ 0 → ⊥) → ended g s ≡ tile g 1 0 ∷ tile s 0 g ∷ []
ended-free g s n = rw (ne_eqb g 0 n, ended)

pub stretch-none : (o g s : ℕ) (v : List ℕ) → g ≡ 0 → apply (tiles_on (o - g) (ended g s)) v ≡ put (size o s 1) v
unfolding tiles_on
stretch-none o g s v e =
    let d : o - g ≡ o = omega arith in
    ap (λ (ts : List Tile). apply (tiles_on (o - g) ts) v) (ended-none g s e) ∙ ap (λ (x : ℕ). put (size x s 1) v) d

pub stretch-free : (o g s : ℕ) (v : List ℕ) → (g ≡ 0 → ⊥) → g ≤ o
    → apply (tiles_on (o - g) (ended g s)) v ≡ put (note o g) (put (size o s 0) (put (size (o - g) g 1) v))
unfolding tiles_on
stretch-free o g s v n l =
    let d : o - g + g ≡ o = omega arith in
    ap (λ (ts : List Tile). apply (tiles_on (o - g) ts) v) (ended-free g s n)
    ∙ ap (λ (x : ℕ). put (note x g) (put (size x s 0) (put (size (o - g) g 1) v))) d

-- they end before the chunk does
stretch-ahead : (o g s i : ℕ) (v : List ℕ) → o % 16 ≡ 0 → g ≤ o → 32 ≤ s → (o + s) / 8 ≤ i → get_or (apply (tiles_on (o - g) (ended g s)) v) i 0 ≡ get_or v i 0
stretch-ahead o g s i v e l m h =
    ⊎_elim
    (λ z. ap (λ (x : List ℕ). get_or x i 0) (stretch-none o g s v z) ∙ get_or-set_other v (o / 8 + 1) i (s + 1) 0 (λ q. omega arith))
    (λ z. ap (λ (x : List ℕ). get_or x i 0) (stretch-free o g s v z l)
    ∙ get_or-set_other (put (size o s 0) (put (size (o - g) g 1) v)) (o / 8 + 0) i g 0 (λ q. omega arith)
    ∙ get_or-set_other (put (size (o - g) g 1) v) (o / 8 + 1) i (s + 0) 0 (λ q. omega arith)
    ∙ get_or-set_other v ((o - g) / 8 + 1) i (g + 1) 0 (λ q. omega arith))
    (eq? g 0)

stretch-end : (o g s : ℕ) → g ≤ o → end_from (o - g) (ended g s) ≡ o + s
stretch-end o g s l =
    ⊎_elim (λ z. ap (end_from (o - g)) (ended-none g s z) ∙ omega arith) (λ z. ap (end_from (o - g)) (ended-free g s z) ∙ omega arith) (eq? g 0)

-- ---- a tile that a list reached, and one that is held
anew-free : (f : ℕ → Bool) (g o : ℕ) (t : Tile) (ts : List Tile) → f o ≡ true → tiles_anew f g o (t ∷ ts) ≡ tiles_anew f (g + t.size) (o + t.size) ts
unfolding tiles_anew
anew-free f g o t ts e = rw (e, tiles_anew)

anew-held : (f : ℕ → Bool) (g o : ℕ) (t : Tile) (ts : List Tile) → f o ≡ false
    → tiles_anew f g o (t ∷ ts) ≡ ended g t.size ++ tiles_anew f 0 (o + t.size) ts
unfolding tiles_anew
anew-held f g o t ts e = rw (e, tiles_anew)

-- ---- the loop: v, the words so far; done: the tiles that stand in them; ts: the tiles that are left
pub record AnewIn (w m : List ℕ) (top o g : ℕ) (v : List ℕ) : Type 0 where
  pub ts : List Tile
  pub done : List Tile
  pub even : o % 16 ≡ 0
  pub whole : g % 16 ≡ 0
  pub less : g ≤ o
  pub tiles : TilesOk w o ts
  pub at_top : end_from o ts ≡ top
  pub sub : (x : ℕ) → 1 ≤ cnt x (starts_from o ts) → 1 ≤ cnt x (starts_of w)
  pub ends : end_from 0 done ≡ o - g
  pub words : v ≡ apply (tiles_on 0 done) w
  pub ahead : (i : ℕ) → o / 8 ≤ i → get_or v i 0 ≡ get_or w i 0
  pub same : (f : ℕ → Bool) → Told w m f → tiles_anew f 0 0 (tiles_of w) ≡ done ++ tiles_anew f g o ts

pub anew-enter : (w m : List ℕ) (top : ℕ) → Flagging w top → AnewIn w m top 0 0 w
unfolding tiles_on
anew-enter w m top k = record {
  ts = tiles_of w;
  done = [];
  even = refl;
  whole = refl;
  less = omega arith;
  tiles = k.tiles;
  at_top = sym k.at_top;
  sub = λ x i. i;
  ends = refl;
  words = refl;
  ahead = λ i l. refl;
  same = λ f h. refl;
}

module _ (w m : List ℕ) (top o g : ℕ) (v : List ℕ) (i : AnewIn w m top o g v) where
  pub anew-low : (o ≤ top) × (top + 32 ≤ 8 * length w)
  anew-low = (omega (arith, end-le o i.ts, i.at_top), omega (arith, i.tiles.top, i.tiles.least, i.at_top))

  -- the size that is read is the tile's
  pub anew-read : size_at v o ≡ size_at w o
  anew-read = ap (λ (x : ℕ). x / 16 * 16) (i.ahead (o / 8 + 1) (omega arith))

  pub anew-size : o < top → (32 ≤ size_at w o) × (o + size_at w o ≤ top)
  anew-size lt = go i.ts i.tiles i.at_top
    where
      go : (ts : List Tile) → TilesOk w o ts → end_from o ts ≡ top → (32 ≤ size_at w o) × (o + size_at w o ≤ top)
      go [] k a = absurd (omega arith)
      go (t ∷ ts) k a =
          let d : size_at w o ≡ t.size = ap (λ (z : Tile). z.size) (tile-read w o t ts k) in
          (omega (arith, d, k.sizes.1), omega (arith, d, end-le (o + t.size) ts))

  pub anew-turn-free : (s : ℕ) → s ≡ size_at w o → o < top → (get_or m (o / 16) 0 ≡ unmet_mark → ⊥) → AnewIn w m top (o + s) (g + s) v
  anew-turn-free s z lt n = go i.ts i.tiles i.at_top i.sub i.same
    where
      go : (ts : List Tile) → TilesOk w o ts → end_from o ts ≡ top → ((x : ℕ) → 1 ≤ cnt x (starts_from o ts) → 1 ≤ cnt x (starts_of w))
          → ((f : ℕ → Bool) → Told w m f → tiles_anew f 0 0 (tiles_of w) ≡ i.done ++ tiles_anew f g o ts) → AnewIn w m top (o + s) (g + s) v
      go [] k a u q = absurd (omega arith)
      go (t ∷ ts) k a u q =
          let d : s ≡ t.size = z ∙ ap (λ (z : Tile). z.size) (tile-read w o t ts k) in
          record {
            ts = ts;
            done = i.done;
            even = omega (arith, d, i.even, k.sizes.0);
            whole = omega (arith, d, i.whole, k.sizes.0);
            less = omega (arith, i.less);
            tiles = rw d (tiles-later w o t ts k);
            at_top = rw d a;
            sub = λ x j. u x (cnt-there x o (starts_from (o + t.size) ts) (rw d at j));
            ends = i.ends ∙ omega (arith, i.less);
            words = i.words;
            ahead = λ x l. i.ahead x (omega arith);
            same = λ f h.
                let e : f o ≡ true = h.tells o (u o (cnt-here o (starts_from (o + t.size) ts))) ∙ rw (ne_eqb (get_or m (o / 16) 0) unmet_mark n) in
                rw d (q f h ∙ ap (λ (x : List Tile). i.done ++ x) (anew-free f g o t ts e));
          }

  pub anew-turn-held : (s : ℕ) (u : List ℕ) → s ≡ size_at w o → o < top → get_or m (o / 16) 0 ≡ unmet_mark → u ≡ apply (tiles_on (o - g) (ended g s)) v
      → AnewIn w m top (o + s) 0 u
  anew-turn-held s u z lt n p = go i.ts i.tiles i.at_top i.sub i.same
    where
      go : (ts : List Tile) → TilesOk w o ts → end_from o ts ≡ top → ((x : ℕ) → 1 ≤ cnt x (starts_from o ts) → 1 ≤ cnt x (starts_of w))
          → ((f : ℕ → Bool) → Told w m f → tiles_anew f 0 0 (tiles_of w) ≡ i.done ++ tiles_anew f g o ts) → AnewIn w m top (o + s) 0 u
      go [] k a b q = absurd (omega arith)
      go (t ∷ ts) k a b q =
          let d : s ≡ t.size = z ∙ ap (λ (z : Tile). z.size) (tile-read w o t ts k) in
          record {
            ts = ts;
            done = i.done ++ ended g s;
            even = omega (arith, d, i.even, k.sizes.0);
            whole = refl;
            less = omega arith;
            tiles = rw d (tiles-later w o t ts k);
            at_top = rw d a;
            sub = λ x j. b x (cnt-there x o (starts_from (o + t.size) ts) (rw d at j));
            ends = end-append 0 i.done (ended g s) ∙ ap (λ (x : ℕ). end_from x (ended g s)) i.ends ∙ omega (arith, stretch-end o g s i.less);
            words = p ∙ ap (λ (x : List ℕ). apply (tiles_on (o - g) (ended g s)) x) i.words
                ∙ ap (λ (x : ℕ). apply (tiles_on x (ended g s)) (apply (tiles_on 0 i.done) w)) (sym i.ends)
                ∙ sym (ap (λ x. apply x w) (on-append 0 i.done (ended g s)) ∙ apply-append (tiles_on 0 i.done) (tiles_on (end_from 0 i.done) (ended g s)) w);
            ahead = λ x l. ap (λ (y : List ℕ). get_or y x 0) p ∙ stretch-ahead o g s x v i.even i.less (omega (arith, d, k.sizes.1)) l ∙ i.ahead x (omega arith);
            same = λ f h.
                let e : f o ≡ false = h.tells o (b o (cnt-here o (starts_from (o + t.size) ts))) ∙ rw (eq-eqb (get_or m (o / 16) 0) unmet_mark n) in
                rw (d, append_assoc) (q f h ∙ ap (λ (x : List Tile). i.done ++ x) (anew-held f g o t ts e));
          }

  pub anew-last : (n : ℕ) (u : List ℕ) → n ≡ 8 * length w → top ≤ o → u ≡ put (size (o - g) (n - (o - g)) 1) v → (f : ℕ → Bool) → Told w m f → Anew f w (o - g) u
  unfolding tiles_anew
  anew-last n u z le p f h = go i.ts i.tiles i.at_top (i.same f h)
    where
      go : (ts : List Tile) → TilesOk w o ts → end_from o ts ≡ top → tiles_anew f 0 0 (tiles_of w) ≡ i.done ++ tiles_anew f g o ts → Anew f w (o - g) u
      go [] k a q =
          let e : i.done ≡ tiles_anew f 0 0 (tiles_of w) = sym (q ∙ append-nil i.done) in
          record {
            top = sym i.ends ∙ ap (end_from 0) e;
            words = p ∙ ap (λ (x : ℕ). put (size (o - g) (x - (o - g)) 1) v) z ∙ ap (put (size (o - g) (8 * length w - (o - g)) 1)) i.words
                ∙ sym (apply-append (tiles_on 0 i.done) (size (o - g) (8 * length w - (o - g)) 1 ∷ []) w)
                ∙ ap (λ (x : List Tile). apply (tiles_on 0 x ++ (size (o - g) (8 * length w - (o - g)) 1 ∷ [])) w) e;
          }
      go (t ∷ ts) k a q = absurd (omega (arith, end-le (o + t.size) ts, k.sizes.1))
