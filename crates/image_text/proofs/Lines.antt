-- The tiles in a form f: what is written and what is left are the whole text, and there are at most 201 bytes for each 32 passed. By the
-- tiles that are left, one a turn. Assumes nothing.
use mathlib.Core.Path.{◌≡◌, refl, sym, ap, ◌∙◌}
use mathlib.Core.List.{List, [], ◌∷◌, ◌++◌, append_assoc}
use Prim.Native.Nat.{ℕ, ◌+◌, ◌-◌, ◌*◌, ◌/◌, ◌%◌, ◌≤◌, ◌<◌}
use native.Mathlib.Omega.{arith}
use lib.ListN.{length, get_or}
use Rattle.le.specs.Arena.{arena_words}
use Rattle.machine.specs.Lists.{cnt}
use Rattle.machine.specs.Count.{cnt-here, cnt-there}
use Rattle.machine.specs.Heap.{Tile, starts_from, end_from}
use Rattle.machine.specs.View.{size_at, tiles_of}
use Rattle.sound.specs.Tiles.{end-le}
use Rattle.audit_walks.specs.Tiles.{TilesOk, tiles-later, tile-read}
use Rattle.audit_walks.specs.Marks.{ArenaBytes, Flagging, starts_of}
use Rattle.audit_walks.specs.TileTurn.{arena-length}
use Rattle.audit_reached.specs.Reached.{ReachedBy, reached_in, reached_mark}
use Rattle.image_text.specs.declared.Form.{Form}
use Rattle.image_text.specs.ImageText.{top_word, state_text, form_text, tiles_text}

line-more : (f : Form) (list : ℕ → ℕ) (n o : ℕ) (t : Tile) (ts : List Tile) (x y : List ℕ) → y ≡ x ++ form_text f o t.size (state_text (list o))
    → y ++ tiles_text f list n (o + t.size) ts ≡ x ++ tiles_text f list n o (t ∷ ts)
unfolding tiles_text
line-more f list n o t ts x y e = rw (e, append_assoc)

-- ---- the loop: p, the text before it, and x, the text so far, with the bytes before and so far; ts: the tiles that are left
pub record LinesIn (f : Form) (w m : List ℕ) (n top from at o : ℕ) (p x : List ℕ) : Type 0 where
  pub ts : List Tile
  pub even : o % 16 ≡ 0
  pub tiles : TilesOk w o ts
  pub at_top : end_from o ts ≡ top
  pub sub : (c : ℕ) → 1 ≤ cnt c (starts_from o ts) → 1 ≤ cnt c (starts_of w)
  pub room : at ≤ from + 201 * (o / 32)
  pub same : (v : ℕ) (r : List ℕ) → ReachedBy v w r m → x ++ tiles_text f (reached_in v w r) n o ts ≡ p ++ tiles_text f (reached_in v w r) n 0 (tiles_of w)

pub lines-enter : (f : Form) (w m : List ℕ) (n top from : ℕ) (p : List ℕ) → Flagging w top → LinesIn f w m n top from from 0 p p
lines-enter f w m n top from p k =
    record { ts = tiles_of w; even = refl; tiles = k.tiles; at_top = sym k.at_top; sub = λ c i. i; room = omega arith; same = λ v r h. refl }

pub lines-low : (f : Form) (a m : List ℕ) (n top from at o : ℕ) (p x : List ℕ) → ArenaBytes a → LinesIn f (arena_words a) m n top from at o p x
    → (o ≤ top) × (top + 32 ≤ length a)
lines-low f a m n top from at o p x b i =
    (omega (arith, end-le o i.ts, i.at_top), omega (arith, i.tiles.top, i.tiles.least, i.at_top, arena-length a b))

module _ (f : Form) (w m : List ℕ) (n top from at o : ℕ) (p x : List ℕ) (i : LinesIn f w m n top from at o p x) where
  pub lines-size : o < top → (32 ≤ size_at w o) × (o + size_at w o ≤ top)
  lines-size lt = go i.ts i.tiles i.at_top
    where
      go : (ts : List Tile) → TilesOk w o ts → end_from o ts ≡ top → (32 ≤ size_at w o) × (o + size_at w o ≤ top)
      go [] k a = absurd (omega arith)
      go (t ∷ ts) k a =
          let d : size_at w o ≡ t.size = ap (λ (z : Tile). z.size) (tile-read w o t ts k) in
          (omega (arith, d, k.sizes.1), omega (arith, d, end-le (o + t.size) ts))

  pub lines-turn : (y : List ℕ) (b s : ℕ) → s ≡ size_at w o → o < top → b ≤ at + 201
      → ((j : ℕ) → get_or m (o / 16) 0 ≡ reached_mark j → y ≡ x ++ form_text f o s (state_text j)) → LinesIn f w m n top from b (o + s) p y
  lines-turn y b s z lt less e = go i.ts i.tiles i.at_top i.sub i.same
    where
      go : (ts : List Tile) → TilesOk w o ts → end_from o ts ≡ top → ((c : ℕ) → 1 ≤ cnt c (starts_from o ts) → 1 ≤ cnt c (starts_of w))
          → ((v : ℕ) (r : List ℕ) → ReachedBy v w r m → x ++ tiles_text f (reached_in v w r) n o ts ≡ p ++ tiles_text f (reached_in v w r) n 0 (tiles_of w))
          → LinesIn f w m n top from b (o + s) p y
      go [] k a u q = absurd (omega arith)
      go (t ∷ ts) k a u q =
          let d : s ≡ t.size = z ∙ ap (λ (z : Tile). z.size) (tile-read w o t ts k) in
          record {
            ts = ts;
            even = omega (arith, d, i.even, k.sizes.0);
            tiles = rw d (tiles-later w o t ts k);
            at_top = rw d a;
            sub = λ c j. u c (cnt-there c o (starts_from (o + t.size) ts) (rw d at j));
            room = omega (arith, d, i.room, k.sizes.1);
            same = λ v r h.
                let line = e (reached_in v w r o) (h o (u o (cnt-here o (starts_from (o + t.size) ts)))) in
                rw d (line-more f (reached_in v w r) n o t ts x y (rw d at line) ∙ q v r h);
          }

  pub lines-last : (y : List ℕ) → top ≤ o → y ≡ x ++ form_text f top (n - top) top_word → (v : ℕ) (r : List ℕ) → ReachedBy v w r m
      → y ≡ p ++ tiles_text f (reached_in v w r) n 0 (tiles_of w)
  unfolding tiles_text
  lines-last y le e v r h = go i.ts i.tiles i.at_top (i.same v r h)
    where
      go : (ts : List Tile) → TilesOk w o ts → end_from o ts ≡ top → x ++ tiles_text f (reached_in v w r) n o ts ≡ p ++ tiles_text f (reached_in v w r) n 0 (tiles_of w)
          → y ≡ p ++ tiles_text f (reached_in v w r) n 0 (tiles_of w)
      go [] k a s = e ∙ rw (sym a) s
      go (t ∷ ts) k a s = absurd (omega (arith, end-le (o + t.size) ts, k.sizes.1))
