-- The turns of the flag loop, and its ways out: the fault from the tile at hand on is the whole's, for whatever bins the marks tell of. Assumes nothing.
use Rattle.std.specs.Prelude.{◌≡◌, refl, List, [], ◌∷◌, Bool, true, false, ℕ, ◌+◌, ◌*◌, ◌%◌, ◌≤◌, ◌<◌, eqb, length, get_or, Ok, Err}
use Rattle.std.proofs.Common.{sym, ap, ◌∙◌, subst, arith}
use Rattle.sizes.specs.Layout.{prev_word, size_word}
use Rattle.machine.specs.Lists.{both, cnt}
use Rattle.machine.specs.Count.{cnt-here, cnt-there}
use Rattle.machine.specs.Heap.{Tile, tile, starts_from, end_from}
use Rattle.machine.specs.View.{size_at, low_at, tile_at, tiles_of}
use Rattle.machine.specs.Audit.{flag_ok, flag_fault}
use Rattle.machine.specs.declared.Fault.TheVariants as A
use Rattle.sound.specs.Tiles.{end-le}
use Rattle.audit_walks.specs.Tiles.{TilesOk, tiles-later, tile-read}
use Rattle.audit_walks.specs.Marks.{Flagging, FlagsDone, Tells, bin_at, starts_of}

abbrev top_tile : List ℕ → Tile
top_tile w = tile_at w (end_from 0 (tiles_of w))

-- ts: the tiles that are left
pub record FlagIn (w m : List ℕ) (top o q s : ℕ) : Type 0 where
  pub ts : List Tile
  pub even : o % 16 ≡ 0
  pub tiles : TilesOk w o ts
  pub at_top : end_from o ts ≡ top
  pub sub : (x : ℕ) → 1 ≤ cnt x (starts_from o ts) → 1 ≤ cnt x (starts_of w)
  pub same : (b : ℕ → ℕ) → Tells w m b → flag_fault b (top_tile w) o q s ts ≡ flag_fault b (top_tile w) 0 0 0 (tiles_of w)

pub flags-enter : (w m : List ℕ) (top : ℕ) → Flagging w top → FlagIn w m top 0 0 0
flags-enter w m top k = record { ts = tiles_of w; even = refl; tiles = k.tiles; at_top = sym k.at_top; sub = λ x i. i; same = λ b h. refl }

pub flags-low : (w m : List ℕ) (top o q s : ℕ) → FlagIn w m top o q s → (o ≤ top) × (top + 32 ≤ 8 * length w)
flags-low w m top o q s i = (omega (arith, end-le o i.ts, i.at_top), omega (arith, i.tiles.top, i.tiles.least, i.at_top))

fault-bad : (b : ℕ → ℕ) (u : Tile) (o q s : ℕ) (t : Tile) (ts : List Tile) → flag_ok t q s (b o) ≡ false → flag_fault b u o q s (t ∷ ts) ≡ Err (A.Flag o)
unfolding flag_fault
fault-bad b u o q s t ts e = rw (e, flag_fault)

fault-more : (b : ℕ → ℕ) (u : Tile) (o q s : ℕ) (t : Tile) (ts : List Tile) → flag_ok t q s (b o) ≡ true
    → flag_fault b u o q s (t ∷ ts) ≡ flag_fault b u (o + t.size) (b o) t.size ts
unfolding flag_fault
fault-more b u o q s t ts e = rw (e, flag_fault)

fault-last : (b : ℕ → ℕ) (u : Tile) (o q s : ℕ) (z : Bool) → flag_ok u q s 1 ≡ z → flag_fault b u o q s [] ≡ elim z [ true ↦ Ok tt | false ↦ Err (A.Flag o) ]
unfolding flag_fault
fault-last b u o q s z e = rw (e, flag_fault)

-- ---- a tile before the top
module _ (w m : List ℕ) (top o q s : ℕ) (i : FlagIn w m top o q s) (lt : o < top) where
  pub flag-bad : (v : Bool) → v ≡ flag_ok (tile_at w o) q s (bin_at m o) → v ≡ false → FlagsDone w m (Err (A.Flag o))
  flag-bad v e z = λ b h. go i.ts i.tiles i.at_top i.sub b h (i.same b h)
    where
      go : (ts : List Tile) → TilesOk w o ts → end_from o ts ≡ top → ((x : ℕ) → 1 ≤ cnt x (starts_from o ts) → 1 ≤ cnt x (starts_of w))
          → (b : ℕ → ℕ) → Tells w m b → flag_fault b (top_tile w) o q s ts ≡ flag_fault b (top_tile w) 0 0 0 (tiles_of w) → Err (A.Flag o) ≡ flag_fault b (top_tile w) 0 0 0 (tiles_of w)
      go [] k a u b h c = absurd (omega arith)
      go (t ∷ ts) k a u b h c =
          let g : b o ≡ bin_at m o = h o (u o (cnt-here o (starts_from (o + t.size) ts))) in
          sym (fault-bad b (top_tile w) o q s t ts (rw (g, sym (tile-read w o t ts k)) (sym e ∙ z))) ∙ c

  pub flag-turn : (v : Bool) → v ≡ flag_ok (tile_at w o) q s (bin_at m o) → v ≡ true → FlagIn w m top (o + size_at w o) (bin_at m o) (size_at w o)
  flag-turn v e z = go i.ts i.tiles i.at_top i.sub i.same
    where
      go : (ts : List Tile) → TilesOk w o ts → end_from o ts ≡ top → ((x : ℕ) → 1 ≤ cnt x (starts_from o ts) → 1 ≤ cnt x (starts_of w))
          → ((b : ℕ → ℕ) → Tells w m b → flag_fault b (top_tile w) o q s ts ≡ flag_fault b (top_tile w) 0 0 0 (tiles_of w)) → FlagIn w m top (o + size_at w o) (bin_at m o) (size_at w o)
      go [] k a u c = absurd (omega arith)
      go (t ∷ ts) k a u c =
          let d : tile_at w o ≡ t = tile-read w o t ts k in
          subst (λ (y : ℕ). FlagIn w m top (o + y) (bin_at m o) y) (sym (ap (λ (z : Tile). z.size) d)) (record {
            ts = ts;
            even = omega (arith, i.even, k.sizes.0);
            tiles = tiles-later w o t ts k;
            at_top = a;
            sub = λ x j. u x (cnt-there x o (starts_from (o + t.size) ts) j);
            same = λ b h.
                let g : b o ≡ bin_at m o = h o (u o (cnt-here o (starts_from (o + t.size) ts))) in
                ap (λ (y : ℕ). flag_fault b (top_tile w) (o + t.size) y t.size ts) (sym g)
                ∙ sym (fault-more b (top_tile w) o q s t ts (rw (g, sym d) (sym e ∙ z))) ∙ c b h;
          })

  pub flag-size : (32 ≤ size_at w o) × (o + size_at w o ≤ top)
  flag-size = go i.ts i.tiles i.at_top
    where
      go : (ts : List Tile) → TilesOk w o ts → end_from o ts ≡ top → (32 ≤ size_at w o) × (o + size_at w o ≤ top)
      go [] k a = absurd (omega arith)
      go (t ∷ ts) k a =
          let d : size_at w o ≡ t.size = ap (λ (z : Tile). z.size) (tile-read w o t ts k) in
          (omega (arith, d, k.sizes.1), omega (arith, d, end-le (o + t.size) ts))

-- ---- the top
pub flag-last : (w m : List ℕ) (top o q s : ℕ) → Flagging w top → FlagIn w m top o q s → top ≤ o → (v : Bool) → v ≡ flag_ok (tile_at w top) q s 1 → (z : Bool) → v ≡ z
    → FlagsDone w m (elim z [ true ↦ Ok tt | false ↦ Err (A.Flag top) ])
flag-last w m top o q s fl i le v e z vz = λ b h. go i.ts i.tiles i.at_top b (i.same b h)
  where
    go : (ts : List Tile) → TilesOk w o ts → end_from o ts ≡ top → (b : ℕ → ℕ) → flag_fault b (top_tile w) o q s ts ≡ flag_fault b (top_tile w) 0 0 0 (tiles_of w)
        → elim z [ true ↦ Ok tt | false ↦ Err (A.Flag top) ] ≡ flag_fault b (top_tile w) 0 0 0 (tiles_of w)
    go [] k a b c =
        let p : top_tile w ≡ tile_at w top = ap (tile_at w) (sym fl.at_top) in
        sym (subst (λ (y : ℕ). flag_fault b (top_tile w) y q s [] ≡ elim z [ true ↦ Ok tt | false ↦ Err (A.Flag y) ]) a
        (fault-last b (top_tile w) o q s z (ap (λ (t : Tile). flag_ok t q s 1) p ∙ sym e ∙ vz)))
        ∙ ap (λ (y : ℕ). flag_fault b (top_tile w) y q s []) (sym a) ∙ c
    go (t ∷ ts) k a b c = absurd (omega (arith, end-le (o + t.size) ts, k.sizes.1))

-- ---- what the code reads of a chunk: P and the word of the previous size, which counts only where P is clear
raw : (p v y q s b : ℕ) → flag_ok (tile y p v) q s b ≡ flag_ok (tile y p (elim (eqb p 0) [ true ↦ v | false ↦ 0 ])) q s b
raw p v y q s b = go (eqb q 0) (eqb p 0) refl
  where
    go : (z c : Bool) → eqb p 0 ≡ c
        → ◌≡◌ {A = Bool} (elim z [ true ↦ eqb p 1 | false ↦ both c (both (eqb v s) (eqb b 0)) ])
        (elim z [ true ↦ eqb p 1 | false ↦ both c (both (eqb (elim c [ true ↦ v | false ↦ 0 ]) s) (eqb b 0)) ])
    go true c e = refl
    go false true e = refl
    go false false e = refl

-- the tiles are good, so that P is all of a size word's low bits
pub low-here : (w m : List ℕ) (top o q s : ℕ) → FlagIn w m top o q s → low_at w o ≤ 1
low-here w m top o q s i = go i.ts i.tiles
  where
    go : (ts : List Tile) → TilesOk w o ts → low_at w o ≤ 1
    go [] k = k.low
    go (t ∷ ts) k = let d : low_at w o ≡ t.p = ap (λ (z : Tile). z.p) (tile-read w o t ts k) in omega (arith, d, k.sizes.2)

pub low-top : (w : List ℕ) (top : ℕ) → Flagging w top → low_at w top ≤ 1
low-top w top k = subst (λ (y : ℕ). low_at w y ≤ 1) (sym k.at_top) k.tiles.low

pub flag-seen : (w : List ℕ) (o x y p b q s : ℕ) (v : Bool) → low_at w o ≤ 1 → x ≡ get_or w (size_word o) 0 → p ≡ x % 2 → y ≡ get_or w (prev_word o) 0
    → v ≡ flag_ok (tile 0 p y) q s b → v ≡ flag_ok (tile_at w o) q s b
flag-seen w o x y p b q s v l e g f h =
    let z : p ≡ low_at w o = omega (arith, l, e, g) in
    h ∙ rw (z, f) (raw (low_at w o) (get_or w (prev_word o) 0) (size_at w o) q s b)
