-- Tiles: what words say of tiles without the top, and that the audit finds no tile fault exactly then, in the tiles that are read. By induction on the tiles,
-- one tile at a time. Assumes nothing.
use Rattle.std.specs.Prelude.{◌≡◌, refl, List, [], ◌∷◌, ◌⊎◌, Bool, true, false, ℕ, zero, suc, ◌+◌, ◌*◌, ◌%◌, ◌≤◌, ◌<◌, eqb, ltb, leb, length, get_or, Ok, Err}
use Rattle.std.proofs.Common.{sym, ap, ◌∙◌, inl, inr, ⊎_elim, le_of_suc-le-suc, not-suc-le-zero, arith, ltb-true, leb-true, eqb-true, lt-ltb, le-ltb, le-leb, eq-eqb, ne_eqb}
use Rattle.std.proofs.lemmas.Bool.{eqb-false}
use Rattle.sizes.specs.Layout.{prev_word, size_word}
use Rattle.machine.specs.Lists.{both, cnt}
use Rattle.machine.specs.Count.{eq?, ind-other}
use Rattle.machine.specs.Heap.{Tile, tile, end_from, starts_from, since, hd_size}
use Rattle.machine.specs.View.{size_at, low_at, tile_at, tiles_from}
use Rattle.machine.specs.Audit.{tile_ok, tile_fault}
use Rattle.machine.specs.declared.Fault.TheVariants as A
use Rattle.sound.specs.Relation.{tiled, tiles_at}
use Rattle.sound.specs.Tiles.{end-le, none_out, starts-length, Start, start}
use Rattle.sound.specs.Release.{both_true}
use Rattle.audit_walks.specs.Tests.{sound-if}

-- where P is set there is no previous size
abbrev pub noted : List Tile → Type 0
noted [] = Unit {0}
noted (t ∷ ts) = (t.p ≡ 1 → t.prev ≡ 0) × noted ts

-- the tiles ts from o on, and after them the tile that reaches the end
pub record TilesOk (w : List ℕ) (o : ℕ) (ts : List Tile) : Type 0 where
  pub sizes : tiled ts
  pub words : tiles_at w o ts
  pub notes : noted ts
  pub low : low_at w (end_from o ts) ≤ 1
  pub least : 32 ≤ size_at w (end_from o ts)
  pub top : end_from o ts + size_at w (end_from o ts) ≡ 8 * length w

pub tiles-later : (w : List ℕ) (o : ℕ) (t : Tile) (ts : List Tile) → TilesOk w o (t ∷ ts) → TilesOk w (o + t.size) ts
tiles-later w o t ts k = record { sizes = k.sizes.3; words = k.words.2; notes = k.notes.1; low = k.low; least = k.least; top = k.top }

-- ---- no fault, so the tiles are good
tile-parts : (w : List ℕ) (o : ℕ) → tile_ok w o ≡ true → (low_at w o ≤ 1) × (32 ≤ size_at w o)
tile-parts w o e =
    let p = both_true (ltb (low_at w o) 2) (leb 32 (size_at w o)) e in
    (le_of_suc-le-suc (ltb-true (low_at w o) 2 p.0), leb-true 32 (size_at w o) p.1)

last : (w : List ℕ) (top o : ℕ) → tile_fault w top o [] ≡ Ok tt → TilesOk w o [] × (top ≡ o)
unfolding tile_fault
last w top o e =
    let s = sound-if (both (tile_ok w o) (both (eqb (o + size_at w o) (8 * length w)) (eqb top o))) (Ok tt) (Err (A.Tile o)) refl e in
    let p = both_true (tile_ok w o) _ s.0 in
    let q = both_true (eqb (o + size_at w o) (8 * length w)) (eqb top o) p.1 in
    let t = tile-parts w o p.0 in (
      record { sizes = tt; words = tt; notes = tt; low = t.0; least = t.1; top = eqb-true (o + size_at w o) (8 * length w) q.0 },
      eqb-true top o q.1,
    )

-- what is read as previous size
read-prev : (w : List ℕ) (o : ℕ) → low_at w o ≡ 0 → get_or w (prev_word o) 0 ≡ (tile_at w o).prev
read-prev w o e = rw (eq-eqb (low_at w o) 0 e, tile_at)

read_none : (w : List ℕ) (o : ℕ) → low_at w o ≡ 1 → (tile_at w o).prev ≡ 0
read_none w o e = rw (ne_eqb (low_at w o) 0 (λ z. omega arith), tile_at)

pub tiles-sound : (f : ℕ) (w : List ℕ) (top o : ℕ) → tile_fault w top o (tiles_from f w o) ≡ Ok tt
    → TilesOk w o (tiles_from f w o) × (top ≡ end_from o (tiles_from f w o))
unfolding tile_fault
tiles-sound zero w top o e = last w top o e
tiles-sound (suc f) w top o e = go (λ z. tiles-sound f w top (o + size_at w o) z) (ltb (o + size_at w o) (8 * length w)) e
  where
    more : List Tile
    more = tiles_from f w (o + size_at w o)

    body : Bool → List Tile
    body b = elim b [ true ↦ tile_at w o ∷ more | false ↦ [] ]

    go : (tile_fault w top (o + size_at w o) more ≡ Ok tt → TilesOk w (o + size_at w o) more × (top ≡ end_from (o + size_at w o) more))
        → (b : Bool) → tile_fault w top o (body b) ≡ Ok tt → TilesOk w o (body b) × (top ≡ end_from o (body b))
    go r true e =
        let s = sound-if (tile_ok w o) (tile_fault w top (o + size_at w o) more) (Err (A.Tile o)) refl e in
        let t = tile-parts w o s.0 in
        let k = r s.1 in (
          record {
            sizes = (omega arith, t.1, t.0, k.0.sizes);
            words = (omega arith, read-prev w o, k.0.words);
            notes = (read_none w o, k.0.notes);
            low = k.0.low;
            least = k.0.least;
            top = k.0.top;
          },
          k.1,
        )
    go r false e = last w top o e

-- ---- good tiles are those that are read, and have no fault
pub one-tile : (w : List ℕ) (o s p : ℕ) → s % 16 ≡ 0 → p ≤ 1 → get_or w (size_word o) 0 ≡ s + p → (size_at w o ≡ s) × (low_at w o ≡ p)
one-tile w o s p m l e = (omega arith, omega arith)

tile-ok : (w : List ℕ) (o : ℕ) → low_at w o ≤ 1 → 32 ≤ size_at w o → tile_ok w o ≡ true
tile-ok w o l s = rw (lt-ltb (low_at w o) 2 (omega arith), tile_ok) (le-leb 32 (size_at w o) s)

-- the tile that is read at o is the one that stands there
pub tile-read : (w : List ℕ) (o : ℕ) (t : Tile) (ts : List Tile) → TilesOk w o (t ∷ ts) → tile_at w o ≡ t
tile-read w o t ts k =
    let q = one-tile w o t.size t.p k.sizes.0 k.sizes.2 k.words.0 in
    rw (q.0, q.1) (ap (tile t.size t.p) (note (eqb t.p 0) refl))
  where
    note : (b : Bool) → eqb t.p 0 ≡ b → elim b [ true ↦ get_or w (prev_word o) 0 | false ↦ 0 ] ≡ t.prev
    note true e = k.words.1 (eqb-true t.p 0 e)
    note false e = sym (k.notes.0 (set t.p k.sizes.2 e))
      where
        set : (n : ℕ) → n ≤ 1 → eqb n 0 ≡ false → n ≡ 1
        set n h e = let z : n ≡ 0 → ⊥ = eqb-false n 0 e in omega arith

pub tiles-read : (f : ℕ) (w : List ℕ) (o : ℕ) (ts : List Tile) → 8 * length w < o + 32 * f → TilesOk w o ts → tiles_from f w o ≡ ts
tiles-read zero w o ts b k = absurd (omega (arith, k.top, end-le o ts))
tiles-read (suc f) w o [] b k = rw (le-ltb (o + size_at w o) (8 * length w) (omega (arith, k.top)), tiles_from)
tiles-read (suc f) w o (t ∷ ts) b k =
    let n = end-le (o + t.size) ts in
    let q = one-tile w o t.size t.p k.sizes.0 k.sizes.2 k.words.0 in
    let e : tiles_from f w (o + t.size) ≡ ts = tiles-read f w (o + t.size) ts (omega (arith, k.sizes.1)) (tiles-later w o t ts k) in
    rw (lt-ltb (o + size_at w o) (8 * length w) (omega (arith, q.0, k.top, k.least)), tiles_from) (rw (tile-read w o t ts k, q.0, e))

pub tiles-complete : (w : List ℕ) (o : ℕ) (ts : List Tile) → TilesOk w o ts → tile_fault w (end_from o ts) o ts ≡ Ok tt
unfolding tile_fault
tiles-complete w o [] k =
    rw (tile-ok w o k.low k.least, tile_fault) (rw (eq-eqb (o + size_at w o) (8 * length w) k.top) (rw (eq-eqb o o refl)))
tiles-complete w o (t ∷ ts) k =
    let q = one-tile w o t.size t.p k.sizes.0 k.sizes.2 k.words.0 in
    rw (tile-ok w o (omega (arith, q.1, k.sizes.2)) (omega (arith, q.0, k.sizes.1)), tile_fault) (tiles-complete w (o + t.size) ts (tiles-later w o t ts k))

-- ---- the starts: the end is none, and there are few
pub end-no-start : (ts : List Tile) (o : ℕ) → tiled ts → cnt (end_from o ts) (starts_from o ts) ≡ 0
end-no-start ts o f = none_out ts o (end_from o ts) f (inr (omega arith))

pub few : (w : List ℕ) (ts : List Tile) → TilesOk w 0 ts → length (starts_from 0 ts) < length w
few w ts k = omega (arith, starts-length 0 ts k.sizes, k.least, k.top)

-- the size that the words say is the tile's
pub size-at : (w : List ℕ) (o : ℕ) (ts : List Tile) (x : ℕ) → tiled ts → tiles_at w o ts → 1 ≤ cnt x (starts_from o ts)
    → size_at w x ≡ hd_size (since o x ts)
size-at w o [] x f k m = absurd (not-suc-le-zero m)
size-at w o (t ∷ ts) x f k m = go (λ h. size-at w (o + t.size) ts x f.3 k.2 h) (eqb o x) refl
  where
    go : (1 ≤ cnt x (starts_from (o + t.size) ts) → size_at w x ≡ hd_size (since (o + t.size) x ts))
        → (b : Bool) → eqb o x ≡ b → size_at w x ≡ hd_size (elim b [ true ↦ t ∷ ts | false ↦ since (o + t.size) x ts ])
    go r true q = rw (sym (eqb-true o x q)) (one-tile w o t.size t.p f.0 f.2 k.0).0
    go r false q = r (omega (arith, ind-other x o (λ z. eqb-false o x q (sym z))))

-- ---- where chunks lie, each as long as the words say: within the tiles, and apart
pub chunk_lies : (w : List ℕ) (o : ℕ) (ts : List Tile) (x : ℕ) → tiled ts → tiles_at w o ts → 1 ≤ cnt x (starts_from o ts)
    → (32 ≤ size_at w x) × (x + size_at w x ≤ end_from o ts)
chunk_lies w o [] x f k m = absurd (not-suc-le-zero m)
chunk_lies w o (t ∷ ts) x f k m =
    let e : size_at w o ≡ t.size = (one-tile w o t.size t.p f.0 f.2 k.0).0 in
    ⊎_elim
    (λ q. rw q (omega (arith, e, f.1), omega (arith, e, end-le (o + t.size) ts)))
    (λ q. chunk_lies w (o + t.size) ts x f.3 k.2 (omega (arith, ind-other x o q)))
    (eq? x o)

pub chunks-lie-apart : (w : List ℕ) (o : ℕ) (ts : List Tile) (x y : ℕ) → tiled ts → tiles_at w o ts → 1 ≤ cnt x (starts_from o ts) → 1 ≤ cnt y (starts_from o ts)
    → (x ≡ y → ⊥) → (x + size_at w x ≤ y) ⊎ (y + size_at w y ≤ x)
chunks-lie-apart w o [] x y f k mx my n = absurd (not-suc-le-zero mx)
chunks-lie-apart w o (t ∷ ts) x y f k mx my n =
    let e : size_at w o ≡ t.size = (one-tile w o t.size t.p f.0 f.2 k.0).0 in
    let past : (z u : ℕ) → z ≡ o → 1 ≤ cnt u (starts_from (o + t.size) ts) → z + size_at w z ≤ u =
    λ z u q m. let s : Start ts (o + t.size) u = start ts (o + t.size) u f.3 m in rw q (omega (arith, e, s.low)) in
    let later : (z : ℕ) → 1 ≤ cnt z (starts_from o (t ∷ ts)) → (z ≡ o → ⊥) → 1 ≤ cnt z (starts_from (o + t.size) ts) = λ z m q. omega (arith, m, ind-other z o q) in
    ⊎_elim
    (λ q. inl (past x y q (later y my (λ z. n (q ∙ sym z)))))
    (λ q. ⊎_elim
    (λ p. inr (past y x p (later x mx q)))
    (λ p. chunks-lie-apart w (o + t.size) ts x y f.3 k.2 (later x mx q) (later y my p) n)
    (eq? y o))
    (eq? x o)
