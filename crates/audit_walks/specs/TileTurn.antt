-- The turns of the tile loop, and its ways out: the fault from the tile at hand on is the whole's, and the marks are the starts passed. Assumes nothing.
use Rattle.std.specs.Prelude.{◌≡◌, refl, List, [], ◌∷◌, Bool, true, false, ℕ, zero, suc, ◌+◌, ◌*◌, ◌/◌, ◌%◌, ◌≤◌, ◌<◌, eqb, ltb, leb, length, get_or, set, Ok, Err}
use Rattle.std.proofs.Common.{sym, ap, ◌∙◌, ⊎_elim, arith, get_or-set_same, get_or-set_other, leb-true, eq-eqb, ne_eqb, lt-ltb, le-ltb}
use Rattle.le.specs.Arena.{arena_words}
use Rattle.le.specs.ArenaLaws.{length-arena_words}
use Rattle.sizes.specs.Layout.{size_word}
use Rattle.machine.specs.Lists.{both, cnt, ind}
use Rattle.machine.specs.Count.{eq?, ind-same, ind-other}
use Rattle.machine.specs.Heap.{Tile, starts_from}
use Rattle.machine.specs.View.{size_at, low_at, tile_at, tiles_from, tiles_of}
use Rattle.machine.specs.Audit.{tile_ok, tile_fault}
use Rattle.machine.specs.declared.Fault.TheVariants as A
use Rattle.sound.specs.Tiles.{Start, start, starts-once}
use Rattle.audit_walks.specs.TileWord.{word_ok}
use Rattle.sound.specs.Release.{both_true}
use Rattle.audit_walks.specs.Tests.{not_sound}
use Rattle.audit_walks.specs.Tiles.{TilesOk, tiles-sound, few}
use Rattle.audit_walks.specs.Marks.{unmet_mark, ArenaBytes, Clear, TilesDone, starts_of}

pub arena-length : (a : List ℕ) → ArenaBytes a → 8 * length (arena_words a) ≡ length a
arena-length a b = omega (arith, length-arena_words a, b.even)

pub tile-big : (w : List ℕ) (o : ℕ) → tile_ok w o ≡ true → 32 ≤ size_at w o
tile-big w o e = leb-true 32 (size_at w o) (both_true (ltb (low_at w o) 2) (leb 32 (size_at w o)) e).1

-- what the code reads of a tile: its size word x, and whether that is well
pub record TileSeen (w : List ℕ) (o s : ℕ) (t : Bool) : Type 0 where
  pub ok : tile_ok w o ≡ t
  pub size : s ≡ size_at w o

pub seen : (w : List ℕ) (o x s : ℕ) (t : Bool) → x ≡ get_or w (size_word o) 0 → t ≡ word_ok x → s ≡ x / 16 * 16 → TileSeen w o s t
seen w o x s t e k g = record { ok = ap word_ok (sym e) ∙ sym k; size = g ∙ ap (λ (y : ℕ). y / 16 * 16) e }

-- ---- one tile more, or none
more : (f : ℕ) (w : List ℕ) (o : ℕ) → o + size_at w o < 8 * length w → tiles_from (suc f) w o ≡ tile_at w o ∷ tiles_from f w (o + size_at w o)
more f w o l = rw (lt-ltb (o + size_at w o) (8 * length w) l, tiles_from)

none : (f : ℕ) (w : List ℕ) (o : ℕ) → 8 * length w ≤ o + size_at w o → tiles_from f w o ≡ []
none zero w o l = refl
none (suc f) w o l = rw (le-ltb (o + size_at w o) (8 * length w) l, tiles_from)

fault-bad : (w : List ℕ) (top o : ℕ) (ts : List Tile) → tile_ok w o ≡ false → tile_fault w top o ts ≡ Err (A.Tile o)
unfolding tile_fault
fault-bad w top o [] e = rw (e, tile_fault)
fault-bad w top o (t ∷ ts) e = rw (e, tile_fault)

fault-more : (w : List ℕ) (top o : ℕ) (ts : List Tile) → tile_ok w o ≡ true → tile_fault w top o (tile_at w o ∷ ts) ≡ tile_fault w top (o + size_at w o) ts
unfolding tile_fault
fault-more w top o ts e = rw (e, tile_fault)

fault-last : (w : List ℕ) (top o : ℕ) (z : Bool) → tile_ok w o ≡ true → both (eqb (o + size_at w o) (8 * length w)) (eqb top o) ≡ z
    → tile_fault w top o [] ≡ elim z [ true ↦ Ok tt | false ↦ Err (A.Tile o) ]
unfolding tile_fault
fault-last w top o z e k = rw (e, tile_fault) (rw k)

-- ---- the loop: f, the fuel that is left
pub record TileIn (w m : List ℕ) (top o : ℕ) : Type 0 where
  pub f : ℕ
  pub even : o % 16 ≡ 0
  pub before : o < 8 * length w
  pub fuel : 8 * length w ≤ o + 32 * f
  pub same : tile_fault w top o (tiles_from f w o) ≡ tile_fault w top 0 (tiles_of w)
  pub marks : (x : ℕ) → x % 16 ≡ 0 → get_or m (x / 16) 0 + cnt x (starts_from o (tiles_from f w o)) ≡ cnt x (starts_of w)
  pub clear : (x : ℕ) → x % 16 ≡ 0 → o ≤ x → get_or m (x / 16) 0 ≡ 0

pub tile-enter : (w m : List ℕ) (top : ℕ) → 0 < length w → Clear m → TileIn w m top 0
unfolding tiles_of
tile-enter w m top l c = record {
  f = length w;
  even = refl;
  before = omega arith;
  fuel = omega arith;
  same = refl;
  marks = λ x e. omega (arith, c (x / 16));
  clear = λ x e k. c (x / 16);
}

pub tile-turn : (w m : List ℕ) (top o : ℕ) → TileIn w m top o → tile_ok w o ≡ true → o + size_at w o < 8 * length w → o / 16 < length m
    → TileIn w (set m (o / 16) unmet_mark) top (o + size_at w o)
tile-turn w m top o i ok lt inm = go i.f i.fuel i.same i.marks
  where
    big : 32 ≤ size_at w o
    big = tile-big w o ok

    go : (f : ℕ) → 8 * length w ≤ o + 32 * f → tile_fault w top o (tiles_from f w o) ≡ tile_fault w top 0 (tiles_of w)
        → ((x : ℕ) → x % 16 ≡ 0 → get_or m (x / 16) 0 + cnt x (starts_from o (tiles_from f w o)) ≡ cnt x (starts_of w))
        → TileIn w (set m (o / 16) unmet_mark) top (o + size_at w o)
    go zero b s k = absurd (omega (arith, i.before))
    go (suc f) b s k =
        let r : List Tile = tiles_from f w (o + size_at w o) in
        let e : tiles_from (suc f) w o ≡ tile_at w o ∷ r = more f w o lt in
        let c : (x : ℕ) → cnt x (starts_from o (tiles_from (suc f) w o)) ≡ ind (eqb x o) + cnt x (starts_from (o + size_at w o) r) = λ x. ap (λ (ts : List Tile). cnt x (starts_from o ts)) e in
        record {
          f = f;
          even = omega (arith, i.even);
          before = lt;
          fuel = omega (arith, big);
          same = sym (ap (tile_fault w top o) e ∙ fault-more w top o r ok) ∙ s;
          marks = λ x x16. ⊎_elim
              (λ q. omega (arith, k x x16, c x, ap (λ (z : ℕ). get_or (set m (o / 16) unmet_mark) (z / 16) 0) q, get_or-set_same m (o / 16) unmet_mark 0 inm, i.clear x x16 (omega arith), ap (λ (z : ℕ). ind (eqb z o)) q, ind-same o))
              (λ q. omega (arith, k x x16, c x, get_or-set_other m (o / 16) (x / 16) unmet_mark 0 (λ z. q (omega (arith, i.even))), ind-other x o q))
              (eq? x o);
          clear = λ x x16 l. get_or-set_other m (o / 16) (x / 16) unmet_mark 0 (λ z. omega (arith, i.even, big)) ∙ i.clear x x16 (omega arith);
        }

-- ---- the ways out
pub tile-bad : (w m m' : List ℕ) (top o : ℕ) → TileIn w m top o → tile_ok w o ≡ false → TilesDone w top (Err (A.Tile o)) m'
tile-bad w m m' top o i e = record { is = sym (fault-bad w top o (tiles_from i.f w o) e) ∙ i.same; marks = λ z. not_sound (Err (A.Tile o)) refl z }

last-bad : (w m m' : List ℕ) (top o : ℕ) → TileIn w m top o → tile_ok w o ≡ true → 8 * length w ≤ o + size_at w o → both (eqb (o + size_at w o) (8 * length w)) (eqb top o) ≡ false
    → TilesDone w top (Err (A.Tile o)) m'
last-bad w m m' top o i e l z = record {
  is = sym (ap (tile_fault w top o) (none i.f w o l) ∙ fault-last w top o false e z) ∙ i.same;
  marks = λ z. not_sound (Err (A.Tile o)) refl z;
}

pub tile-large : (w m m' : List ℕ) (top o : ℕ) → TileIn w m top o → tile_ok w o ≡ true → 8 * length w < o + size_at w o → TilesDone w top (Err (A.Tile o)) m'
tile-large w m m' top o i e l = last-bad w m m' top o i e (omega arith) (rw (ne_eqb (o + size_at w o) (8 * length w) (λ z. omega arith), both))

pub tile-top : (w m m' : List ℕ) (top o : ℕ) → TileIn w m top o → tile_ok w o ≡ true → o + size_at w o ≡ 8 * length w → (top ≡ o → ⊥) → TilesDone w top (Err (A.Tile o)) m'
tile-top w m m' top o i e l n = last-bad w m m' top o i e (omega arith) (rw (eq-eqb (o + size_at w o) (8 * length w) l, both) (ne_eqb top o n))

pub tile-sound : (w m : List ℕ) (top o : ℕ) → TileIn w m top o → tile_ok w o ≡ true → o + size_at w o ≡ 8 * length w → top ≡ o → TilesDone w top (Ok tt) m
unfolding tiles_of
tile-sound w m top o i e l z =
    let n : tiles_from i.f w o ≡ [] = none i.f w o (omega arith) in
    let s : (Ok tt) ≡ tile_fault w top 0 (tiles_of w) =
    sym (ap (tile_fault w top o) n ∙ fault-last w top o true e (rw (eq-eqb (o + size_at w o) (8 * length w) l, both) (eq-eqb top o z))) ∙ i.same in
    let k : TilesOk w 0 (tiles_of w) = (tiles-sound (length w) w top 0 (sym s)).0 in
    let st : (x : ℕ) → 1 ≤ cnt x (starts_of w) → Start (tiles_of w) 0 x = λ x j. start (tiles_of w) 0 x k.sizes j in
    record {
      is = s;
      marks = λ _. record {
        tiles = k;
        marks = record {
          s = λ x. 0;
          is = λ x x16. omega (arith, i.marks x x16, ap (λ (y : List Tile). cnt x (starts_from o y)) n);
          once = λ x. omega (arith, starts-once (tiles_of w) 0 x k.sizes);
          even = λ x j. (st x j).even;
          inside = λ x j. omega (arith, (st x j).high, k.top);
        };
        few = few w (tiles_of w) k;
      };
    }
