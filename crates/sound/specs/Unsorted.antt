-- A sound heap has at most 4,096 binned chunks, and so unsorted has at most 4,096: each chunk has 32 bytes or more, and what follows a binned one is not binned,
-- so that the two have 64. By induction along the tiles. Assumes nothing.
use Rattle.std.specs.Prelude.{◌≡◌, refl, List, [], ◌∷◌, Bool, true, false, ℕ, ◌+◌, ◌*◌, ◌≤◌, eqb, length}
use Rattle.std.proofs.Common.{ap, ⊎_elim, arith, eqb-true}
use Rattle.std.proofs.lemmas.Bool.{eqb-false}
use Rattle.sizes.specs.Limits.{unsorted}
use Rattle.machine.specs.Lists.{cnt}
use Rattle.machine.specs.Count.{ind-other, cnt-le-all, pigeons}
use Rattle.machine.specs.Heap.{Tile, Heap, bin, binned, end_from, starts_from}
use Rattle.sound.specs.Relation.{all, tiled, flags, Good}
use Rattle.sound.specs.Tiles.{zero_or}
use Rattle.sound.specs.Frames.{end-all, starts-all}

-- the starts that b has, of tiles from offset o on
abbrev pub having : (ℕ → ℕ) → ℕ → List Tile → List ℕ
having b o [] = []
having b o (t ∷ ts) = elim (eqb (b o) 0) [ true ↦ having b (o + t.size) ts | false ↦ o ∷ having b (o + t.size) ts ]

having-cnt : (b : ℕ → ℕ) (o : ℕ) (ts : List Tile) (x : ℕ) → 1 ≤ b x → cnt x (having b o ts) ≡ cnt x (starts_from o ts)
having-cnt b o [] x m = refl
having-cnt b o (t ∷ ts) x m = go (having-cnt b (o + t.size) ts x m) (eqb (b o) 0) refl
  where
    go : cnt x (having b (o + t.size) ts) ≡ cnt x (starts_from (o + t.size) ts) → (e : Bool) → eqb (b o) 0 ≡ e
        → cnt x (elim e [ true ↦ having b (o + t.size) ts | false ↦ o ∷ having b (o + t.size) ts ]) ≡ cnt x (starts_from o (t ∷ ts))
    go r true e = omega (arith, r, ind-other x o (λ q. omega (arith, eqb-true (b o) 0 e, ap b q)))
    go r false e = omega (arith, r)

-- a binned tile and the one behind it have 64 bytes, and only the last may have none behind it; q: whether the tile before the first is binned
having-length : (b : ℕ → ℕ) (o q s : ℕ) (ts : List Tile) → q ≤ 1 → tiled ts → flags b o q s ts → o + 64 * length (having b o ts) + 32 * q ≤ end_from o ts + 32
having-length b o q s [] l f k = omega arith
having-length b o q s (t ∷ ts) l f k = go (having-length b (o + t.size) (b o) t.size ts (omega (arith, k.1)) f.3 k.3) (eqb (b o) 0) refl
  where
    go : o + t.size + 64 * length (having b (o + t.size) ts) + 32 * b o ≤ end_from (o + t.size) ts + 32 → (e : Bool) → eqb (b o) 0 ≡ e
        → o + 64 * length {A = ℕ} (elim e [ true ↦ having b (o + t.size) ts | false ↦ o ∷ having b (o + t.size) ts ]) + 32 * q ≤ end_from o (t ∷ ts) + 32
    go r true e = omega (arith, r, f.1, k.1)
    go r false e = let n : 1 ≤ b o = ⊎_elim (λ z. absurd (eqb-false (b o) 0 e z)) (λ z. z) (zero_or (b o)) in omega (arith, r, f.1, k.1, n)

-- a chunk of unsorted is counted in the bins, and so among the starts that the bins have
pub unsorted-few : (h : Heap) → Good h → length (bin h unsorted) ≤ 4096
unsorted-few h g =
    omega (
      arith,
      pigeons (bin h unsorted) Has (λ x. ⊎_elim (λ z. omega (arith, z, in-bins x)) (λ m. omega (arith, in-bins x, has x m)) (zero_or (binned h x))),
      having-length (λ x. binned h x) 0 0 0 (all h) (omega arith) g.shape.sizes g.flag,
      end-all h g.shape.sizes,
      g.shape.small,
    )
  where
    Has : List ℕ
    Has = having (λ x. binned h x) 0 (all h)

    in-bins : (x : ℕ) → cnt x (bin h unsorted) ≤ binned h x
    in-bins x = cnt-le-all x h.bins unsorted

    has : (x : ℕ) → 1 ≤ binned h x → binned h x ≤ cnt x Has
    has x m = omega (arith, having-cnt (λ y. binned h y) 0 (all h) x m, starts-all h x, g.shape.own x)
