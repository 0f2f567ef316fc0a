-- The tiles anew: sizes, P and previous sizes of a sound heap, whose free chunks are those that are told; and their words after the writes. By one induction along the
-- tiles. Assumes nothing.
use Rattle.std.specs.Prelude.{◌≡◌, refl, List, [], ◌∷◌, ◌++◌, ◌⊎◌, Bool, true, false, ℕ, ◌+◌, ◌-◌, ◌*◌, ◌/◌, ◌%◌, ◌≤◌, ◌<◌, eqb, length, get_or}
use Rattle.std.proofs.Common.{sym, ap, ◌∙◌, subst, append_assoc, inl, inr, ⊎_elim, arith, get_or-set_same, get_or-set_other, eqb-true, ne_eqb}
use Rattle.std.proofs.lemmas.Bool.{eqb-false}
use Rattle.machine.specs.Lists.{ind, cnt}
use Rattle.machine.specs.Count.{ind-same, ind-other}
use Rattle.machine.specs.Heap.{Tile, tile, Heap, end_from, starts_from, hd_p, top_size}
use Rattle.machine.specs.Writes.{Write, size, note, put, apply}
use Rattle.sound.specs.Relation.{all, tiled, tiles_at, flags}
use Rattle.sound.specs.Tiles.{end-le, Start, start, none_out}
use Rattle.sound.specs.Frames.{put-length, Within, outside}
use Rattle.repair.specs.Repair.{tiles_anew, free_anew, noted, tiles_on, tile_writes}
use Rattle.repair.specs.Told.{free_from}

-- ---- one induction for the tiles anew and the free ones among them: no tile is left; a free one; a held one after a held one; one that ends a free stretch
pub by-anew : (f : ℕ → Bool) (P : ℕ → ℕ → List Tile → List Tile → List ℕ → Type 0)
    → ((g o : ℕ) → P g o [] [] [])
    → ((g o : ℕ) (t : Tile) (ts us : List Tile) (l : List ℕ) → P (g + t.size) (o + t.size) ts us l → P g o (t ∷ ts) us l)
    → ((o : ℕ) (t : Tile) (ts us : List Tile) (l : List ℕ) → P 0 (o + t.size) ts us l → P 0 o (t ∷ ts) (tile t.size 1 0 ∷ us) l)
    → ((g o : ℕ) (t : Tile) (ts us : List Tile) (l : List ℕ) → (g ≡ 0 → ⊥) → P 0 (o + t.size) ts us l
    → P g o (t ∷ ts) (tile g 1 0 ∷ tile t.size 0 g ∷ us) ((o - g) ∷ l))
    → (g o : ℕ) (ts : List Tile) → P g o ts (tiles_anew f g o ts) (free_anew f g o ts)
unfolding tiles_anew free_anew
by-anew f P none free held ends g o [] = none g o
by-anew f P none free held ends g o (t ∷ ts) = go (λ k. by-anew f P none free held ends k (o + t.size) ts) (f o) (eqb g 0) refl
  where
    go : ((k : ℕ) → P k (o + t.size) ts (tiles_anew f k (o + t.size) ts) (free_anew f k (o + t.size) ts)) → (b c : Bool) → eqb g 0 ≡ c
        → P g o (t ∷ ts)
        (elim b [
          | true ↦ tiles_anew f (g + t.size) (o + t.size) ts
          | false ↦ ◌++◌ {A = Tile} (elim c [ true ↦ tile t.size 1 0 ∷ [] | false ↦ tile g 1 0 ∷ tile t.size 0 g ∷ [] ]) (tiles_anew f 0 (o + t.size) ts)
        ])
        (elim b [
          | true ↦ free_anew f (g + t.size) (o + t.size) ts
          | false ↦ elim c [ true ↦ free_anew f 0 (o + t.size) ts | false ↦ (o - g) ∷ free_anew f 0 (o + t.size) ts ]
        ])
    go r true c e = free g o t ts (tiles_anew f (g + t.size) (o + t.size) ts) (free_anew f (g + t.size) (o + t.size) ts) (r (g + t.size))
    go r false true e =
        let us : List Tile = tiles_anew f 0 (o + t.size) ts in
        let l : List ℕ = free_anew f 0 (o + t.size) ts in
        subst (λ (k : ℕ). P k o (t ∷ ts) (tile t.size 1 0 ∷ us) l) (sym (eqb-true g 0 e)) (held o t ts us l (r 0))
    go r false false e = ends g o t ts (tiles_anew f 0 (o + t.size) ts) (free_anew f 0 (o + t.size) ts) (eqb-false g 0 e) (r 0)

-- P set in the next one: not free
told-skip : (o : ℕ) (t : Tile) (us : List Tile) → hd_p us ≡ 1 → free_from o (t ∷ us) ≡ free_from (o + t.size) us
unfolding free_from
told-skip o t [] e = refl
told-skip o t (u ∷ us) e = rw (ne_eqb u.p 0 (λ q. omega (arith, e, q)), free_from)

told_here : (o s g n m : ℕ) (us : List Tile) → free_from o (tile g 1 n ∷ tile s 0 m ∷ us) ≡ o ∷ free_from (o + g) (tile s 0 m ∷ us)
unfolding free_from
told_here o s g n m us = refl

abbrev ToldAt : ℕ → ℕ → List Tile → List Tile → List ℕ → Type 0
ToldAt g o ts us l = (b : ℕ) → o ≡ b + g → (hd_p us ≡ 1) × (free_from b us ≡ l)

told_none : (g o : ℕ) → ToldAt g o [] [] []
unfolding free_from
told_none g o b e = (refl, refl)

told-held : (o : ℕ) (t : Tile) (ts us : List Tile) (l : List ℕ) → ToldAt 0 (o + t.size) ts us l → ToldAt 0 o (t ∷ ts) (tile t.size 1 0 ∷ us) l
told-held o t ts us l r b e =
    let k : (hd_p us ≡ 1) × (free_from (b + t.size) us ≡ l) = r (b + t.size) (omega (arith, e)) in
    (refl, told-skip b (tile t.size 1 0) us k.0 ∙ k.1)

told-ends : (g o : ℕ) (t : Tile) (ts us : List Tile) (l : List ℕ) → (g ≡ 0 → ⊥) → ToldAt 0 (o + t.size) ts us l
    → ToldAt g o (t ∷ ts) (tile g 1 0 ∷ tile t.size 0 g ∷ us) ((o - g) ∷ l)
told-ends g o t ts us l ne r b e =
    let k : (hd_p us ≡ 1) × (free_from (b + g + t.size) us ≡ l) = r (b + g + t.size) (omega (arith, e)) in
    let at : b ≡ o - g = omega (arith, e) in (
      refl,
      told_here b t.size g 0 g us
          ∙ ap (λ (z : List ℕ). b ∷ z) (told-skip (b + g) (tile t.size 0 g) us k.0 ∙ k.1)
          ∙ ap (λ (y : ℕ). y ∷ l) at,
    )

-- the free ones are those that P tells
pub anew-told : (f : ℕ → Bool) (g o : ℕ) (ts : List Tile) (b : ℕ) → o ≡ b + g → free_from b (tiles_anew f g o ts) ≡ free_anew f g o ts
anew-told f g o ts b e =
    (by-anew f ToldAt told_none (λ g o t ts us l r b e. r b (omega (arith, e))) told-held told-ends g o ts b e).1

-- ---- a free stretch: none, or a chunk
abbrev pub Stretch : ℕ → Type 0
Stretch g = (g % 16 ≡ 0) × ((g ≡ 0) ⊎ (32 ≤ g))

-- each lies before those after it
abbrev pub rising : List ℕ → Type 0
rising [] = Unit {0}
rising (x ∷ l) = ((y : ℕ) → 1 ≤ cnt y l → x < y) × rising l

-- tiles us from b on, not beyond e, of which those of l are free: each of them is one of the tiles, and once, by rising offset. Where d counts them, P is clear exactly
-- behind them, with their sizes noted, and no two touch, nor one a tile of any size n behind all
pub record Fits (b e : ℕ) (us : List Tile) (l : List ℕ) : Type 0 where
  pub sizes : tiled us
  pub ends : end_from b us ≤ e
  pub own : (x : ℕ) → cnt x l ≤ cnt x (starts_from b us)
  pub rises : rising l
  pub flag : (d : ℕ → ℕ) → ((x : ℕ) → b ≤ x → d x ≡ cnt x l) → (s n : ℕ) → flags d b 0 s (us ++ tile n 1 0 ∷ [])

fits-from : {b e : ℕ} {us : List Tile} {l : List ℕ} → Fits b e us l → (x : ℕ) → 1 ≤ cnt x l → b ≤ x
fits-from {b = b} {us = us} k x m = let s : Start us b x = start us b x k.sizes (omega (arith, k.own x, m)) in s.low

fits_low : {b e : ℕ} {us : List Tile} {l : List ℕ} → Fits b e us l → (x : ℕ) → x < b → cnt x l ≡ 0
fits_low {b = b} {us = us} k x lt = omega (arith, k.own x, none_out us b x k.sizes (inl lt))

abbrev FitsAt : ℕ → ℕ → List Tile → List Tile → List ℕ → Type 0
FitsAt g o ts us l = (b : ℕ) → o ≡ b + g → Stretch g → tiled ts → Fits b (end_from o ts) us l

fits-none : (g o : ℕ) → FitsAt g o [] [] []
fits-none g o b e st f = record {
  sizes = tt;
  ends = omega (arith, e);
  own = λ x. omega arith;
  rises = tt;
  flag = λ d q s n. (omega arith, omega (arith, q b (omega arith)), ((λ z. absurd (omega (arith, z))), λ z. refl), tt);
}

fits-free : (g o : ℕ) (t : Tile) (ts us : List Tile) (l : List ℕ) → FitsAt (g + t.size) (o + t.size) ts us l → FitsAt g o (t ∷ ts) us l
fits-free g o t ts us l r b e st f = r b (omega (arith, e)) (omega (arith, st.0, f.0), inr (omega (arith, f.1))) f.3

fits-held : (o : ℕ) (t : Tile) (ts us : List Tile) (l : List ℕ) → FitsAt 0 (o + t.size) ts us l → FitsAt 0 o (t ∷ ts) (tile t.size 1 0 ∷ us) l
fits-held o t ts us l r b e st f =
    let k : Fits (b + t.size) (end_from (o + t.size) ts) us l = r (b + t.size) (omega (arith, e)) (refl, inl refl) f.3 in
    let z : cnt b l ≡ 0 = fits_low k b (omega (arith, f.1)) in
    record {
      sizes = (f.0, f.1, omega arith, k.sizes);
      ends = k.ends;
      own = λ x. omega (arith, k.own x);
      rises = k.rises;
      flag = λ d q s n.
          let no : d b ≡ 0 = q b (omega arith) ∙ z in (
            omega arith,
            omega (arith, no),
            ((λ y. absurd (omega (arith, y))), λ y. refl),
            subst (λ (c : ℕ). flags d (b + t.size) c t.size (us ++ tile n 1 0 ∷ [])) (sym no) (k.flag d (λ x i. q x (omega (arith, i))) t.size n),
          );
    }

fits-ends : (g o : ℕ) (t : Tile) (ts us : List Tile) (l : List ℕ) → (g ≡ 0 → ⊥) → FitsAt 0 (o + t.size) ts us l
    → FitsAt g o (t ∷ ts) (tile g 1 0 ∷ tile t.size 0 g ∷ us) ((o - g) ∷ l)
fits-ends g o t ts us l ne r b e st f =
    let k : Fits (b + g + t.size) (end_from (o + t.size) ts) us l = r (b + g + t.size) (omega (arith, e)) (refl, inl refl) f.3 in
    let wide : 32 ≤ g = ⊎_elim (λ z. absurd (ne z)) (λ z. z) st.1 in
    let at : o - g ≡ b = omega (arith, e) in
    let here : (x : ℕ) → cnt x ((o - g) ∷ l) ≡ ind (eqb x b) + cnt x l = λ x. ap (λ (y : ℕ). ind (eqb x y) + cnt x l) at in
    let z : cnt b l ≡ 0 = fits_low k b (omega (arith, wide)) in
    let z' : cnt (b + g) l ≡ 0 = fits_low k (b + g) (omega (arith, f.1)) in
    record {
      sizes = (st.0, wide, omega arith, (f.0, f.1, omega arith, k.sizes));
      ends = k.ends;
      own = λ x. omega (arith, k.own x, here x);
      rises = ((λ y m. omega (arith, fits-from k y m, at, wide)), k.rises);
      flag = λ d q s n.
          let is : d b ≡ 1 = omega (arith, q b (omega arith), here b, ind-same b, z) in
          let no : d (b + g) ≡ 0 = omega (arith, q (b + g) (omega arith), here (b + g), ind-other (b + g) b (λ i. omega (arith, i, wide)), z') in (
            omega arith,
            omega (arith, is),
            ((λ y. absurd (omega (arith, y))), λ y. refl),
            (
              omega (arith, is),
              omega (arith, is, no),
              ((λ y. refl), λ y. absurd (omega (arith, y))),
              subst (λ (c : ℕ). flags d (b + g + t.size) c t.size (us ++ tile n 1 0 ∷ [])) (sym no)
                  (k.flag d
                  (λ x i. omega (arith, q x (omega (arith, i)), here x, ind-other x b (λ j. omega (arith, i, j, wide)))) t.size n),
            ),
          );
    }

pub anew-fits : (f : ℕ → Bool) (g o : ℕ) (ts : List Tile) (b : ℕ) → o ≡ b + g → Stretch g → tiled ts → Fits b (end_from o ts) (tiles_anew f g o ts) (free_anew f g o ts)
anew-fits f g o ts = by-anew f FitsAt fits-none fits-free fits-held fits-ends g o ts

-- ---- the words of tiles, written one tile after the other
pub on-append : (o : ℕ) (a b : List Tile) → tiles_on o (a ++ b) ≡ tiles_on o a ++ tiles_on (end_from o a) b
unfolding tiles_on
on-append o [] b = refl
on-append o (t ∷ a) b =
    ap (λ (r : List Write). size o t.size t.p ∷ r)
    (ap (λ (r : List Write). noted o t ++ r) (on-append (o + t.size) a b) ∙ sym (append_assoc (noted o t) (tiles_on (o + t.size) a) (tiles_on (end_from (o + t.size) a) b)))

pub writes-all : (h : Heap) → tile_writes h ≡ tiles_on 0 (all h)
unfolding tiles_on
writes-all h = sym (on-append 0 h.tiles (tile (top_size h) 1 0 ∷ []))

on-within : (lo hi o : ℕ) (us : List Tile) → o % 16 ≡ 0 → tiled us → lo ≤ o / 8 → end_from o us / 8 ≤ hi → Within lo hi (tiles_on o us)
unfolding tiles_on
on-within lo hi o [] e f l u = tt
on-within lo hi o (t ∷ us) e f l u =
    let le : o + t.size ≤ end_from (o + t.size) us = end-le (o + t.size) us in
    (omega arith, omega (arith, f.1), go (on-within lo hi (o + t.size) us (omega (arith, f.0)) f.3 (omega arith) u) (eqb t.p 0))
  where
    go : Within lo hi (tiles_on (o + t.size) us) → (c : Bool)
        → Within lo hi (◌++◌ {A = Write} (elim c [ true ↦ note o t.prev ∷ [] | false ↦ [] ]) (tiles_on (o + t.size) us))
    go r true = (omega arith, omega (arith, f.1, end-le (o + t.size) us), r)
    go r false = r

pub on-stands : (o : ℕ) (us : List Tile) (w : List ℕ) → o % 16 ≡ 0 → tiled us → end_from o us ≤ 8 * length w → tiles_at (apply (tiles_on o us) w) o us
unfolding tiles_on
on-stands o [] w e f u = tt
on-stands o (t ∷ us) w e f u =
    go (λ v q. on-stands (o + t.size) us v (omega (arith, f.0)) f.3 (omega (arith, q))) (eqb t.p 0) refl
  where
    -- the later tiles' words lie behind
    below : (v : List ℕ) (i : ℕ) → i < (o + t.size) / 8 → get_or (apply (tiles_on (o + t.size) us) v) i 0 ≡ get_or v i 0
    below v i lt = outside ((o + t.size) / 8) (end_from (o + t.size) us / 8) (tiles_on (o + t.size) us) v i
        (on-within ((o + t.size) / 8) (end_from (o + t.size) us / 8) (o + t.size) us (omega (arith, f.0)) f.3 (omega arith) (omega arith)) (inl lt)

    go : ((v : List ℕ) → length v ≡ length w → tiles_at (apply (tiles_on (o + t.size) us) v) (o + t.size) us) → (c : Bool) → eqb t.p 0 ≡ c
        → tiles_at (apply (◌++◌ {A = Write} (elim c [ true ↦ note o t.prev ∷ [] | false ↦ [] ]) (tiles_on (o + t.size) us)) (put (size o t.size t.p) w)) o (t ∷ us)
    go r true q =
        let w1 : List ℕ = put (size o t.size t.p) w in
        let w2 : List ℕ = put (note o t.prev) w1 in
        let le : o + t.size ≤ end_from (o + t.size) us = end-le (o + t.size) us in
        let l1 : length w1 ≡ length w = put-length (size o t.size t.p) w in
        let at : o / 8 ≡ o / 8 + 0 = omega arith in (
          below w2 (o / 8 + 1) (omega (arith, f.1))
              ∙ get_or-set_other w1 (o / 8 + 0) (o / 8 + 1) t.prev 0 (λ i. omega (arith, i))
              ∙ get_or-set_same w (o / 8 + 1) (t.size + t.p) 0 (omega (arith, f.1)),
          (λ z. below w2 (o / 8) (omega (arith, f.1)) ∙ ap (λ (i : ℕ). get_or w2 i 0) at ∙ get_or-set_same w1 (o / 8 + 0) t.prev 0 (omega (arith, f.1, l1))),
          r w2 (put-length (note o t.prev) w1 ∙ l1),
        )
    go r false q =
        let w1 : List ℕ = put (size o t.size t.p) w in
        let le : o + t.size ≤ end_from (o + t.size) us = end-le (o + t.size) us in (
          below w1 (o / 8 + 1) (omega (arith, f.1)) ∙ get_or-set_same w (o / 8 + 1) (t.size + t.p) 0 (omega (arith, f.1)),
          (λ z. absurd (eqb-false t.p 0 q z)),
          r w1 (put-length (size o t.size t.p) w),
        )
