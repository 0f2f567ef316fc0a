-- Tiles: their starts lie 32 apart, what a chunk's start says of the tiles around it, and the words of tiles in parts. By induction along the tiles,
-- with starts as counts. Assumes nothing.
use Rattle.std.specs.Prelude.{◌≡◌, refl, List, [], ◌∷◌, ◌++◌, ◌⊎◌, Bool, true, false, ℕ, zero, suc, ◌+◌, ◌*◌, ◌/◌, ◌%◌, ◌≤◌, ◌<◌, eqb, ltb, length, get_or}
use Rattle.std.proofs.Common.{sym, ap, ◌∙◌, inl, inr, ⊎_elim, not-suc-le-zero, arith, eq-eqb, ne_eqb, ltb-true, ltb-false}
use Rattle.sizes.specs.Layout.{prev_word, size_word}
use Rattle.machine.specs.Lists.{ind, cnt}
use Rattle.machine.specs.Count.{eq?, ind-same, ind-other}
use Rattle.machine.specs.Heap.{Tile, end_from, starts_from, up_to, since, hd_size}
use Rattle.sound.specs.Relation.{tiled, tiles_at}

pub zero_or : (n : ℕ) → (n ≡ 0) ⊎ (1 ≤ n)
zero_or zero = inl refl
zero_or (suc n) = inr (omega arith)

pub lt-or-le : (s m : ℕ) → (s < m) ⊎ (m ≤ s)
lt-or-le s m = go (ltb s m) refl
  where
    go : (t : Bool) → ltb s m ≡ t → (s < m) ⊎ (m ≤ s)
    go true e = inl (ltb-true s m e)
    go false e = inr (ltb-false s m e)

pub tiled-split : (a b : List Tile) → tiled (a ++ b) → tiled a × tiled b
tiled-split [] b k = (tt, k)
tiled-split (t ∷ a) b k = let r : tiled a × tiled b = tiled-split a b k.3 in ((k.0, k.1, k.2, r.0), r.1)

pub tiled-join : (a b : List Tile) → tiled a → tiled b → tiled (a ++ b)
tiled-join [] b j k = k
tiled-join (t ∷ a) b j k = (j.0, j.1, j.2, tiled-join a b j.3 k)

pub end-le : (o : ℕ) (ts : List Tile) → o ≤ end_from o ts
end-le o [] = omega arith
end-le o (t ∷ ts) = omega (arith, end-le (o + t.size) ts)

pub end-even : (o : ℕ) (a : List Tile) → o % 16 ≡ 0 → tiled a → end_from o a % 16 ≡ 0
end-even o [] e f = e
end-even o (t ∷ a) e f = end-even (o + t.size) a (omega arith) f.3

pub end-append : (o : ℕ) (a b : List Tile) → end_from o (a ++ b) ≡ end_from (end_from o a) b
end-append o [] b = refl
end-append o (t ∷ a) b = end-append (o + t.size) a b

pub starts-append : (o : ℕ) (a b : List Tile) (x : ℕ) → cnt x (starts_from o (a ++ b)) ≡ cnt x (starts_from o a) + cnt x (starts_from (end_from o a) b)
starts-append o [] b x = omega arith
starts-append o (t ∷ a) b x = omega (arith, starts-append (o + t.size) a b x)

pub record Start (ts : List Tile) (o x : ℕ) : Type 0 where
  pub low : o ≤ x
  pub high : x + 32 ≤ end_from o ts
  pub even : x % 16 ≡ o % 16

pub start : (ts : List Tile) (o x : ℕ) → tiled ts → 1 ≤ cnt x (starts_from o ts) → Start ts o x
start [] o x f m = absurd (not-suc-le-zero m)
start (t ∷ ts) o x f m =
    ⊎_elim
    (λ q. record { low = omega arith; high = omega (arith, end-le (o + t.size) ts); even = omega arith })
    (λ q.
    let s : Start ts (o + t.size) x = start ts (o + t.size) x f.3 (omega (arith, ind-other x o q)) in
    record { low = omega arith; high = s.high; even = omega arith })
    (eq? x o)

-- no start outside
pub none_out : (ts : List Tile) (o x : ℕ) → tiled ts → (x < o) ⊎ (end_from o ts ≤ x) → cnt x (starts_from o ts) ≡ 0
none_out ts o x f d = ⊎_elim (λ z. z)
    (λ z. let s : Start ts o x = start ts o x f z in absurd (⊎_elim (λ l. omega arith) (λ l. omega arith) d))
    (zero_or (cnt x (starts_from o ts)))

pub starts-length : (o : ℕ) (ts : List Tile) → tiled ts → o + 32 * length (starts_from o ts) ≤ end_from o ts
starts-length o [] f = omega arith
starts-length o (t ∷ ts) f = omega (arith, f.1, starts-length (o + t.size) ts f.3)

pub starts-once : (ts : List Tile) (o x : ℕ) → tiled ts → cnt x (starts_from o ts) ≤ 1
starts-once [] o x f = omega arith
starts-once (t ∷ ts) o x f =
    ⊎_elim
    (λ q. omega (arith, none_out ts (o + t.size) x f.3 (inl (omega arith)), ap (λ (y : ℕ). ind (eqb y o)) q, ind-same o))
    (λ q. omega (arith, ind-other x o q, starts-once ts (o + t.size) x f.3))
    (eq? x o)

pub gap : (ts : List Tile) (o x y : ℕ) → tiled ts → 1 ≤ cnt x (starts_from o ts) → 1 ≤ cnt y (starts_from o ts)
    → (x ≡ y → ⊥) → (x + 32 ≤ y) ⊎ (y + 32 ≤ x)
gap [] o x y f mx my n = absurd (not-suc-le-zero mx)
gap (t ∷ ts) o x y f mx my n =
    ⊎_elim
    (λ qx. ⊎_elim
    (λ qy. absurd (n (qx ∙ sym qy)))
    (λ qy. let s : Start ts (o + t.size) y = start ts (o + t.size) y f.3 (omega (arith, ind-other y o qy)) in inl (omega arith))
    (eq? y o))
    (λ qx.
    let mx' : 1 ≤ cnt x (starts_from (o + t.size) ts) = omega (arith, ind-other x o qx) in
    ⊎_elim
    (λ qy. let s : Start ts (o + t.size) x = start ts (o + t.size) x f.3 mx' in inr (omega arith))
    (λ qy. gap ts (o + t.size) x y f.3 mx' (omega (arith, ind-other y o qy)) n)
    (eq? y o))
    (eq? x o)

-- ---- the tiles before c and from c on
pub up-to : (o : ℕ) (a z : List Tile) → tiled a → up_to o (end_from o a) (a ++ z) ≡ a
up-to o [] [] f = refl
up-to o [] (t ∷ z) f = rw (eq-eqb o o refl, up_to)
up-to o (t ∷ a) z f =
    rw (ne_eqb o (end_from (o + t.size) a) (λ q. omega (arith, end-le (o + t.size) a)), up_to) (ap (λ (l : List Tile). t ∷ l) (up-to (o + t.size) a z f.3))

pub since_at : (o : ℕ) (a z : List Tile) → tiled a → since o (end_from o a) (a ++ z) ≡ z
since_at o [] [] f = refl
since_at o [] (t ∷ z) f = rw (eq-eqb o o refl, since)
since_at o (t ∷ a) z f =
    rw (ne_eqb o (end_from (o + t.size) a) (λ q. omega (arith, end-le (o + t.size) a)), since) (since_at (o + t.size) a z f.3)

-- what a chunk's start says of the tiles
pub record Place (ts : List Tile) (o c : ℕ) : Type 0 where
  pub a : List Tile
  pub t : Tile
  pub z : List Tile
  pub tiles : ts ≡ a ++ t ∷ z
  pub at : c ≡ end_from o a

pub place : (ts : List Tile) (o c : ℕ) → 1 ≤ cnt c (starts_from o ts) → Place ts o c
place [] o c m = absurd (not-suc-le-zero m)
place (t ∷ ts) o c m =
    ⊎_elim
    (λ q. record { a = []; t = t; z = ts; tiles = refl; at = q })
    (λ q.
    let r : Place ts (o + t.size) c = place ts (o + t.size) c (omega (arith, ind-other c o q)) in
    record { a = t ∷ r.a; t = r.t; z = r.z; tiles = ap (λ (l : List Tile). t ∷ l) r.tiles; at = r.at })
    (eq? c o)

-- ---- another middle of the same length
pub size-mid : (o x : ℕ) (a m n z : List Tile) → tiled m → tiled n
    → (x < end_from o a) ⊎ ((end_from (end_from o a) m ≤ x) × (end_from (end_from o a) m ≡ end_from (end_from o a) n))
    → hd_size (since o x (a ++ (m ++ z))) ≡ hd_size (since o x (a ++ (n ++ z)))
size-mid o x [] m n z fm fn d = ⊎_elim
    (λ l. miss o m z fm l ∙ sym (miss o n z fn l))
    (λ l. skip o m z fm l.0 ∙ ap (λ (k : ℕ). hd_size (since k x z)) l.1 ∙ sym (skip o n z fn (omega (arith, l.0, l.1))))
    d
  where
    -- below the start nothing is found
    miss0 : (o : ℕ) (z : List Tile) → x < o → hd_size (since o x z) ≡ 0
    miss0 o [] l = refl
    miss0 o (t ∷ z) l = rw (ne_eqb o x (λ q. omega arith), since) (miss0 (o + t.size) z (omega arith))

    miss : (o : ℕ) (m z : List Tile) → tiled m → x < o → hd_size (since o x (m ++ z)) ≡ 0
    miss o m z f l = miss0 o (m ++ z) l

    skip : (o : ℕ) (m z : List Tile) → tiled m → end_from o m ≤ x → hd_size (since o x (m ++ z)) ≡ hd_size (since (end_from o m) x z)
    skip o [] z f l = refl
    skip o (t ∷ m) z f l = rw (ne_eqb o x (λ q. omega (arith, end-le (o + t.size) m)), since) (skip (o + t.size) m z f.3 l)
size-mid o x (t ∷ a) m n z fm fn d = go (λ k. size-mid (o + t.size) x a m n z fm fn k) (eqb o x) refl
  where
    go : ((x < end_from (o + t.size) a) ⊎ ((end_from (end_from (o + t.size) a) m ≤ x) × (end_from (end_from (o + t.size) a) m ≡ end_from
        (end_from (o + t.size) a) n)) → hd_size (since (o + t.size) x (a ++ (m ++ z))) ≡ hd_size (since (o + t.size) x (a ++ (n ++ z))))
        → (b : Bool) → eqb o x ≡ b
        → hd_size (elim b [ true ↦ t ∷ (a ++ (m ++ z)) | false ↦ since (o + t.size) x (a ++ (m ++ z)) ]) ≡ hd_size
        (elim b [ true ↦ t ∷ (a ++ (n ++ z)) | false ↦ since (o + t.size) x (a ++ (n ++ z)) ])
    go r true q = refl
    go r false q = r d

pub tiles-split : (w : List ℕ) (o : ℕ) (a b : List Tile) → tiles_at w o (a ++ b) → tiles_at w o a × tiles_at w (end_from o a) b
tiles-split w o [] b k = (tt, k)
tiles-split w o (t ∷ a) b k =
    let r : tiles_at w (o + t.size) a × tiles_at w (end_from (o + t.size) a) b = tiles-split w (o + t.size) a b k.2 in
    ((k.0, k.1, r.0), r.1)

pub tiles-join : (w : List ℕ) (o : ℕ) (a b : List Tile) → tiles_at w o a → tiles_at w (end_from o a) b → tiles_at w o (a ++ b)
tiles-join w o [] b j k = k
tiles-join w o (t ∷ a) b j k = (j.0, j.1, tiles-join w (o + t.size) a b j.2 k)

-- words in the tiles' own range
pub tiles-cong : (w v : List ℕ) (o : ℕ) (a : List Tile) → o % 16 ≡ 0 → tiled a → ((i : ℕ) → o / 8 ≤ i → i < end_from o a / 8 → get_or v i 0 ≡ get_or w i 0)
    → tiles_at w o a → tiles_at v o a
tiles-cong w v o [] e f g k = tt
tiles-cong w v o (t ∷ a) e f g k =
    let le : o + t.size ≤ end_from (o + t.size) a = end-le (o + t.size) a in (
      g (size_word o) (omega arith) (omega arith) ∙ k.0,
      (λ z. g (prev_word o) (omega arith) (omega arith) ∙ k.1 z),
      tiles-cong w v (o + t.size) a (omega arith) f.3 (λ i l m. g i (omega arith) m) k.2,
    )
