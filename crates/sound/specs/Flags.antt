-- P and the end notes along the tiles, in parts: split, joined, and where the bins agree. By induction along the tiles. Assumes nothing.
use Rattle.std.specs.Prelude.{◌≡◌, refl, List, [], ◌∷◌, ◌++◌, ℕ, ◌+◌, ◌≤◌, ◌<◌}
use Rattle.std.proofs.Common.{arith}
use Rattle.machine.specs.Heap.{Tile, end_from}
use Rattle.sound.specs.Relation.{tiled, flags}
use Rattle.sound.specs.Tiles.{end-le}

-- the first tile's own P and note are left open
abbrev pub flags_after : (ℕ → ℕ) → ℕ → List Tile → Type 0
flags_after b o [] = Unit {0}
flags_after b o (t ∷ ts) = flags b (o + t.size) (b o) t.size ts

abbrev pub last_b : (ℕ → ℕ) → ℕ → ℕ → List Tile → ℕ
last_b b o q [] = q
last_b b o q (t ∷ ts) = last_b b (o + t.size) (b o) ts

abbrev pub last_s : ℕ → List Tile → ℕ
last_s s [] = s
last_s s (t ∷ ts) = last_s t.size ts

pub last_b-snoc : (b : ℕ → ℕ) (o q : ℕ) (a : List Tile) (t : Tile) → last_b b o q (a ++ t ∷ []) ≡ b (end_from o a)
last_b-snoc b o q [] t = refl
last_b-snoc b o q (u ∷ a) t = last_b-snoc b (o + u.size) (b o) a t

pub flags-split : (b : ℕ → ℕ) (o q s : ℕ) (a z : List Tile) → flags b o q s (a ++ z) → flags b o q s a × flags b (end_from o a) (last_b b o q a) (last_s s a) z
flags-split b o q s [] z k = (tt, k)
flags-split b o q s (t ∷ a) z k =
    let r : flags b (o + t.size) (b o) t.size a × flags b (end_from (o + t.size) a) (last_b b (o + t.size) (b o) a) (last_s t.size a) z =
    flags-split b (o + t.size) (b o) t.size a z k.3 in
    ((k.0, k.1, k.2, r.0), r.1)

pub flags-join : (b : ℕ → ℕ) (o q s : ℕ) (a z : List Tile) → flags b o q s a → flags b (end_from o a) (last_b b o q a) (last_s s a) z → flags b o q s (a ++ z)
flags-join b o q s [] z j k = k
flags-join b o q s (t ∷ a) z j k = (j.0, j.1, j.2, flags-join b (o + t.size) (b o) t.size a z j.3 k)

-- the bins agree below the tiles' end; from the tiles' start on
pub flags-below : (b d : ℕ → ℕ) (o q q' s : ℕ) (a : List Tile) → tiled a → q' ≡ q → ((x : ℕ) → x < end_from o a → d x ≡ b x) → flags b o q s a → flags d o q' s a
flags-below b d o q q' s [] f e g k = tt
flags-below b d o q q' s (t ∷ a) f e g k =
    let h : d o ≡ b o = g o (omega (arith, end-le (o + t.size) a)) in
    (omega arith, omega arith, k.2, flags-below b d (o + t.size) (b o) (d o) t.size a f.3 h g k.3)

pub last_b-below : (b d : ℕ → ℕ) (o q q' : ℕ) (a : List Tile) → tiled a → q' ≡ q → ((x : ℕ) → x < end_from o a → d x ≡ b x) → last_b d o q' a ≡ last_b b o q a
last_b-below b d o q q' [] f e g = e
last_b-below b d o q q' (t ∷ a) f e g = last_b-below b d (o + t.size) (b o) (d o) a f.3 (g o (omega (arith, end-le (o + t.size) a))) g

pub flags-above : (b d : ℕ → ℕ) (o q q' s : ℕ) (z : List Tile) → q' ≡ q → ((x : ℕ) → o ≤ x → d x ≡ b x) → flags b o q s z → flags d o q' s z
flags-above b d o q q' s [] e g k = tt
flags-above b d o q q' s (t ∷ z) e g k =
    let h : d o ≡ b o = g o (omega arith) in
    (omega arith, omega arith, k.2, flags-above b d (o + t.size) (b o) (d o) t.size z h (λ x l. g x (omega arith)) k.3)

pub after-above : (b d : ℕ → ℕ) (o : ℕ) (z : List Tile) → ((x : ℕ) → o ≤ x → d x ≡ b x) → flags_after b o z → flags_after d o z
after-above b d o [] g k = tt
after-above b d o (t ∷ z) g k = flags-above b d (o + t.size) (b o) (d o) t.size z (g o (omega arith)) (λ x l. g x (omega arith)) k

pub flags-after : (b : ℕ → ℕ) (o q s : ℕ) (z : List Tile) → flags b o q s z → flags_after b o z
flags-after b o q s [] k = tt
flags-after b o q s (t ∷ z) k = k.3
