-- No usable word of a block is written, and the arena's first word never is: statements about writes. A link lies in its own chunk, a size word before a
-- chunk's usable words, and a note at the end of the chunk before. Assumes nothing.
use Rattle.std.specs.Prelude.{◌≡◌, refl, List, [], ◌∷◌, ◌++◌, ◌⊎◌, ℕ, ◌+◌, ◌/◌, ◌%◌, ◌≤◌, ◌<◌, eqb, get_or}
use Rattle.std.proofs.Common.{sym, ap, ◌∙◌, inl, inr, ⊎_elim, arith, get_or-set_other}
use Rattle.sizes.specs.Limits.{large, first_large}
use Rattle.machine.specs.Lists.{pre, post, ind, cnt}
use Rattle.machine.specs.Count.{eq?, ind-same, ind-other, cnt-append, cnt-le-all}
use Rattle.machine.specs.Heap.{Heap, bin, starts, size_of}
use Rattle.machine.specs.Writes.{Write, who, field, value, put, apply, Ran, ran, heap_of, writes, more, ◌>>=◌, size, note}
use Rattle.machine.specs.Primitives.{fwd_to, back_to, links_in, link_in, links_out, unlink}
use Rattle.machine.specs.Skips.{skips_in, skips_out}
use Rattle.sound.specs.Relation.{all, Shape, Loose}
use Rattle.sound.specs.Tiles.{Start, start, starts-once}
use Rattle.sound.specs.Frames.{Starts, starts-all, Sub, LinkW}
use Rattle.sound.specs.Apart.{chunks_apart, clear_of, tiled-tiles}
use Rattle.sound.specs.Lists.{cut-cnt, out-w, in-w}
use Rattle.sound.specs.Rings.{SkipW, skips_in-w, skips_out-w, chunk_inside}
use Rattle.sound.specs.Edits.{size_32, size-16}

-- none of ws writes a usable word of the block x of size s: words x / 8 + 2 to (x + s) / 8
abbrev pub Spares : ℕ → ℕ → List Write → Type 0
Spares x s [] = Unit {0}
Spares x s (e ∷ ws) = ((who e / 8 + field e < x / 8 + 2) ⊎ ((x + s) / 8 < who e / 8 + field e)) × Spares x s ws

pub spared : (x s : ℕ) (ws : List Write) (w : List ℕ) (i : ℕ) → Spares x s ws → x / 8 + 2 ≤ i → i ≤ (x + s) / 8 → get_or (apply ws w) i 0 ≡ get_or w i 0
spared x s [] w i k l m = refl
spared x s (e ∷ ws) w i k l m =
    spared x s ws (put e w) i k.1 l m
    ∙ get_or-set_other w (who e / 8 + field e) i (value e w) 0 (λ q. ⊎_elim (λ z. omega arith) (λ z. omega arith) k.0)

pub spares-append : (x s : ℕ) (a b : List Write) → Spares x s a → Spares x s b → Spares x s (a ++ b)
spares-append x s [] b j k = k
spares-append x s (e ∷ a) b j k = (j.0, spares-append x s a b j.1 k)

pub spares_then : {A B : Type 0} (r : Ran A) (f : Heap → Ran B) (x s : ℕ) → Spares x s (writes r) → Spares x s (writes (f (heap_of r))) → Spares x s (writes (r >>= f))
spares_then {A} {B} (ran h ws a) f x s j k = go (f h) k
  where
    go : (q : Ran B) → Spares x s (writes q) → Spares x s (writes (more ws q))
    go (ran g vs b) k = spares-append x s ws vs j k

-- of a smaller block at the same place
pub spares-less : (x s m : ℕ) (ws : List Write) → m ≤ s → Spares x s ws → Spares x m ws
spares-less x s m [] l k = tt
spares-less x s m (e ∷ ws) l k = (⊎_elim (λ z. inl z) (λ z. inr (omega arith)) k.0, spares-less x s m ws l k.1)

-- none of ws writes the first word
abbrev pub Past : List Write → Type 0
Past [] = Unit {0}
Past (e ∷ ws) = (1 ≤ who e / 8 + field e) × Past ws

pub past_first : (ws : List Write) (w : List ℕ) → Past ws → get_or (apply ws w) 0 0 ≡ get_or w 0 0
past_first [] w k = refl
past_first (e ∷ ws) w k = past_first ws (put e w) k.1 ∙ get_or-set_other w (who e / 8 + field e) 0 (value e w) 0 (λ q. omega (arith, k.0))

pub past-append : (a b : List Write) → Past a → Past b → Past (a ++ b)
past-append [] b j k = k
past-append (e ∷ a) b j k = (j.0, past-append a b j.1 k)

-- of all fields only a note stands in a chunk's first word
past-fwd : (xs : List ℕ) (c : ℕ) → Past (fwd_to xs c)
past-fwd [] c = tt
past-fwd (x ∷ xs) c = (omega arith, tt)

past_back : (ys : List ℕ) (c : ℕ) → Past (back_to ys c)
past_back [] c = tt
past_back (y ∷ ys) c = (omega arith, tt)

pub past-ends : (xs ys : List ℕ) (c d : ℕ) → Past (fwd_to xs c ++ back_to ys d)
past-ends xs ys c d = past-append (fwd_to xs c) (back_to ys d) (past-fwd xs c) (past_back ys d)

-- a write of a link of another chunk
pub spare-links : (h : Heap) (x : ℕ) (L : List ℕ) (ws : List Write) → Shape h → 1 ≤ cnt x (starts h) → Sub L (Starts h) → cnt x L ≡ 0 → LinkW L ws
    → Spares x (size_of h x) ws
spare-links h x L [] s mx sub out k = tt
spare-links h x L (e ∷ ws) s mx sub out k =
    let gy : Start (all h) 0 (who e) = start (all h) 0 (who e) s.sizes (sub (who e) k.1) in
    let gx : Start h.tiles 0 x = start h.tiles 0 x (tiled-tiles h s) mx in (
      ⊎_elim
          (λ z. inl (omega (arith, k.0, gy.even, gx.even)))
          (λ z. ⊎_elim
          (λ q. absurd (omega (arith, k.1, ap (λ (y : ℕ). cnt y L) q)))
          (λ q. inr (omega (arith, k.0)))
          z)
          (clear_of h x (who e) s mx (sub (who e) k.1)),
      spare-links h x L ws s mx sub out k.2,
    )

-- and of a skip link of another chunk
pub spare-skips : (h : Heap) (x : ℕ) (L : List ℕ) (ws : List Write) → Shape h → 1 ≤ cnt x (starts h) → Sub L (starts h) → cnt x L ≡ 0 → SkipW (λ y. size_of h y) L ws
    → Spares x (size_of h x) ws
spare-skips h x L [] s mx sub out k = tt
spare-skips h x L (e ∷ ws) s mx sub out k =
    let gy = (chunk_inside h s (who e) (sub (who e) k.1)).0 in
    let gx = (chunk_inside h s x mx).0 in (
      ⊎_elim (λ z. inr (omega (arith, k.0, gy, gx))) (λ z. inl (omega (arith, k.0, k.2, gy, gx)))
          (chunks_apart h x (who e) s mx (sub (who e) k.1) (λ q. omega (arith, out, k.1, ap (λ (y : ℕ). cnt y L) q))),
      spare-skips h x L ws s mx sub out k.4,
    )

pub past-skips : (sz : ℕ → ℕ) (L : List ℕ) (ws : List Write) → SkipW sz L ws → Past ws
past-skips sz L [] k = tt
past-skips sz L (e ∷ ws) k = (omega (arith, k.0), past-skips sz L ws k.4)

pub unlink-spares : (h : Heap) (j c x : ℕ) → Shape h → Loose h x → 1 ≤ cnt c (bin h j) → Spares x (size_of h x) (writes (unlink j c h))
unlink-spares h j c x s lo mc =
    let xs : List ℕ = pre c (bin h j) in
    let ys : List ℕ = post c (bin h j) in
    let few : (y : ℕ) → cnt y (xs ++ ys) ≤ cnt y (bin h j) = λ y. omega (arith, cut-cnt c (bin h j) mc y, cnt-append y xs ys) in
    let out : cnt x (xs ++ ys) ≡ 0 = omega (arith, lo, starts-once h.tiles 0 x (tiled-tiles h s), few x, cnt-le-all x h.bins j) in
    let sub : Sub (xs ++ ys) (starts h) = λ y i. omega (arith, s.own y, few y, cnt-le-all y h.bins j) in
    spares-append x (size_of h x) (links_out xs ys) (skips_out j (λ y. size_of h y) (xs ++ ys))
    (spare-links h x (xs ++ ys) (links_out xs ys) s (omega arith) (λ y i. omega (arith, sub y i, starts-all h y)) out (out-w xs ys))
    (spare-skips h x (xs ++ ys) (skips_out j (λ y. size_of h y) (xs ++ ys)) s (omega arith) sub out
    (skips_out-w j (λ y. size_of h y) (xs ++ ys) (λ z y i. s.roomy j y z (omega (arith, few y)))))

pub link-spares : (h : Heap) (j c x : ℕ) (xs ys : List ℕ) → Shape h → Loose h x → Loose h c → (x ≡ c → ⊥) → bin h j ≡ xs ++ ys → (first_large ≤ j → large ≤ size_of h c)
    → Spares x (size_of h x) (writes (link_in j c xs ys h))
link-spares h j c x xs ys s lo lc ne e lw =
    let L : List ℕ = c ∷ (xs ++ ys) in
    let ls : List ℕ = xs ++ c ∷ ys in
    let up : (y : ℕ) → cnt y (bin h j) ≡ cnt y xs + cnt y ys = λ y. ap (cnt y) e ∙ cnt-append y xs ys in
    let up' : (y : ℕ) → cnt y (xs ++ ys) ≡ cnt y xs + cnt y ys = λ y. cnt-append y xs ys in
    let all' : (y : ℕ) → cnt y ls ≡ cnt y (bin h j) + ind (eqb y c) = λ y. omega (arith, cnt-append y xs (c ∷ ys), up y) in
    let out : cnt x (bin h j) ≡ 0 = omega (arith, lo, starts-once h.tiles 0 x (tiled-tiles h s), cnt-le-all x h.bins j) in
    let sub : Sub ls (starts h) = λ y i. ⊎_elim (λ q. rw q (omega arith)) (λ q. omega (arith, all' y, ind-other y c q, s.own y, cnt-le-all y h.bins j)) (eq? y c) in
    spares-append x (size_of h x) (links_in c xs ys) (skips_in j (λ y. size_of h y) c ls)
    (spare-links h x L (links_in c xs ys) s (omega arith) (λ y i. omega (arith, sub y (omega (arith, all' y, up y, up' y)), starts-all h y))
    (omega (arith, out, up x, up' x, ind-other x c ne)) (in-w c xs ys))
    (spare-skips h x ls (skips_in j (λ y. size_of h y) c ls) s (omega arith) sub (omega (arith, out, all' x, ind-other x c ne))
    (skips_in-w j (λ y. size_of h y) c ls (omega (arith, all' c, ind-same c))
    (λ z y i. ⊎_elim (λ q. rw q (lw z)) (λ q. s.roomy j y z (omega (arith, all' y, ind-other y c q))) (eq? y c))))

-- a size word is in no block's usable words
pub spare-size : (h : Heap) (x c z p : ℕ) → Shape h → Loose h x → 1 ≤ cnt c (Starts h) → Spares x (size_of h x) (size c z p ∷ [])
spare-size h x c z p s lo mc =
    let gy : Start (all h) 0 c = start (all h) 0 c s.sizes mc in
    let gx : Start h.tiles 0 x = start h.tiles 0 x (tiled-tiles h s) (omega arith) in (
      ⊎_elim (λ q. inl (omega (arith, gy.even, gx.even)))
          (λ q. ⊎_elim (λ r. inl (omega (arith, r, gx.even))) (λ r. inr (omega (arith, gy.even))) q) (clear_of h x c s (omega arith) mc),
      tt,
    )

-- a note at the end of c is in no other block's usable words
pub spare-note : (h : Heap) (x c z : ℕ) → Shape h → Loose h x → (x ≡ c → ⊥) → 1 ≤ cnt c (starts h) → 1 ≤ cnt (c + size_of h c) (Starts h)
    → Spares x (size_of h x) (note (c + size_of h c) z ∷ [])
spare-note h x c z s lo ne mc mn =
    let n : ℕ = c + size_of h c in
    let mx : 1 ≤ cnt x (starts h) = omega arith in
    let gn : Start (all h) 0 n = start (all h) 0 n s.sizes mn in
    let gx : Start h.tiles 0 x = start h.tiles 0 x (tiled-tiles h s) mx in
    let gc : Start h.tiles 0 c = start h.tiles 0 c (tiled-tiles h s) mc in
    let c32 : 32 ≤ size_of h c = size_32 h c s mc in
    let x32 : 32 ≤ size_of h x = size_32 h x s mx in
    let nx : (n ≡ x + size_of h x) → ⊥ = λ q. ⊎_elim
    (λ p. ⊎_elim (λ r. omega arith) (λ r. ⊎_elim (λ v. ne v) (λ v. omega arith) r) (clear_of h c x s mc (omega (arith, starts-all h x))))
    (λ p. ⊎_elim (λ v. ne (sym v)) (λ v. omega arith) p)
    (clear_of h x c s mx (omega (arith, starts-all h c))) in
    let x16 : size_of h x % 16 ≡ 0 = size-16 h x s mx in (
      ⊎_elim (λ q. inl (omega (arith, gn.even, gx.even)))
          (λ q. ⊎_elim (λ r. inl (omega (arith, r, gx.even))) (λ r. inr (omega (arith, nx, gn.even, gx.even))) q) (clear_of h x n s mx mn),
      tt,
    )
