-- That lists hold chunks of their own sizes, through a change of the tiles and of a bin. Chunks off the changed middle keep their sizes.
-- Assumes nothing.
use Rattle.std.specs.Prelude.{◌≡◌, refl, List, [], ◌∷◌, ◌++◌, ℕ, ◌+◌, ◌≤◌, ◌<◌, length}
use Rattle.std.proofs.Common.{sym, ap, ◌∙◌, subst, inl, ⊎_elim, not-suc-le-zero, arith}
use Rattle.sizes.specs.Sizes.{bin_of}
use Rattle.machine.specs.Lists.{pre, post, cnt}
use Rattle.machine.specs.Count.{eq?, ind-other, cnt-append, cnt-here, cnt-there, cnt-le-all}
use Rattle.machine.specs.Heap.{Tile, Heap, bin, with_tiles, end_from, size_of, total}
use Rattle.machine.specs.Writes.{heap_of}
use Rattle.machine.specs.Primitives.{link_in, unlink}
use Rattle.sound.specs.Relation.{tiled, Shape, falls, Homes}
use Rattle.sound.specs.Tiles.{zero_or, tiled-split}
use Rattle.sound.specs.Frames.{set_cases}
use Rattle.sound.specs.Apart.{sizes-mid, sizes-same, tiled-tiles}
use Rattle.sound.specs.Lists.{cut, cut-cnt, in-range}

pub falls-cong : (f g : ℕ → ℕ) (l : List ℕ) → ((x : ℕ) → 1 ≤ cnt x l → g x ≡ f x) → falls f l → falls g l
falls-cong f g [] e k = tt
falls-cong f g (x ∷ l) e k =
    ((λ y m. omega (arith, e x (cnt-here x l), e y (cnt-there y x l m), k.0 y m)), falls-cong f g l (λ y m. e y (cnt-there y x l m)) k.1)

pub falls-split : (f : ℕ → ℕ) (a b : List ℕ) → falls f (a ++ b) → falls f a × falls f b × ((x y : ℕ) → 1 ≤ cnt x a → 1 ≤ cnt y b → f y ≤ f x)
falls-split f [] b k = (tt, k, λ x y m. absurd (not-suc-le-zero m))
falls-split f (z ∷ a) b k =
    let r : falls f a × falls f b × ((x y : ℕ) → 1 ≤ cnt x a → 1 ≤ cnt y b → f y ≤ f x) = falls-split f a b k.1 in (
      ((λ y m. k.0 y (omega (arith, cnt-append y a b))), r.0),
      r.1,
      (λ x y m n. ⊎_elim (λ q. rw q (k.0 y (omega (arith, cnt-append y a b)))) (λ q. r.2 x y (omega (arith, ind-other x z q)) n) (eq? x z)),
    )

pub falls-join : (f : ℕ → ℕ) (a b : List ℕ) → falls f a → falls f b → ((x y : ℕ) → 1 ≤ cnt x a → 1 ≤ cnt y b → f y ≤ f x) → falls f (a ++ b)
falls-join f [] b j k m = k
falls-join f (z ∷ a) b j k m = (
  (λ y i. ⊎_elim (λ q. m z y (cnt-here z a) (omega (arith, cnt-append y a b))) (λ q. j.0 y q) (zero_or (cnt y a))),
  falls-join f a b j.1 k (λ x y i n. m x y (cnt-there x z a i) n),
)

-- ---- the lists stay and the listed chunks' sizes stay
pub homes-tiles : (h : Heap) (ts : List Tile) → ((x : ℕ) → 1 ≤ total x h → size_of (with_tiles ts h) x ≡ size_of h x) → Homes h → Homes (with_tiles ts h)
homes-tiles h ts e m = record {
  stacked = λ k x i. e x (omega (arith, cnt-le-all x h.stacks k)) ∙ m.stacked k x i;
  quick = λ k x p i. omega (arith, e x (omega (arith, cnt-le-all x h.stacks k)), m.quick k x p i);
  short = m.short;
  none = m.none;
  sorted = λ j x p i. ap bin_of (e x (omega (arith, cnt-le-all x h.bins j))) ∙ m.sorted j x p i;
  falling = λ j p. falls-cong (λ x. size_of h x) (λ x. size_of (with_tiles ts h) x) (bin h j)
      (λ x i. e x (omega (arith, cnt-le-all x h.bins j))) (m.falling j p);
}

-- ---- a chunk leaves a bin; a chunk goes into one
pub homes-unlink : (h : Heap) (j c : ℕ) → 1 ≤ cnt c (bin h j) → Homes h → Homes (heap_of (unlink j c h))
homes-unlink h j c mc m =
    let xs : List ℕ = pre c (bin h j) in
    let ys : List ℕ = post c (bin h j) in
    let hj = in-range c h.bins j mc in
    let fewer : (x : ℕ) → 1 ≤ cnt x (xs ++ ys) → 1 ≤ cnt x (bin h j) = λ x i. omega (arith, cut-cnt c (bin h j) mc x, cnt-append x xs ys) in
    record {
      stacked = m.stacked;
      quick = m.quick;
      short = m.short;
      none = set_cases (λ l. l ≡ []) h.bins j (xs ++ ys) 0 hj
          (λ e. absurd (omega (arith, mc, ap (λ (i : ℕ). cnt c (bin h i)) e, ap (cnt c) m.none))) (λ e. m.none);
      sorted = λ k x p. set_cases (λ l. 1 ≤ cnt x l → bin_of (size_of h x) ≡ k) h.bins j (xs ++ ys) k hj
          (λ e i. m.sorted k x p (rw e (fewer x i))) (λ e. m.sorted k x p);
      falling = λ k p. set_cases (λ l. falls (λ x. size_of h x) l) h.bins j (xs ++ ys) k hj
          (λ e.
          let f : falls (λ x. size_of h x) (xs ++ c ∷ ys) = subst (falls (λ x. size_of h x)) (ap (bin h) e ∙ cut c (bin h j) mc) (m.falling k p) in
          let r = falls-split (λ x. size_of h x) xs (c ∷ ys) f in
          falls-join (λ x. size_of h x) xs ys r.0 r.1.1 (λ x y i n. r.2 x y i (cnt-there y c ys n)))
          (λ e. m.falling k p);
    }

pub homes-link : (h : Heap) (j c : ℕ) (xs ys : List ℕ) → 1 ≤ j → j < length h.bins → bin h j ≡ xs ++ ys → (2 ≤ j → bin_of (size_of h c) ≡ j)
    → (64 ≤ j → falls (λ x. size_of h x) (xs ++ c ∷ ys)) → Homes h → Homes (heap_of (link_in j c xs ys h))
homes-link h j c xs ys j1 hj e bc fc m = record {
  stacked = m.stacked;
  quick = m.quick;
  short = m.short;
  none = set_cases (λ l. l ≡ []) h.bins j (xs ++ c ∷ ys) 0 hj (λ q. absurd (omega arith)) (λ q. m.none);
  sorted = λ k x p. set_cases (λ l. 1 ≤ cnt x l → bin_of (size_of h x) ≡ k) h.bins j (xs ++ c ∷ ys) k hj
      (λ q i. ⊎_elim
      (λ z. ap (λ (y : ℕ). bin_of (size_of h y)) z ∙ bc (omega (arith, q)) ∙ sym q)
      (λ (z : x ≡ c → ⊥). m.sorted k x p (rw (q, e) (omega (arith, cnt-append x xs (c ∷ ys), cnt-append x xs ys, ind-other x c z))))
      (eq? x c))
      (λ q. m.sorted k x p);
  falling = λ k p. set_cases (λ l. falls (λ x. size_of h x) l) h.bins j (xs ++ c ∷ ys) k hj
      (λ q. fc (omega (arith, q))) (λ q. m.falling k p);
}

-- a tile of the same size in the place of u
pub homes_same : (h : Heap) (a r : List Tile) (u v : Tile) → h.tiles ≡ a ++ u ∷ r → Shape h → v.size ≡ u.size → v.p ≤ 1 → Homes h
    → Homes (with_tiles (a ++ v ∷ r) h)
homes_same h a r u v e s q p m = homes-tiles h (a ++ v ∷ r) (λ y i. sizes-same h a r u v y e s q p (omega (arith, s.own y))) m

-- two chunks that no list has become one
pub homes-whole : (h : Heap) (a r : List Tile) (t u v : Tile) → h.tiles ≡ a ++ t ∷ u ∷ r → Shape h → v.size ≡ t.size + u.size → v.p ≤ 1
    → total (end_from 0 a) h ≡ 0 → total (end_from 0 a + t.size) h ≡ 0 → Homes h → Homes (with_tiles (a ++ v ∷ r) h)
homes-whole h a r t u v e s q p tc tn m =
    let c : ℕ = end_from 0 a in
    let f : tiled a × tiled (t ∷ u ∷ r) = tiled-split a (t ∷ u ∷ r) (subst tiled e (tiled-tiles h s)) in
    homes-tiles h (a ++ v ∷ r)
    (λ y i. sizes-mid h (a ++ v ∷ r) a (t ∷ u ∷ []) (v ∷ []) r y s (tiled-tiles h s)
    (omega (arith, f.1.0, f.1.3.0), omega (arith, f.1.1), p, tt) e refl (inl (omega arith)) i
    (omega (
      arith,
      ind-other y c (λ q. omega (arith, ap (λ (z : ℕ). total z h) q)),
      ind-other y (c + t.size) (λ q. omega (arith, ap (λ (z : ℕ). total z h) q)),
    )))
    m
