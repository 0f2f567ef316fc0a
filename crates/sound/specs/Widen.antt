-- A block grows where it stands: from the top, or by the chunk behind it, whose own flags do not count then. Each leaves a sound heap once finished.
-- Assumes nothing.
use Rattle.std.specs.Prelude.{◌≡◌, refl, List, [], ◌∷◌, ◌++◌, ℕ, ◌+◌, ◌-◌, ◌%◌, ◌≤◌}
use Rattle.std.proofs.Common.{sym, ap, ◌∙◌, subst, append-nil, inl, inr, arith}
use Rattle.machine.specs.Lists.{cnt}
use Rattle.machine.specs.Count.{ind-other}
use Rattle.machine.specs.Heap.{Tile, tile, Heap, bin, with_tiles, end_from, hd_p, top_of, top_size, size_of, p_of, next, binned, total, bin_has}
use Rattle.machine.specs.Writes.{Write, apply, Ran, heap_of, writes, does, ◌>>=◌, size}
use Rattle.machine.specs.Primitives.{unlink, widen, grow_top}
use Rattle.machine.specs.Resize.{finish}
use Rattle.sound.specs.Relation.{tiled, Mem, Shape, Loose, flags, Homes, Good}
use Rattle.sound.specs.Tiles.{tiled-split, tiled-join, end-le, end-append, none_out, starts-once, Place, place}
use Rattle.sound.specs.Apart.{size-at, sizes-mid, tiled-tiles, tiles-at}
use Rattle.sound.specs.Lists.{unlink-shape, unlink-loose, unlink-mem}
use Rattle.sound.specs.Edits.{snoc-end, snoc-tiles, size-next, top-mid, widen-is, widen-kept, grow-is, grow-kept, size-place}
use Rattle.sound.specs.Flags.{flags_after, flags-split, flags-join, flags-below, after-above, flags-after}
use Rattle.sound.specs.Homes.{homes-tiles, homes-unlink, homes-whole}
use Rattle.sound.specs.Join.{binned-unlink, bin-has}
use Rattle.sound.specs.Spares.{unlink-spares}
use Rattle.sound.specs.Moves.{one, listed-not, moved_by, unlink-moved, widen-moved, grow-moved}
use Rattle.sound.specs.Below.{p-at}
use Rattle.sound.specs.Finish.{Held, held-good, held-loose, InPlace, in-place-next, finish-in-place}

-- ---- c, at the end of a, and the chunk u behind it are loose: all flags hold but u's and those of the chunk after it
pub record Beside (h : Heap) (a : List Tile) (t u : Tile) (r : List Tile) : Type 0 where
  pub shape : Shape h
  pub homes : Homes h
  pub tiles : h.tiles ≡ a ++ t ∷ u ∷ r
  pub loose : total (end_from 0 a) h ≡ 0
  pub behind : total (end_from 0 a + t.size) h ≡ 0
  pub low : flags (λ x. binned h x) 0 0 0 (a ++ t ∷ [])
  pub high : flags_after (λ x. binned h x) (end_from 0 a + t.size + u.size) (r ++ tile (top_size h) 1 0 ∷ [])

module _ (h : Heap) (a r : List Tile) (t u : Tile) (g : Good h) (e : h.tiles ≡ a ++ t ∷ u ∷ r) (lo : total (end_from 0 a) h ≡ 0) where
  abbrev x : ℕ
  x = end_from 0 a + t.size

  abbrev q : ℕ → ℕ
  q y = binned h y

  abbrev T : List Tile
  T = tile (top_size h) 1 0 ∷ []

  held : Held h a t (u ∷ r)
  held = held-good h a t (u ∷ r) g e lo

  -- u is loose
  pub beside-loose : total (end_from 0 a + t.size) h ≡ 0 → Beside h a t u r
  beside-loose tx = record {
    shape = g.shape;
    homes = g.homes;
    tiles = e;
    loose = lo;
    behind = tx;
    low = held.low;
    high = flags-after q (x + u.size) (q x) u.size (r ++ T) held.high;
  }

  -- u has left its bin
  pub beside-unlinked : 1 ≤ binned h (end_from 0 a + t.size)
      → Beside (heap_of (unlink (bin_has h (end_from 0 a + t.size)) (end_from 0 a + t.size) h)) a t u r
  beside-unlinked m =
      let s = g.shape in
      let j : ℕ = bin_has h x in
      let mx : 1 ≤ cnt x (bin h j) = bin-has h x m in
      let h₁ : Heap = heap_of (unlink j x h) in
      let d : ℕ → ℕ = λ y. binned h₁ y in
      let f : tiled a × tiled (t ∷ u ∷ r) = tiled-split a (t ∷ u ∷ r) (subst tiled e (tiled-tiles h s)) in
      let fa : tiled (a ++ t ∷ []) = tiled-join a (t ∷ []) f.0 (f.1.0, f.1.1, f.1.2, tt) in
      let same : (y : ℕ) → (y ≡ x → ⊥) → d y ≡ q y = λ y n. omega (arith, binned-unlink h j x y mx, ind-other y x n) in
      let lx : Loose h₁ x = unlink-loose h j x s mx in
      record {
        shape = unlink-shape h j x s mx;
        homes = homes-unlink h j x mx g.homes;
        tiles = e;
        loose = omega (arith, lo, binned-unlink h j x (end_from 0 a) mx);
        behind = omega (arith, lx, starts-once h.tiles 0 x (tiled-tiles h s));
        low = flags-below q d 0 0 0 0 (a ++ t ∷ []) fa refl (λ y i. same y (omega (arith, snoc-end a t))) held.low;
        high = after-above q d (x + u.size) (r ++ T) (λ y i. same y (omega (arith, f.1.3.1))) (flags-after q (x + u.size) (q x) u.size (r ++ T) held.high);
      }

-- ---- c takes in the chunk u behind it, and is finished
module _ (h : Heap) (w : List ℕ) (a r : List Tile) (t u : Tile) (B : Beside h a t u r) (k : Mem h w) where
  abbrev c : ℕ
  c = end_from 0 a

  abbrev U : Tile
  U = tile (t.size + u.size) t.p t.prev

  abbrev ws : List Write
  ws = size c (t.size + u.size) t.p ∷ []

  f : tiled a × tiled (t ∷ u ∷ r)
  f = tiled-split a (t ∷ u ∷ r) (subst tiled B.tiles (tiled-tiles h B.shape))

  pub widened : Held (with_tiles (a ++ U ∷ r) h) a U r
  widened =
      let b : ℕ → ℕ = λ x. binned h x in
      let ez : c + t.size + u.size ≡ c + (t.size + u.size) = omega arith in
      let F = flags-split b 0 0 0 a (t ∷ []) B.low in
      record {
        shape = (widen-kept h w a r t u B.tiles B.shape k B.loose B.behind).shape;
        homes = homes-whole h a r t u U B.tiles B.shape refl f.1.2 B.loose B.behind B.homes;
        tiles = refl;
        low = flags-join b 0 0 0 a (U ∷ []) F.0 (F.1.0, F.1.1, F.1.2, tt);
        loose = B.loose;
        high = rw (top-mid h a (t ∷ u ∷ []) (U ∷ []) r B.tiles ez, ← ez) B.high;
      }

  pub widen-in-place : (b : ℕ) → b % 16 ≡ 0 → 32 ≤ b → b ≤ t.size + u.size
      → InPlace c b t.p (λ x. one c x + one (c + t.size) x) h w (widen c h >>= (λ g. finish c b g))
  widen-in-place b b16 b32 l =
      let s = B.shape in
      let e = B.tiles in
      let wi = widen-is h w a r t u e s in
      let h₁ : Heap = with_tiles (a ++ U ∷ r) h in
      let z₀ : size_of h c ≡ t.size = size-at h a (u ∷ r) t e f.0 in
      let z₁ : size_of h₁ c ≡ t.size + u.size = size-at h₁ a r U refl f.0 in
      subst (λ (x : Ran (Unit {0})). InPlace c b t.p (λ x. one c x + one (c + t.size) x) h w (x >>= (λ g. finish c b g))) (sym wi)
      (in-place-next {r = does h₁ ws} (λ g. finish c b g)
      (moved_by (sym wi) (widen-moved h a r t u e s)) (inl (omega arith), tt) (omega (arith, z₀, z₁))
      (finish-in-place h₁ (apply ws w) a U r widened (widen-kept h w a r t u e s k B.loose B.behind).mem b b16 b32 l)
      (λ x. omega arith) (λ x lo z. (z, omega arith)))

-- ---- c takes in a binned chunk behind it
behind : (h : Heap) (w : List ℕ) (a : List Tile) (t : Tile) (r : List Tile) (b : ℕ) → Good h → Mem h w → h.tiles ≡ a ++ t ∷ r → total (end_from 0 a) h ≡ 0
    → b % 16 ≡ 0 → 32 ≤ b → 1 ≤ binned h (end_from 0 a + t.size) → b ≤ t.size + size_of h (end_from 0 a + t.size)
    → InPlace (end_from 0 a) b t.p (one (end_from 0 a)) h w
    (unlink (bin_has h (end_from 0 a + t.size)) (end_from 0 a + t.size) h >>= (λ g. widen (end_from 0 a) g >>= (λ g. finish (end_from 0 a) b g)))
behind h w a t [] b g k e lo b16 b32 m l =
    let x : ℕ = end_from 0 a + t.size in
    let tp : top_of h ≡ x = ap (end_from 0) e ∙ snoc-end a t in
    absurd (omega (arith, g.shape.own x, none_out h.tiles 0 x (tiled-tiles h g.shape) (inr (omega arith))))
behind h w a t (u ∷ r) b g k e lo b16 b32 m l =
    let c : ℕ = end_from 0 a in
    let x : ℕ = c + t.size in
    let s = g.shape in
    let j : ℕ = bin_has h x in
    let mx : 1 ≤ cnt x (bin h j) = bin-has h x m in
    let f : tiled a × tiled (t ∷ u ∷ r) = tiled-split a (t ∷ u ∷ r) (subst tiled e (tiled-tiles h s)) in
    let fa : tiled (a ++ t ∷ []) = tiled-join a (t ∷ []) f.0 (f.1.0, f.1.1, f.1.2, tt) in
    let lc : Loose h c = held-loose h a t (u ∷ r) (held-good h a t (u ∷ r) g e lo) in
    in-place-next {r = unlink j x h} (λ g. widen c g >>= (λ g. finish c b g))
    (unlink-moved h j x s mx) (unlink-spares h j x c s lc mx) (omega arith)
    (widen-in-place (heap_of (unlink j x h)) (apply (writes (unlink j x h)) w) a r t u (beside-unlinked h a r t u g e lo m) (unlink-mem h w j x s k mx)
    b b16 b32 (omega (arith, size-next h a r t u e fa)))
    (λ y. omega arith) (λ y lo z. (refl, omega (arith, listed-not h y x s lo (omega arith))))

-- ---- c takes in a chunk d right behind it, which no list has
pub joined-in-place : (h : Heap) (w : List ℕ) (c d b : ℕ) → Good h → Mem h w → Loose h c → Loose h d → d ≡ c + size_of h c → b % 16 ≡ 0 → 32 ≤ b → b ≤ size_of h d
    → InPlace c b (p_of h c) (λ x. one c x + one d x) h w (widen c h >>= (λ g. finish c b g))
joined-in-place h w c d b g k lc ld ed b16 b32 l = go P.z P.tiles
  where
    P : Place h.tiles 0 c
    P = place h.tiles 0 c (omega (arith, lc))

    once : (x : ℕ) → Loose h x → total x h ≡ 0
    once x lo = omega (arith, lo, starts-once h.tiles 0 x (tiled-tiles h g.shape))

    at : d ≡ end_from 0 P.a + P.t.size
    at = omega (arith, ed, (size-place h c g.shape P).0, P.at)

    go : (z : List Tile) → h.tiles ≡ P.a ++ P.t ∷ z → InPlace c b (p_of h c) (λ x. one c x + one d x) h w (widen c h >>= (λ g. finish c b g))
    go [] e =
        let tp : top_of h ≡ d = ap (end_from 0) e ∙ snoc-end P.a P.t ∙ sym at in
        absurd (omega (arith, ld, none_out h.tiles 0 d (tiled-tiles h g.shape) (inr (omega arith))))
    go (u ∷ r) e =
        let a = P.a in
        let t = P.t in
        let s = g.shape in
        let f : tiled a × tiled (t ∷ u ∷ r) = tiled-split a (t ∷ u ∷ r) (subst tiled e (tiled-tiles h s)) in
        let fa : tiled (a ++ t ∷ []) = tiled-join a (t ∷ []) f.0 (f.1.0, f.1.1, f.1.2, tt) in
        let tc : total (end_from 0 a) h ≡ 0 = subst (λ (x : ℕ). total x h ≡ 0) P.at (once c lc) in
        let td : total (end_from 0 a + t.size) h ≡ 0 = subst (λ (x : ℕ). total x h ≡ 0) at (once d ld) in
        let p : p_of h (end_from 0 a) ≡ t.p = ap hd_p (tiles-at h a (t ∷ u ∷ r) e f.0).1 in
        subst (λ (d : ℕ). InPlace c b (p_of h c) (λ x. one c x + one d x) h w (widen c h >>= (λ g. finish c b g))) (sym at)
        (subst (λ (c : ℕ). InPlace c b (p_of h c) (λ x. one c x + one (end_from 0 a + t.size) x) h w (widen c h >>= (λ g. finish c b g))) (sym P.at)
        (subst (λ (p : ℕ). InPlace (end_from 0 a) b p (λ x. one (end_from 0 a) x + one (end_from 0 a + t.size) x) h w
        (widen (end_from 0 a) h >>= (λ g. finish (end_from 0 a) b g))) (sym p)
        (widen-in-place h w a r t u (beside-loose h a r t u g e tc td) k b b16 b32 (omega (arith, ap (size_of h) at, size-next h a r t u e fa)))))

-- ---- c, the last before the top, takes from the top
grown : (h : Heap) (w : List ℕ) (a : List Tile) (t : Tile) (r : List Tile) (b : ℕ) → Good h → Mem h w → h.tiles ≡ a ++ t ∷ r → total (end_from 0 a) h ≡ 0
    → b % 16 ≡ 0 → 32 ≤ b → end_from 0 a + t.size ≡ top_of h → t.size ≤ b → b + 32 ≤ t.size + top_size h
    → InPlace (end_from 0 a) b t.p (one (end_from 0 a)) h w (grow_top (end_from 0 a) b h)
grown h w a t (u ∷ r) b g k e lo b16 b32 tp tb l =
    let f : tiled a × tiled (t ∷ u ∷ r) = tiled-split a (t ∷ u ∷ r) (subst tiled e (tiled-tiles h g.shape)) in
    absurd (omega (arith, tp, ap (end_from 0) e, end-append 0 a (t ∷ u ∷ r), end-le (end_from 0 a + t.size + u.size) r, f.1.3.1))
grown h w a t [] b g k e lo b16 b32 tp tb l =
    let c : ℕ = end_from 0 a in
    let s = g.shape in
    let A : Tile = tile b t.p t.prev in
    let h₁ : Heap = with_tiles (a ++ A ∷ []) h in
    let z : ℕ = h.len - (c + b) in
    let ws : List Write = size c b t.p ∷ size (c + b) z 1 ∷ [] in
    let gi = grow-is h a t b e s in
    let f : tiled a × tiled (t ∷ []) = tiled-split a (t ∷ []) (subst tiled e (tiled-tiles h s)) in
    let ft : tiled h.tiles × tiled (tile (top_size h) 1 0 ∷ []) = tiled-split h.tiles (tile (top_size h) 1 0 ∷ []) s.sizes in
    let K = grow-kept h w a t b e s k lo b16 b32 (omega (arith, ft.1.1)) in
    let q : ℕ → ℕ = λ x. binned h x in
    let H = held-good h a t [] g e lo in
    let F = flags-split q 0 0 0 a (t ∷ []) H.low in
    let none : binned h (c + b) ≡ 0 = omega (arith, s.own (c + b), none_out h.tiles 0 (c + b) (tiled-tiles h s) (inr (omega arith))) in
    let zb : size_of h₁ c ≡ b = size-at h₁ a [] A refl f.0 in
    subst (λ (x : Ran (Unit {0})). InPlace c b t.p (one c) h w x) (sym gi) (record {
      leaves = record {
        mem = K.mem;
        now = (
          record {
            shape = K.shape;
            homes = homes-tiles h (a ++ A ∷ [])
                (λ y i. sizes-mid h (a ++ A ∷ []) a (t ∷ []) (A ∷ []) [] y s (tiled-tiles h s) (b16, b32, f.1.2, tt) e refl (inr refl) i
                (omega (arith, ind-other y c (λ p. omega (arith, ap (λ (o : ℕ). total o h) p, lo)))))
                g.homes;
            flag = subst (flags q 0 0 0) (sym (ap (λ (o : ℕ). (a ++ A ∷ []) ++ tile (h.len - o) 1 0 ∷ []) (snoc-end a A) ∙ snoc-tiles a (tile z 1 0 ∷ []) A))
                (flags-join q 0 0 0 a (A ∷ tile z 1 0 ∷ []) F.0 (
                  F.1.0,
                  F.1.1,
                  F.1.2,
                  (omega (arith, lo), omega (arith, lo, none), ((λ p. absurd (omega (arith, p))), λ p. refl), tt),
                ));
          },
          omega (arith, zb),
        );
        moved = moved_by (sym gi) (grow-moved h a t b e s b16 b32 K.shape);
      };
      own = inl (p-at h₁ a A f.0 (record { rest = []; tiles = sym (append-nil (a ++ A ∷ [])) }));
      spare = λ m i j. (inl (omega arith), (inr (omega (arith, zb)), tt));
    })

-- ---- the same of any live block
module _ (h : Heap) (w : List ℕ) (c b : ℕ) (g : Good h) (k : Mem h w) (lc : Loose h c) (b16 : b % 16 ≡ 0) (b32 : 32 ≤ b) where
  P : Place h.tiles 0 c
  P = place h.tiles 0 c (omega (arith, lc))

  lo : total (end_from 0 P.a) h ≡ 0
  lo = sym (ap (λ (x : ℕ). total x h) P.at) ∙ (let q : total c h ≡ 0 = omega (arith, lc, starts-once h.tiles 0 c (tiled-tiles h g.shape)) in q)

  sz : size_of h c ≡ P.t.size
  sz = (size-place h c g.shape P).0

  en : next h c ≡ end_from 0 P.a + P.t.size
  en = omega (arith, sz, P.at)

  -- what holds of the chunk at the end of the tiles before c, holds of c
  at_place : {A : Type 0} (f : ℕ → Ran A) → InPlace (end_from 0 P.a) b P.t.p (one (end_from 0 P.a)) h w (f (end_from 0 P.a)) → InPlace c b (p_of h c) (one c) h w (f c)
  at_place {A} f I =
      let F : tiled P.a × tiled (P.t ∷ P.z) = tiled-split P.a (P.t ∷ P.z) (subst tiled P.tiles (tiled-tiles h g.shape)) in
      let p : P.t.p ≡ p_of h c = sym (ap hd_p (tiles-at h P.a (P.t ∷ P.z) P.tiles F.0).1) ∙ ap (p_of h) (sym P.at) in
      subst (λ (p : ℕ). InPlace c b p (one c) h w (f c)) p (subst (λ (c : ℕ). InPlace c b P.t.p (one c) h w (f c)) (sym P.at) I)

  pub stay-in-place : b ≤ size_of h c → InPlace c b (p_of h c) (one c) h w (finish c b h)
  stay-in-place l = at_place (λ c. finish c b h)
      (finish-in-place h w P.a P.t P.z (held-good h P.a P.t P.z g P.tiles lo) k b b16 b32 (omega (arith, sz)))

  pub grow-in-place : next h c ≡ top_of h → size_of h c ≤ b → b + 32 ≤ size_of h c + top_size h → InPlace c b (p_of h c) (one c) h w (grow_top c b h)
  grow-in-place e i l = at_place (λ c. grow_top c b h)
      (grown h w P.a P.t P.z b g k P.tiles lo b16 b32 (sym en ∙ e) (omega (arith, sz)) (omega (arith, sz)))

  pub behind-in-place : 1 ≤ binned h (next h c) → b ≤ size_of h c + size_of h (next h c)
      → InPlace c b (p_of h c) (one c) h w (unlink (bin_has h (next h c)) (next h c) h >>= (λ g. widen c g >>= (λ g. finish c b g)))
  behind-in-place m l =
      subst (λ (x : ℕ). InPlace c b (p_of h c) (one c) h w (unlink (bin_has h x) x h >>= (λ g. widen c g >>= (λ g. finish c b g)))) (sym en)
      (at_place (λ c. unlink (bin_has h (end_from 0 P.a + P.t.size)) (end_from 0 P.a + P.t.size) h >>= (λ g. widen c g >>= (λ g. finish c b g)))
      (behind h w P.a P.t P.z b g k P.tiles lo b16 b32 (rw en at m) (omega (arith, sz, ap (size_of h) en))))
