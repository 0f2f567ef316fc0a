-- The primitives on tiles: what each comes to at a chunk in place, and that it keeps the heap's shape and words. All by one law: a middle is put in
-- another's place (mid). Assumes nothing.
use Rattle.std.specs.Prelude.{◌≡◌, refl, List, [], ◌∷◌, ◌++◌, ℕ, ◌+◌, ◌-◌, ◌/◌, ◌%◌, ◌≤◌, ◌<◌, length, get_or}
use Rattle.std.proofs.Common.{sym, ap, ◌∙◌, subst, append_assoc, append-nil, inl, inr, ⊎_elim, arith}
use Rattle.sizes.specs.Layout.{prev_word}
use Rattle.machine.specs.Lists.{cnt}
use Rattle.machine.specs.Count.{eq?, ind-other, cnt-here, cnt-there, cnt-le-all}
use Rattle.machine.specs.Heap.{Tile, tile, Heap, with_tiles, end_from, starts_from, top_of, top_size, starts, size_of, total}
use Rattle.machine.specs.Writes.{Write, who, put, apply, does, size, note}
use Rattle.machine.specs.Primitives.{swallow, clear_p, set_p, set_note, cut_at, to_top, widen, trim_at, grow_top}
use Rattle.sound.specs.Relation.{all, tiled, tiles_at, Mem, Shape}
use Rattle.sound.specs.Tiles.{zero_or, tiled-split, tiled-join, end-even, end-append, starts-append, Start, start, Place, place, tiles-split}
use Rattle.sound.specs.Apart.{size-at, sizes-mid, sizes-same, tiled-tiles, tiles-at}
use Rattle.sound.specs.Rings.{head-low-w, low-skips, skips-tiles}
use Rattle.sound.specs.Frames.{end-all, Starts, Grid, grid, put-length, put_other, put_same, HeadW, retile, Within, words-mid}

-- ---- what stands at the end of a
pub snoc-end : (a : List Tile) (t : Tile) → end_from 0 (a ++ t ∷ []) ≡ end_from 0 a + t.size
snoc-end a t = end-append 0 a (t ∷ [])

pub snoc-tiles : (a z : List Tile) (t : Tile) → (a ++ t ∷ []) ++ z ≡ a ++ t ∷ z
snoc-tiles a z t = append_assoc a (t ∷ []) z

pub size-next : (h : Heap) (a z : List Tile) (t u : Tile) → h.tiles ≡ a ++ t ∷ u ∷ z → tiled (a ++ t ∷ []) → size_of h (end_from 0 a + t.size) ≡ u.size
size-next h a z t u e f = rw (snoc-end a t) at (size-at h (a ++ t ∷ []) z u (e ∙ sym (snoc-tiles a (u ∷ z) t)) f)

-- ---- a middle is put in another's place
pub top-mid : (h : Heap) (a m n z : List Tile) → h.tiles ≡ a ++ (m ++ z) → end_from (end_from 0 a) m ≡ end_from (end_from 0 a) n
    → top_of (with_tiles (a ++ (n ++ z)) h) ≡ top_of h
top-mid h a m n z e q =
    end-append 0 a (n ++ z) ∙ end-append (end_from 0 a) n z ∙ ap (λ (o : ℕ). end_from o z) (sym q)
    ∙ sym (end-append (end_from 0 a) m z) ∙ sym (end-append 0 a (m ++ z)) ∙ ap (end_from 0) (sym e)

pub all-mid : (h : Heap) (a m n z : List Tile) → h.tiles ≡ a ++ (m ++ z) → end_from (end_from 0 a) m ≡ end_from (end_from 0 a) n
    → (all h ≡ a ++ (m ++ (z ++ tile (top_size h) 1 0 ∷ []))) × (all (with_tiles (a ++ (n ++ z)) h) ≡ a ++ (n ++ (z ++ tile (top_size h) 1 0 ∷ [])))
all-mid h a m n z e q =
    let T : List Tile = tile (top_size h) 1 0 ∷ [] in
    let one : (m : List Tile) → (a ++ (m ++ z)) ++ T ≡ a ++ (m ++ (z ++ T)) = λ m. append_assoc a (m ++ z) T ∙ ap (λ (l : List Tile). a ++ l) (append_assoc m z T) in (
      ap (λ (l : List Tile). l ++ T) e ∙ one m,
      ap (λ (o : ℕ). (a ++ (n ++ z)) ++ tile (h.len - o) 1 0 ∷ []) (top-mid h a m n z e q) ∙ one n,
    )

-- a tile of the same size in the place of u: the starts stay
pub same-starts : (h : Heap) (a z : List Tile) (u v : Tile) → h.tiles ≡ a ++ u ∷ z → v.size ≡ u.size → (x : ℕ)
    → cnt x (starts_from 0 (a ++ v ∷ z)) ≡ cnt x (starts h)
same-starts h a z u v e q x = omega (
  arith,
  ap (λ (l : List Tile). cnt x (starts_from 0 l)) e,
  starts-append 0 a (u ∷ z) x,
  starts-append 0 a (v ∷ z) x,
  ap (λ (o : ℕ). cnt x (starts_from (end_from 0 a + o) z)) q,
)

head-within : (o : ℕ) (n : List Tile) (ws : List Write) → o % 16 ≡ 0 → tiled n → HeadW (starts_from o n) ws → Within (o / 8) (end_from o n / 8) ws
head-within o n [] e f k = tt
head-within o n (x ∷ ws) e f k =
    let s : Start n o (who x) = start n o (who x) f k.1 in
    (omega (arith, s.low), omega (arith, s.high, s.even, k.0), head-within o n ws e f k.2)

head_more : (L M : List ℕ) (ws : List Write) → ((x : ℕ) → 1 ≤ cnt x L → 1 ≤ cnt x M) → HeadW L ws → HeadW M ws
head_more L M [] s k = tt
head_more L M (e ∷ ws) s k = (k.0, s (who e) k.1, head_more L M ws s k.2)

pub mid-mem : (h : Heap) (w : List ℕ) (ts a m n z : List Tile) (ws : List Write) → Shape h → Mem h w → Shape (with_tiles ts h)
    → all h ≡ a ++ (m ++ z) → all (with_tiles ts h) ≡ a ++ (n ++ z) → end_from (end_from 0 a) m ≡ end_from (end_from 0 a) n
    → ((x : ℕ) → 1 ≤ total x h → size_of (with_tiles ts h) x ≡ size_of h x)
    → HeadW (starts_from (end_from 0 a) n) ws → tiles_at (apply ws w) (end_from 0 a) n → Mem (with_tiles ts h) (apply ws w)
mid-mem h w ts a m n z ws s k s' e e' q same hw kn =
    let c : ℕ = end_from 0 a in
    let f : tiled (a ++ (m ++ z)) = subst tiled e s.sizes in
    let fa : tiled a × tiled (m ++ z) = tiled-split a (m ++ z) f in
    let fn : tiled n × tiled z = tiled-split n z (tiled-split a (n ++ z) (subst tiled e' s'.sizes)).1 in
    let ce : c % 16 ≡ 0 = end-even 0 a refl fa.0 in
    let st : (x : ℕ) → cnt x (Starts (with_tiles ts h)) ≡ cnt x (starts_from 0 a) + (cnt x (starts_from c n) + cnt x (starts_from (end_from c n) z))
    = λ x. ap (λ (l : List Tile). cnt x (starts_from 0 l)) e' ∙ starts-append 0 a (n ++ z) x
    ∙ ap (λ (i : ℕ). cnt x (starts_from 0 a) + i) (starts-append c n z x) in
    let hw' : HeadW (Starts (with_tiles ts h)) ws = head_more (starts_from c n) (Starts (with_tiles ts h)) ws (λ x i. omega (arith, st x)) hw in
    retile h w ts ws k s' hw'
    (subst (tiles_at (apply ws w) 0) (sym e')
    (words-mid w ws a m n z f fn.0 q (rw q (head-within c n ws ce fn.0 hw)) kn (subst (tiles_at w 0) e k.words)))
    (low-skips (with_tiles ts h) s' ws w (head-low-w (with_tiles ts h) s' ws hw') (skips-tiles h ts w same (k.skipped (omega arith))))

pub mid-shape : (h : Heap) (ts a m n z : List Tile) → Shape h → all h ≡ a ++ (m ++ z) → all (with_tiles ts h) ≡ a ++ (n ++ z) → tiled n
    → ((x : ℕ) → 1 ≤ total x h → cnt x (starts h) ≤ cnt x (starts_from 0 ts)) → ((x : ℕ) → 1 ≤ total x h → size_of (with_tiles ts h) x ≡ size_of h x)
    → Shape (with_tiles ts h)
mid-shape h ts a m n z s e e' fn keep same =
    let fa : tiled a × tiled (m ++ z) = tiled-split a (m ++ z) (subst tiled e s.sizes) in
    let fm : tiled m × tiled z = tiled-split m z fa.1 in
    record {
      small = s.small;
      sizes = subst tiled (sym e') (tiled-join a (n ++ z) fa.0 (tiled-join n z fn fm.1));
      stacked74 =
          s.stacked74;
      binned127 = s.binned127;
      own = λ x. ⊎_elim (λ z. omega arith) (λ z. omega (arith, keep x z, s.own x)) (zero_or (total x h));
      roomy = λ j x z m. omega (arith, same x (omega (arith, cnt-le-all x h.bins j)), s.roomy j x z m);
    }

-- what an edit of the tiles leaves
pub record Kept (h : Heap) (ts : List Tile) (w : List ℕ) (ws : List Write) : Type 0 where
  pub shape : Shape (with_tiles ts h)
  pub mem : Mem (with_tiles ts h) (apply ws w)

-- the whole of it: what is left to show is the middle's own words
pub mid : (h : Heap) (w : List ℕ) (ts a m n z : List Tile) (ws : List Write) → Shape h → Mem h w
    → (all h ≡ a ++ (m ++ z)) × (all (with_tiles ts h) ≡ a ++ (n ++ z)) → tiled n → end_from (end_from 0 a) m ≡ end_from (end_from 0 a) n
    → ((x : ℕ) → 1 ≤ total x h → cnt x (starts h) ≤ cnt x (starts_from 0 ts)) → ((x : ℕ) → 1 ≤ total x h → size_of (with_tiles ts h) x ≡ size_of h x)
    → HeadW (starts_from (end_from 0 a) n) ws
    → ((S : List ℕ) → Grid S (length w) → ((x : ℕ) → 1 ≤ cnt x (starts_from (end_from 0 a) n) → 1 ≤ cnt x S) → tiles_at w (end_from 0 a) m
    → tiles_at (apply ws w) (end_from 0 a) n)
    → Kept h ts w ws
mid h w ts a m n z ws s k E fn q keep same hw own =
    let c : ℕ = end_from 0 a in
    let h' : Heap = with_tiles ts h in
    let sh : Shape h' = mid-shape h ts a m n z s E.0 E.1 fn keep same in
    let ka : tiles_at w 0 a × tiles_at w c (m ++ z) = tiles-split w 0 a (m ++ z) (subst (tiles_at w 0) E.0 k.words) in
    record {
      shape = sh;
      mem = mid-mem h w ts a m n z ws s k sh E.0 E.1 q same hw
          (own (Starts h') (grid h' (length w) sh.sizes k.long)
          (λ x i. omega (arith, ap (λ (l : List Tile). cnt x (starts_from 0 l)) E.1, starts-append 0 a (n ++ z) x, starts-append c n z x))
          (tiles-split w c m z ka.1).0);
    }

zeroth : (v : List ℕ) (c : ℕ) → get_or v (prev_word c) 0 ≡ get_or v (c / 8 + 0) 0
zeroth v c = ap (λ (i : ℕ). get_or v i 0) (let e : c / 8 ≡ c / 8 + 0 = omega arith in e)

-- the words of a tile, and of two, whose size words are written; where P is clear, the previous size stands already
module _ (S w : List ℕ) (g : Grid S (length w)) (c : ℕ) (mc : 1 ≤ cnt c S) (p n : ℕ) (old : p ≡ 0 → get_or w (prev_word c) 0 ≡ n) where
  one_word : (z : ℕ) → tiles_at (apply (size c z p ∷ []) w) c (tile z p n ∷ [])
  one_word z = (
    put_same S (length w) g (size c z p) (omega arith) w refl mc,
    λ q. zeroth (put (size c z p) w) c ∙ put_other S (length w) g (size c z p) (omega arith) w c 0 mc mc (omega arith) (λ i j. omega arith) ∙ sym (zeroth w c) ∙ old q,
    tt,
  )

  two-words : (b z : ℕ) → 1 ≤ b → 1 ≤ cnt (c + b) S → tiles_at (apply (size c b p ∷ size (c + b) z 1 ∷ []) w) c (tile b p n ∷ tile z 1 0 ∷ [])
  two-words b z l mb =
      let e : Write = size (c + b) z 1 in
      let w1 : List ℕ = put (size c b p) w in
      let same : (j : ℕ) → j < 2 → get_or (put e w1) (c / 8 + j) 0 ≡ get_or w1 (c / 8 + j) 0 = λ j lt.
      put_other S (length w) g e (omega arith) w1 c j mb mc (omega arith) (λ q r. omega arith) in
      let o = one_word b in (
        same 1 (omega arith) ∙ o.0,
        λ q. zeroth (put e w1) c ∙ same 0 (omega arith) ∙ sym (zeroth w1 c) ∙ o.1 q,
        (put_same S (length w) g e (omega arith) w1 (put-length (size c b p) w) mb, (λ q. absurd (omega (arith, q))), tt),
      )

-- ---- c takes in the next chunk, which no list has: P set, or its own with its previous size
module _ (h : Heap) (w : List ℕ) (a z : List Tile) (t u : Tile) (e : h.tiles ≡ a ++ t ∷ u ∷ z) (s : Shape h) where
  fa : tiled a × tiled (t ∷ u ∷ z)
  fa = tiled-split a (t ∷ u ∷ z) (subst tiled e (tiled-tiles h s))

  pub swallow-is : swallow (end_from 0 a) h ≡ does (with_tiles (a ++ tile (t.size + u.size) 1 0 ∷ z) h) (size (end_from 0 a) (t.size + u.size) 1 ∷ [])
  swallow-is =
      let f = fa in
      let p = tiles-at h a (t ∷ u ∷ z) e f.0 in
      rw (p.0, p.1) (rw (size-next h a z t u e (tiled-join a (t ∷ []) f.0 (f.1.0, f.1.1, f.1.2, tt))))

  pub widen-is : widen (end_from 0 a) h ≡ does (with_tiles (a ++ tile (t.size + u.size) t.p t.prev ∷ z) h) (size (end_from 0 a) (t.size + u.size) t.p ∷ [])
  widen-is =
      let f = fa in
      let p = tiles-at h a (t ∷ u ∷ z) e f.0 in
      rw (p.0, p.1) (rw (size-next h a z t u e (tiled-join a (t ∷ []) f.0 (f.1.0, f.1.1, f.1.2, tt))))

  whole-kept : (p n : ℕ) → p ≤ 1 → (p ≡ 0 → (t.p ≡ 0) × (t.prev ≡ n)) → Mem h w → total (end_from 0 a) h ≡ 0 → total (end_from 0 a + t.size) h ≡ 0
      → Kept h (a ++ tile (t.size + u.size) p n ∷ z) w (size (end_from 0 a) (t.size + u.size) p ∷ [])
  whole-kept p n p1 own k tc lo =
      let f = fa in
      let c : ℕ = end_from 0 a in
      let U : Tile = tile (t.size + u.size) p n in
      let ez : c + t.size + u.size ≡ c + (t.size + u.size) = omega arith in
      mid h w (a ++ U ∷ z) a (t ∷ u ∷ []) (U ∷ []) (z ++ tile (top_size h) 1 0 ∷ []) (size c (t.size + u.size) p ∷ []) s k
      (all-mid h a (t ∷ u ∷ []) (U ∷ []) z e (omega arith))
      (omega (arith, f.1.0, f.1.3.0), omega (arith, f.1.1), p1, tt) (omega arith)
      (λ x i. ⊎_elim
      (λ q. absurd (omega (arith, ap (λ (y : ℕ). total y h) q)))
      (λ q. omega (
        arith,
        ap (λ (l : List Tile). cnt x (starts_from 0 l)) e,
        starts-append 0 a (t ∷ u ∷ z) x,
        starts-append 0 a
            (U ∷ z) x,
        ind-other x (c + t.size) q,
        ap (λ (o : ℕ). cnt x (starts_from o z)) ez,
      ))
      (eq? x (c + t.size)))
      (λ x i. sizes-mid h (a ++ U ∷ z) a (t ∷ u ∷ []) (U ∷ []) z x s (tiled-tiles h s) (omega (arith, f.1.0, f.1.3.0), omega (arith, f.1.1), p1, tt) e refl
      (inl (omega arith)) i
      (omega (arith, ind-other x c (λ q. omega (arith, ap (λ (y : ℕ). total y h) q)), ind-other x (c + t.size) (λ q. omega (arith, ap (λ (y : ℕ). total y h) q)))))
      (omega arith, cnt-here c [], tt)
      (λ S g sub old. one_word S w g c (sub c (cnt-here c [])) p n (λ q. old.1 (own q).0 ∙ (own q).1) (t.size + u.size))

  pub swallow-kept : Mem h w → total (end_from 0 a) h ≡ 0 → total (end_from 0 a + t.size) h ≡ 0
      → Kept h (a ++ tile (t.size + u.size) 1 0 ∷ z) w (size (end_from 0 a) (t.size + u.size) 1 ∷ [])
  swallow-kept k tc lo = whole-kept 1 0 (omega arith) (λ q. absurd (omega (arith, q))) k tc lo

  pub widen-kept : Mem h w → total (end_from 0 a) h ≡ 0 → total (end_from 0 a + t.size) h ≡ 0
      → Kept h (a ++ tile (t.size + u.size) t.p t.prev ∷ z) w (size (end_from 0 a) (t.size + u.size) t.p ∷ [])
  widen-kept k tc lo = whole-kept t.p t.prev fa.1.2 (λ q. (q, refl)) k tc lo

-- ---- P and the note of a chunk; a chunk is cut
module _ (h : Heap) (w : List ℕ) (a z : List Tile) (u : Tile) (e : h.tiles ≡ a ++ u ∷ z) (s : Shape h) where
  fu : tiled a × tiled (u ∷ z)
  fu = tiled-split a (u ∷ z) (subst tiled e (tiled-tiles h s))

  pub clear-is : (n : ℕ) → clear_p (end_from 0 a) n h ≡ does (with_tiles (a ++ tile u.size 0 n ∷ z) h) (size (end_from 0 a) u.size 0 ∷ note (end_from 0 a) n ∷ [])
  clear-is n = let p = tiles-at h a (u ∷ z) e fu.0 in rw (p.0, p.1)

  pub clear_kept : (n : ℕ) → Mem h w → Kept h (a ++ tile u.size 0 n ∷ z) w (size (end_from 0 a) u.size 0 ∷ note (end_from 0 a) n ∷ [])
  clear_kept n k =
      let f = fu in
      let c : ℕ = end_from 0 a in
      let U : Tile = tile u.size 0 n in
      let w1 : List ℕ = put (size c u.size 0) w in
      let l1 : length w1 ≡ length w = put-length (size c u.size 0) w in
      mid h w (a ++ U ∷ z) a (u ∷ []) (U ∷ []) (z ++ tile (top_size h) 1 0 ∷ []) (size c u.size 0 ∷ note c n ∷ []) s k
      (all-mid h a (u ∷ []) (U ∷ []) z e refl) (f.1.0, f.1.1, omega arith, tt) refl (λ x i. omega (arith, same-starts h a z u U e refl x))
      (λ x i. sizes-same h a z u U x e s refl (omega arith) (omega (arith, s.own x)))
      (omega arith, cnt-here c [], (omega arith, cnt-here c [], tt))
      (λ S g sub old.
      let mc : 1 ≤ cnt c S = sub c (cnt-here c []) in (
        put_other S (length w) g (note c n) (omega arith) w1 c 1 mc mc (omega arith) (λ q. omega arith) ∙ put_same S (length w) g (size c u.size 0) (omega arith) w refl mc,
        (λ p. zeroth (put (note c n) w1) c ∙ put_same S (length w) g (note c n) (omega arith) w1 l1 mc),
        tt,
      ))

  pub set_is : set_p (end_from 0 a) h ≡ does (with_tiles (a ++ tile u.size 1 0 ∷ z) h) (size (end_from 0 a) u.size 1 ∷ [])
  set_is = let p = tiles-at h a (u ∷ z) e fu.0 in rw (p.0, p.1)

  pub set-kept : Mem h w → Kept h (a ++ tile u.size 1 0 ∷ z) w (size (end_from 0 a) u.size 1 ∷ [])
  set-kept k =
      let f = fu in
      let c : ℕ = end_from 0 a in
      let U : Tile = tile u.size 1 0 in
      mid h w (a ++ U ∷ z) a (u ∷ []) (U ∷ []) (z ++ tile (top_size h) 1 0 ∷ []) (size c u.size 1 ∷ []) s k
      (all-mid h a (u ∷ []) (U ∷ []) z e refl) (f.1.0, f.1.1, omega arith, tt) refl (λ x i. omega (arith, same-starts h a z u U e refl x))
      (λ x i. sizes-same h a z u U x e s refl (omega arith) (omega (arith, s.own x)))
      (omega arith, cnt-here c [], tt)
      (λ S g sub old. (put_same S (length w) g (size c u.size 1) (omega arith) w refl (sub c (cnt-here c [])), (λ p. absurd (omega (arith, p))), tt))

  pub note-is : (n : ℕ) → set_note (end_from 0 a) n h ≡ does (with_tiles (a ++ tile u.size u.p n ∷ z) h) (note (end_from 0 a) n ∷ [])
  note-is n = let p = tiles-at h a (u ∷ z) e fu.0 in rw (p.0, p.1)

  pub note-kept : (n : ℕ) → Mem h w → Kept h (a ++ tile u.size u.p n ∷ z) w (note (end_from 0 a) n ∷ [])
  note-kept n k =
      let f = fu in
      let c : ℕ = end_from 0 a in
      let U : Tile = tile u.size u.p n in
      mid h w (a ++ U ∷ z) a (u ∷ []) (U ∷ []) (z ++ tile (top_size h) 1 0 ∷ []) (note c n ∷ []) s k
      (all-mid h a (u ∷ []) (U ∷ []) z e refl) (f.1.0, f.1.1, f.1.2, tt) refl (λ x i. omega (arith, same-starts h a z u U e refl x))
      (λ x i. sizes-same h a z u U x e s refl f.1.2 (omega (arith, s.own x)))
      (omega arith, cnt-here c [], tt)
      (λ S g sub old.
      let mc : 1 ≤ cnt c S = sub c (cnt-here c []) in (
        put_other S (length w) g (note c n) (omega arith) w c 1 mc mc (omega arith) (λ q. omega arith)
            ∙ old.0,
        (λ p. zeroth (put (note c n) w) c ∙ put_same S (length w) g (note c n) (omega arith) w refl mc),
        tt,
      ))

  pub cut-is : (b : ℕ) → cut_at (end_from 0 a) b h ≡ does (with_tiles (a ++ tile b 1 0 ∷ tile (u.size - b) 1 0 ∷ z) h)
      (size (end_from 0 a) b 1 ∷ size (end_from 0 a + b) (u.size - b) 1 ∷ [])
  cut-is b = let p = tiles-at h a (u ∷ z) e fu.0 in rw (p.0, p.1)

  parts-kept : (p n : ℕ) → p ≤ 1 → (p ≡ 0 → (u.p ≡ 0) × (u.prev ≡ n)) → (b : ℕ) → b % 16 ≡ 0 → 32 ≤ b → b + 32 ≤ u.size → Mem h w → total (end_from 0 a) h ≡ 0
      → Kept h (a ++ tile b p n ∷ tile (u.size - b) 1 0 ∷ z) w (size (end_from 0 a) b p ∷ size (end_from 0 a + b) (u.size - b) 1 ∷ [])
  parts-kept p n p1 own b b16 b32 bu k tc =
      let f = fu in
      let c : ℕ = end_from 0 a in
      let U : List Tile = tile b p n ∷ tile (u.size - b) 1 0 ∷ [] in
      let ez : c + b + (u.size - b) ≡ c + u.size = omega arith in
      let i1 : 1 ≤ cnt c (c ∷ (c + b) ∷ []) = cnt-here c ((c + b) ∷ []) in
      let i2 : 1 ≤ cnt (c + b) (c ∷ (c + b) ∷ []) = cnt-there (c + b) c ((c + b) ∷ []) (cnt-here (c + b) []) in
      mid h w (a ++ tile b p n ∷ tile (u.size - b) 1 0 ∷ z) a (u ∷ []) U (z ++ tile (top_size h) 1 0 ∷ []) (size c b p ∷ size (c + b) (u.size - b) 1 ∷ []) s k
      (all-mid h a (u ∷ []) U z e (sym ez)) (b16, b32, p1, (omega (arith, f.1.0), omega arith, omega arith, tt)) (sym ez)
      (λ x i. omega (
        arith,
        ap (λ (l : List Tile). cnt x (starts_from 0 l)) e,
        starts-append 0 a (u ∷ z) x,
        starts-append 0 a
            (tile b p n ∷ tile (u.size - b) 1 0 ∷ z) x,
        ap (λ (o : ℕ). cnt x (starts_from o z)) ez,
      ))
      (λ x i. sizes-mid h (a ++ tile b p n ∷ tile (u.size - b) 1 0 ∷ z) a (u ∷ []) U z x s (tiled-tiles h s)
      (b16, b32, p1, (omega (arith, f.1.0), omega arith, omega arith, tt)) e refl (inl (sym ez)) i
      (omega (arith, ind-other x c (λ q. omega (arith, ap (λ (y : ℕ). total y h) q)))))
      (omega arith, i1, (omega arith, i2, tt))
      (λ S g sub old. two-words S w g c (sub c i1) p n (λ q. old.1 (own q).0 ∙ (own q).1) b (u.size - b) (omega arith) (sub (c + b) i2))

  pub cut-kept : (b : ℕ) → b % 16 ≡ 0 → 32 ≤ b → b + 32 ≤ u.size → Mem h w → total (end_from 0 a) h ≡ 0
      → Kept h (a ++ tile b 1 0 ∷ tile (u.size - b) 1 0 ∷ z) w (size (end_from 0 a) b 1 ∷ size (end_from 0 a + b) (u.size - b) 1 ∷ [])
  cut-kept = parts-kept 1 0 (omega arith) (λ q. absurd (omega (arith, q)))

  pub trim-is : (b : ℕ) → trim_at (end_from 0 a) b h ≡ does (with_tiles (a ++ tile b u.p u.prev ∷ tile (u.size - b) 1 0 ∷ z) h)
      (size (end_from 0 a) b u.p ∷ size (end_from 0 a + b) (u.size - b) 1 ∷ [])
  trim-is b = let p = tiles-at h a (u ∷ z) e fu.0 in rw (p.0, p.1)

  pub trim-kept : (b : ℕ) → b % 16 ≡ 0 → 32 ≤ b → b + 32 ≤ u.size → Mem h w → total (end_from 0 a) h ≡ 0
      → Kept h (a ++ tile b u.p u.prev ∷ tile (u.size - b) 1 0 ∷ z) w (size (end_from 0 a) b u.p ∷ size (end_from 0 a + b) (u.size - b) 1 ∷ [])
  trim-kept = parts-kept u.p u.prev fu.1.2 (λ q. (q, refl))

-- ---- the last chunk becomes part of the top; a chunk is cut off the top
pub to-top-is : (h : Heap) (a : List Tile) (t : Tile) → h.tiles ≡ a ++ t ∷ [] → Shape h
    → to_top (end_from 0 a) h ≡ does (with_tiles a h) (size (end_from 0 a) (h.len - end_from 0 a) 1 ∷ [])
to-top-is h a t e s = let p = tiles-at h a (t ∷ []) e (tiled-split a (t ∷ []) (subst tiled e (tiled-tiles h s))).0 in rw p.0

pub to-top-kept : (h : Heap) (w : List ℕ) (a : List Tile) (t : Tile) → h.tiles ≡ a ++ t ∷ [] → Shape h → Mem h w → total (end_from 0 a) h ≡ 0
    → Kept h a w (size (end_from 0 a) (h.len - end_from 0 a) 1 ∷ [])
to-top-kept h w a t e s k lo =
    let c : ℕ = end_from 0 a in
    let f : tiled a × tiled (t ∷ []) = tiled-split a (t ∷ []) (subst tiled e (tiled-tiles h s)) in
    let n : ℕ = top_size h in
    let U : Tile = tile (h.len - c) 1 0 in
    let et : top_of h ≡ c + t.size = ap (end_from 0) e ∙ snoc-end a t in
    let ft : tiled h.tiles × tiled (tile n 1 0 ∷ []) = tiled-split h.tiles (tile n 1 0 ∷ []) s.sizes in
    let q : c + t.size + n ≡ c + (h.len - c) = omega (arith, ft.1.1) in
    mid h w a a (t ∷ tile n 1 0 ∷ []) (U ∷ []) [] (size c (h.len - c) 1 ∷ []) s k
    (ap (λ (l : List Tile). l ++ tile n 1 0 ∷ []) e ∙ snoc-tiles a (tile n 1 0 ∷ []) t, refl)
    (omega (arith, ft.1.0, f.1.0, ft.1.1), omega (arith, ft.1.1), omega arith, tt) q
    (λ x i. ⊎_elim
    (λ z. absurd (omega (arith, ap (λ (y : ℕ). total y h) z)))
    (λ z. omega (arith, ap (λ (l : List Tile). cnt x (starts_from 0 l)) e, starts-append 0 a (t ∷ []) x, ind-other x c z))
    (eq? x c))
    (λ x i. sizes-mid h a a (t ∷ []) [] [] x s (tiled-tiles h s) tt e (sym (append-nil a)) (inr refl) i
    (omega (arith, ind-other x c (λ q. omega (arith, ap (λ (y : ℕ). total y h) q)))))
    (omega arith, cnt-here c [], tt)
    (λ S g sub old. (put_same S (length w) g (size c (h.len - c) 1) (omega arith) w refl (sub c (cnt-here c [])), (λ p. absurd (omega (arith, p))), tt))

-- the tiles m at the end, the top among them, become a chunk of b and a top
end_kept : (h : Heap) (w : List ℕ) (a m : List Tile) (b p n : ℕ) → Shape h → Mem h w → all h ≡ a ++ m → b % 16 ≡ 0 → 32 ≤ b → p ≤ 1
    → end_from 0 a + b + 32 ≤ h.len → ((x : ℕ) → cnt x (starts h) ≤ cnt x (starts_from 0 (a ++ tile b p n ∷ [])))
    → ((x : ℕ) → 1 ≤ total x h → size_of (with_tiles (a ++ tile b p n ∷ []) h) x ≡ size_of h x)
    → (tiles_at w (end_from 0 a) m → p ≡ 0 → get_or w (prev_word (end_from 0 a)) 0 ≡ n)
    → Kept h (a ++ tile b p n ∷ []) w (size (end_from 0 a) b p ∷ size (end_from 0 a + b) (h.len - (end_from 0 a + b)) 1 ∷ [])
end_kept h w a m b p n s k e b16 b32 p1 room keep same own =
    let c : ℕ = end_from 0 a in
    let z : ℕ = h.len - (c + b) in
    let fa : tiled a × tiled m = tiled-split a m (subst tiled e s.sizes) in
    let len : end_from c m ≡ h.len = sym (ap (end_from 0) e ∙ end-append 0 a m) ∙ end-all h s.sizes in
    let even : h.len % 16 ≡ 0 = sym (ap (λ (i : ℕ). i % 16) len) ∙ end-even c m (end-even 0 a refl fa.0) fa.1 in
    let i1 : 1 ≤ cnt c (c ∷ (c + b) ∷ []) = cnt-here c ((c + b) ∷ []) in
    let i2 : 1 ≤ cnt (c + b) (c ∷ (c + b) ∷ []) = cnt-there (c + b) c ((c + b) ∷ []) (cnt-here (c + b) []) in
    mid h w (a ++ tile b p n ∷ []) a m (tile b p n ∷ tile z 1 0 ∷ []) [] (size c b p ∷ size (c + b) z 1 ∷ []) s k
    (e ∙ ap (λ (l : List Tile). a ++ l) (sym (append-nil m)), rw (snoc-end a (tile b p n)) (snoc-tiles a (tile z 1 0 ∷ []) (tile b p n)))
    (b16, b32, p1, (omega (arith, end-even 0 a refl fa.0), omega arith, omega arith, tt)) (omega (arith, len))
    (λ x i. keep x) same
    (omega arith, i1, (omega arith, i2, tt))
    (λ S g sub old. two-words S w g c (sub c i1) p n (own old) b z (omega arith) (sub (c + b) i2))

pub cut-top-kept : (h : Heap) (w : List ℕ) (b : ℕ) → Shape h → Mem h w → b % 16 ≡ 0 → 32 ≤ b → b + 32 ≤ top_size h
    → Kept h (h.tiles ++ tile b 1 0 ∷ []) w (size (top_of h) b 1 ∷ size (top_of h + b) (h.len - (top_of h + b)) 1 ∷ [])
cut-top-kept h w b s k b16 b32 bu =
    end_kept h w h.tiles (tile (top_size h) 1 0 ∷ []) b 1 0 s k refl b16 b32 (omega arith) (omega arith)
    (λ x. omega (arith, starts-append 0 h.tiles (tile b 1 0 ∷ []) x))
    (λ x i. sizes-mid h (h.tiles ++ tile b 1 0 ∷ []) h.tiles [] (tile b 1 0 ∷ []) [] x s (tiled-tiles h s) (b16, b32, omega arith, tt) (sym (append-nil h.tiles)) refl
    (inr refl) i refl) (λ o q. absurd (omega (arith, q)))

-- the last chunk takes from the top
pub grow-is : (h : Heap) (a : List Tile) (t : Tile) (b : ℕ) → h.tiles ≡ a ++ t ∷ [] → Shape h
    → grow_top (end_from 0 a) b h ≡ does (with_tiles (a ++ tile b t.p t.prev ∷ []) h)
    (size (end_from 0 a) b t.p ∷ size (end_from 0 a + b) (h.len - (end_from 0 a + b)) 1 ∷ [])
grow-is h a t b e s = let p = tiles-at h a (t ∷ []) e (tiled-split a (t ∷ []) (subst tiled e (tiled-tiles h s))).0 in rw (p.0, p.1)

pub grow-kept : (h : Heap) (w : List ℕ) (a : List Tile) (t : Tile) (b : ℕ) → h.tiles ≡ a ++ t ∷ [] → Shape h → Mem h w → total (end_from 0 a) h ≡ 0
    → b % 16 ≡ 0 → 32 ≤ b → end_from 0 a + b + 32 ≤ h.len
    → Kept h (a ++ tile b t.p t.prev ∷ []) w (size (end_from 0 a) b t.p ∷ size (end_from 0 a + b) (h.len - (end_from 0 a + b)) 1 ∷ [])
grow-kept h w a t b e s k tc b16 b32 room =
    let f : tiled a × tiled (t ∷ []) = tiled-split a (t ∷ []) (subst tiled e (tiled-tiles h s)) in
    end_kept h w a (t ∷ tile (top_size h) 1 0 ∷ []) b t.p t.prev s k
    (ap (λ (l : List Tile). l ++ tile (top_size h) 1 0 ∷ []) e ∙ snoc-tiles a (tile (top_size h) 1 0 ∷ []) t) b16 b32 f.1.2 room
    (λ x. omega (
      arith,
      ap (λ (l : List Tile). cnt x (starts_from 0 l)) e,
      starts-append 0 a (t ∷ []) x,
      starts-append 0 a (tile b t.p t.prev ∷ []) x,
    ))
    (λ x i. sizes-mid h (a ++ tile b t.p t.prev ∷ []) a (t ∷ []) (tile b t.p t.prev ∷ []) [] x s (tiled-tiles h s) (b16, b32, f.1.2, tt) e refl (inr refl) i
    (omega (arith, ind-other x (end_from 0 a) (λ q. omega (arith, ap (λ (y : ℕ). total y h) q))))) (λ o q. o.1 q)

-- ---- a chunk's size
pub size-place : (h : Heap) (x : ℕ) → Shape h → (P : Place h.tiles 0 x) → (size_of h x ≡ P.t.size) × (P.t.size % 16 ≡ 0) × (32 ≤ P.t.size) × (x % 16 ≡ 0)
size-place h x s P =
    let f : tiled P.a × tiled (P.t ∷ P.z) = tiled-split P.a (P.t ∷ P.z) (subst tiled P.tiles (tiled-tiles h s)) in
    (ap (size_of h) P.at ∙ size-at h P.a P.z P.t P.tiles f.0, f.1.0, f.1.1, omega (arith, P.at, end-even 0 P.a refl f.0))

pub size_32 : (h : Heap) (x : ℕ) → Shape h → 1 ≤ cnt x (starts h) → 32 ≤ size_of h x
size_32 h x s m = let Z = size-place h x s (place h.tiles 0 x m) in omega (arith, Z.0, Z.2)

pub size-16 : (h : Heap) (x : ℕ) → Shape h → 1 ≤ cnt x (starts h) → size_of h x % 16 ≡ 0
size-16 h x s m = let Z = size-place h x s (place h.tiles 0 x m) in omega (arith, Z.0, Z.1)
