-- What lies in live blocks does not matter: words that agree outside the usable words of live blocks are those of the same heap. No word that the relation
-- reads is usable in a live block: tiles lie apart, and a previous size counts only behind a binned chunk. Assumes nothing.
use Rattle.std.specs.Prelude.{◌≡◌, refl, List, [], ◌∷◌, ◌++◌, ◌⊎◌, ℕ, ◌+◌, ◌*◌, ◌/◌, ◌%◌, ◌≤◌, length, get_or}
use Rattle.std.proofs.Common.{sym, ap, ◌∙◌, inl, inr, ⊎_elim, not-suc-le-zero, arith, eq-eqb, ne_eqb}
use Rattle.sizes.specs.Layout.{prev_word, size_word, fwd_word, back_word}
use Rattle.machine.specs.Lists.{cnt}
use Rattle.machine.specs.Count.{eq?, ind-other, cnt-here, cnt-there, cnt-le-all}
use Rattle.machine.specs.Heap.{Tile, tile, Heap, stack, bin, binned, starts, starts_from, end_from, since, hd_size, hd_p, top_of, top_size, size_of, total}
use Rattle.sound.specs.Relation.{Mem, Loose, Good, tiled, tiles_at, flags}
use Rattle.sound.specs.Tiles.{tiled-split, end-le, end-even, Start, start, starts-once, tiles-split, tiles-join}
use Rattle.sound.specs.Frames.{chain-cong, links-cong}
use Rattle.sound.specs.Apart.{chunks_apart}
use Rattle.sound.specs.Rings.{chunk_inside, skips-kept}

-- word i is a usable word of the live block c: its usable bytes go from c + 16 to the next chunk's previous size
abbrev pub Usable : Heap → ℕ → ℕ → Type 0
Usable h c i = Loose h c × (c / 8 + 2 ≤ i) × (i ≤ (c + size_of h c) / 8)

-- v has the words of w, but for usable words of live blocks
pub record Agrees (h : Heap) (w v : List ℕ) : Type 0 where
  pub long : length v ≡ length w
  pub same : (i : ℕ) → ((c : ℕ) → Usable h c i → ⊥) → get_or v i 0 ≡ get_or w i 0

-- ---- tiles lie apart
since-here : (o x : ℕ) (t : Tile) (ts : List Tile) → x ≡ o → since o x (t ∷ ts) ≡ t ∷ ts
since-here o x t ts e = rw (eq-eqb o x (sym e), since)

since-later : (o x : ℕ) (t : Tile) (ts : List Tile) → (x ≡ o → ⊥) → since o x (t ∷ ts) ≡ since (o + t.size) x ts
since-later o x t ts n = rw (ne_eqb o x (λ e. n (sym e)), since)

later : (o x : ℕ) (t : Tile) (ts : List Tile) → (x ≡ o → ⊥) → 1 ≤ cnt x (starts_from o (t ∷ ts)) → 1 ≤ cnt x (starts_from (o + t.size) ts)
later o x t ts n m = omega (arith, ind-other x o n)

size-even : (ts : List Tile) (o c : ℕ) → tiled ts → hd_size (since o c ts) % 16 ≡ 0
size-even [] o c f = refl
size-even (t ∷ ts) o c f =
    ⊎_elim (λ e. rw (since-here o c t ts e) f.0) (λ n. rw (since-later o c t ts n) (size-even ts (o + t.size) c f.3)) (eq? c o)

-- x is a tile's start, or their end
tiles-apart : (ts : List Tile) (o c x : ℕ) → o % 16 ≡ 0 → tiled ts → 1 ≤ cnt c (starts_from o ts) → (1 ≤ cnt x (starts_from o ts)) ⊎ (x ≡ end_from o ts)
    → (x ≤ c) ⊎ (c + hd_size (since o c ts) ≤ x)
tiles-apart [] o c x e f m n = absurd (not-suc-le-zero m)
tiles-apart (t ∷ ts) o c x e f m n =
    ⊎_elim (λ i. first i)
    (λ i. ⊎_elim (λ j. inl (omega (arith, beyond c i m)))
    (λ j. rw (since-later o c t ts i)
    (tiles-apart ts (o + t.size) c x even f.3 (later o c t ts i m) (⊎_elim (λ k. inl (later o x t ts j k)) (λ k. inr k) n)))
    (eq? x o)) (eq? c o)
  where
    even : (o + t.size) % 16 ≡ 0
    even = omega (arith, f.0)

    beyond : (y : ℕ) → (y ≡ o → ⊥) → 1 ≤ cnt y (starts_from o (t ∷ ts)) → o + t.size ≤ y
    beyond y i k = (start ts (o + t.size) y f.3 (later o y t ts i k)).low

    first : c ≡ o → (x ≤ c) ⊎ (c + hd_size (since o c (t ∷ ts)) ≤ x)
    first i = rw (since-here o c t ts i) (⊎_elim (λ j. inl (omega arith)) (λ j. inr (⊎_elim (λ k. omega (arith, beyond x j k)) (λ k. omega (arith, end-le (o + t.size) ts)) n)) (eq? x o))

-- a tile whose P is clear stands behind a binned one
clear_behind : (b : ℕ → ℕ) (o q s : ℕ) (ts us : List Tile) (c : ℕ) → o % 16 ≡ 0 → tiled ts → flags b o q s (ts ++ us) → 1 ≤ cnt c (starts_from o ts)
    → hd_p (since o (c + hd_size (since o c ts)) ts) ≡ 0 → b c ≡ 1
clear_behind b o q s [] us c e f g m z = absurd (not-suc-le-zero m)
clear_behind b o q s (t ∷ ts) us c e f g m z =
    ⊎_elim (λ i. first i)
    (λ i.
    let k : o + t.size ≤ c = (start ts (o + t.size) c f.3 (later o c t ts i m)).low in
    let y : hd_p (since o (c + hd_size (since (o + t.size) c ts)) (t ∷ ts)) ≡ 0 = rw (since-later o c t ts i) at z in
    clear_behind b (o + t.size) (b o) t.size ts us c (omega (arith, f.0)) f.3 g.3 (later o c t ts i m)
    (sym (ap hd_p (since-later o (c + hd_size (since (o + t.size) c ts)) t ts (λ n. omega (arith, f.1)))) ∙ y))
    (eq? c o)
  where
    next : (ts : List Tile) → flags b (o + t.size) (b o) t.size (ts ++ us) → hd_p (since (o + t.size) (o + t.size) ts) ≡ 0 → b o ≡ 1
    next [] g z = absurd (omega (arith, z))
    next (u ∷ ts) g z = omega (arith, g.0, sym (ap hd_p (since-here (o + t.size) (o + t.size) u ts refl)) ∙ z)

    first : c ≡ o → b c ≡ 1
    first i =
        let x : c + hd_size (since o c (t ∷ ts)) ≡ o + t.size = omega (arith, ap hd_size (since-here o c t ts i)) in
        let y : hd_p (since o (o + t.size) (t ∷ ts)) ≡ 0 = rw x at z in
        rw i (next ts g.3 (sym (ap hd_p (since-later o (o + t.size) t ts (λ n. omega (arith, f.1)))) ∙ y))

-- ---- the frame of the tiles
tiles_at-same : (w v : List ℕ) (o : ℕ) (ts : List Tile) → o % 16 ≡ 0 → tiled ts → ((x : ℕ) → 1 ≤ cnt x (starts_from o ts) → get_or v (size_word x) 0 ≡ get_or w (size_word x) 0)
    → ((x : ℕ) → 1 ≤ cnt x (starts_from o ts) → hd_p (since o x ts) ≡ 0 → get_or v (prev_word x) 0 ≡ get_or w (prev_word x) 0) → tiles_at w o ts → tiles_at v o ts
tiles_at-same w v o [] e f a b k = tt
tiles_at-same w v o (t ∷ ts) e f a b k =
    let m : 1 ≤ cnt o (starts_from o (t ∷ ts)) = cnt-here o (starts_from (o + t.size) ts) in
    let up : (x : ℕ) → 1 ≤ cnt x (starts_from (o + t.size) ts) → 1 ≤ cnt x (starts_from o (t ∷ ts)) = λ x n. cnt-there x o (starts_from (o + t.size) ts) n in
    let even : (o + t.size) % 16 ≡ 0 = omega (arith, f.0) in (
      a o m ∙ k.0,
      λ z. b o m (ap hd_p (since-here o o t ts refl) ∙ z) ∙ k.1 z,
      tiles_at-same w v (o + t.size) ts even f.3 (λ x n. a x (up x n))
          (λ x n z. b x (up x n)
          (ap hd_p (since-later o x t ts (λ i. let s = start ts (o + t.size) x f.3 n in omega (arith, s.low, f.1))) ∙ z))
          k.2,
    )

module _ (h : Heap) (w v : List ℕ) (g : Good h) (q : Mem h w) (a : Agrees h w v) where
  whole : tiled h.tiles
  whole = (tiled-split h.tiles (tile (top_size h) 1 0 ∷ []) g.shape.sizes).0

  -- a live block is a chunk of a size that is a multiple of 16, and in no list
  live : (c : ℕ) → Loose h c → Start h.tiles 0 c × (size_of h c % 16 ≡ 0) × (total c h ≡ 0) × (1 ≤ cnt c (starts h))
  live c l =
      let m : 1 ≤ cnt c (starts h) = omega (arith, l) in
      (start h.tiles 0 c whole m, size-even h.tiles 0 c whole, omega (arith, l, starts-once h.tiles 0 c whole), m)

  size-word : (x : ℕ) → x % 16 ≡ 0 → (1 ≤ cnt x (starts h)) ⊎ (x ≡ top_of h) → get_or v (size_word x) 0 ≡ get_or w (size_word x) 0
  size-word x e m = a.same (size_word x) (λ c u.
      let l = live c u.0 in
      ⊎_elim (λ i. omega (arith, l.0.even, u.1)) (λ i. omega (arith, l.0.even, l.1, u.2)) (tiles-apart h.tiles 0 c x refl whole l.3 m))

  prev-word : (x : ℕ) → 1 ≤ cnt x (starts h) → hd_p (since 0 x h.tiles) ≡ 0 → get_or v (prev_word x) 0 ≡ get_or w (prev_word x) 0
  prev-word x m z = a.same (prev_word x) (λ c u.
      let l = live c u.0 in
      let k : Start h.tiles 0 x = start h.tiles 0 x whole m in
      ⊎_elim (λ i. omega (arith, l.0.even, k.even, u.1))
      (λ i.
      let e : x ≡ c + size_of h c = omega (arith, l.0.even, l.1, k.even, u.2) in
      let y : hd_p (since 0 (c + size_of h c) h.tiles) ≡ 0 = rw e at z in
      omega (arith, l.2, clear_behind (λ x. binned h x) 0 0 0 h.tiles (tile (top_size h) 1 0 ∷ []) c refl whole g.flag l.3 y))
      (tiles-apart h.tiles 0 c x refl whole l.3 (inl m)))

  -- the links of a chunk that is in a list
  link-words : (x : ℕ) → 1 ≤ total x h → (get_or v (fwd_word x) 0 ≡ get_or w (fwd_word x) 0) × (get_or v (back_word x) 0 ≡ get_or w (back_word x) 0)
  link-words x n = (
    a.same (fwd_word x) (λ c u. clash c u (omega (arith, u.1)) (omega (arith, u.2))),
    a.same (back_word x) (λ c u. let l = live c u.0 in clash c u (omega (arith, u.1, l.0.even, k.even)) (omega (arith, u.2))),
  )
    where
      m : 1 ≤ cnt x (starts h)
      m = omega (arith, n, g.shape.own x)

      k : Start h.tiles 0 x
      k = start h.tiles 0 x whole m

      clash : (c : ℕ) {i : ℕ} → Usable h c i → c / 8 ≤ x / 8 → x / 8 + 2 ≤ (c + size_of h c) / 8 → ⊥
      clash c u low high =
          let l = live c u.0 in
          ⊎_elim
          (λ i. let e : x ≡ c = omega (arith, l.0.even, k.even) in omega (arith, n, l.2, ap (λ (y : ℕ). total y h) e))
          (λ i. omega (arith, l.0.even, l.1, k.even))
          (tiles-apart h.tiles 0 c x refl whole l.3 (inl m))

  -- the skip links of a large one
  skip-words : (x i : ℕ) → 1 ≤ total x h → 1024 ≤ size_of h x → i / 2 ≡ 2 → get_or v (x / 8 + i) 0 ≡ get_or w (x / 8 + i) 0
  skip-words x i n lx hi = a.same (x / 8 + i) (λ c u.
      let l = live c u.0 in
      let m : 1 ≤ cnt x (starts h) = omega (arith, n, g.shape.own x) in
      let k = chunk_inside h g.shape x m in
      ⊎_elim
      (λ e. omega (arith, n, l.2, ap (λ (y : ℕ). total y h) e))
      (λ e. ⊎_elim (λ r. omega (arith, u.1, l.0.even, k.0)) (λ r. omega (arith, u.2, l.0.even, l.1, k.0)) (chunks_apart h x c g.shape m l.3 e))
      (eq? x c))

  bin-words : (x j : ℕ) → 1 ≤ cnt x (bin h j) → (get_or v (fwd_word x) 0 ≡ get_or w (fwd_word x) 0) × (get_or v (back_word x) 0 ≡ get_or w (back_word x) 0)
  bin-words x j m = link-words x (omega (arith, m, cnt-le-all x h.bins j))

  pub agrees-mem : Mem h v
  agrees-mem = record {
    long = ap (λ (n : ℕ). 8 * n) a.long ∙ q.long;
    words = tiles-join v 0 h.tiles (tile (top_size h) 1 0 ∷ [])
        (tiles_at-same w v 0 h.tiles refl whole (λ x m. size-word x (start h.tiles 0 x whole m).even (inl m)) prev-word t.0)
        (size-word (top_of h) (end-even 0 h.tiles refl whole) (inr refl) ∙ t.1.0, λ z. absurd (omega (arith, z)), tt);
    chains = λ k. chain-cong h.edition w v (stack h k) (λ x m. (link-words x (omega (arith, m, cnt-le-all x h.stacks k))).0) (q.chains k);
    blinks = λ j. links-cong w v _ (bin h j) _ (λ x m. (bin-words x j m).0) (λ x m. (bin-words x j m).1) (q.blinks j);
    keys = λ z k x p m. (link-words x (omega (arith, m, cnt-le-all x h.stacks k))).1 ∙ q.keys z k x p m;
    key64 = q.key64;
    edited = q.edited;
    skipped = λ z. skips-kept h g.shape w v (λ x i mx mb lx hi. skip-words x i (omega (arith, mb)) lx hi) (q.skipped z);
  }
    where
      t : tiles_at w 0 h.tiles × tiles_at w (top_of h) (tile (top_size h) 1 0 ∷ [])
      t = tiles-split w 0 h.tiles (tile (top_size h) 1 0 ∷ []) q.words
