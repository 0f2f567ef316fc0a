-- All usable words of a live block are copied to a larger one: the heap and its words stay, no other live block's usable word is written, and each word copied is
-- the one that stood. Copies lie in usable words of a live block, which do not matter. Assumes nothing.
use Rattle.std.specs.Prelude.{◌≡◌, refl, List, [], ◌∷◌, ◌⊎◌, ℕ, zero, suc, ◌+◌, ◌-◌, ◌/◌, ◌%◌, ◌≤◌, ◌<◌, length, get_or}
use Rattle.std.proofs.Common.{sym, ◌∙◌, inl, inr, ⊎_elim, not-suc-le-zero, arith, get_or-set_same, get_or-set_other}
use Rattle.machine.specs.Lists.{cnt}
use Rattle.machine.specs.Count.{ind-same}
use Rattle.machine.specs.Heap.{tile, Heap, top_of, top_size, starts, size_of}
use Rattle.machine.specs.Writes.{Write, put, apply, does, copy}
use Rattle.machine.specs.Resize.{copies_from, copies}
use Rattle.sound.specs.Relation.{Mem, Loose, Good}
use Rattle.sound.specs.Tiles.{lt-or-le, tiled-split, start}
use Rattle.sound.specs.Frames.{starts-all, apply-length, Within, outside}
use Rattle.sound.specs.Apart.{chunks_apart, clear_of, tiled-tiles}
use Rattle.sound.specs.Edits.{size-16, size_32}
use Rattle.sound.specs.Spares.{Spares, Past}
use Rattle.sound.specs.Usable.{agrees-mem}
use Rattle.sound.specs.Moves.{one, any, Moved, one-not}

-- ---- n copies from word i on lie in the words of d that they name, and each is c's where the two do not meet
copies-within : (lo hi i d c n : ℕ) → lo ≤ d / 8 + (2 + i) → d / 8 + (2 + i) + n ≤ hi → Within lo hi (copies_from i d c n)
copies-within lo hi i d c zero l h = tt
copies-within lo hi i d c (suc n) l h = (l, omega arith, copies-within lo hi (suc i) d c n (omega arith) (omega arith))

copies-word : (i d c n : ℕ) (w : List ℕ) (j : ℕ) → d / 8 + (2 + i) + n ≤ length w → (c / 8 + n ≤ d / 8) ⊎ (d / 8 + n ≤ c / 8) → j < n
    → get_or (apply (copies_from i d c n) w) (d / 8 + (2 + i + j)) 0 ≡ get_or w (c / 8 + (2 + i + j)) 0
copies-word i d c zero w j l far h = absurd (not-suc-le-zero h)
copies-word i d c (suc n) w zero l far h =
    let w₁ : List ℕ = put (copy d c i) w in
    let p : ℕ = d / 8 + (2 + i) in
    let e : 2 + i + 0 ≡ 2 + i = omega arith in
    rw e (outside (p + 1) (p + 1 + n) (copies_from (suc i) d c n) w₁ p (copies-within (p + 1) (p + 1 + n) (suc i) d c n (omega arith) (omega arith)) (inl (omega arith))
    ∙ get_or-set_same w p (get_or w (c / 8 + (2 + i)) 0) 0 (omega arith))
copies-word i d c (suc n) w (suc j) l far h =
    let v : ℕ = get_or w (c / 8 + (2 + i)) 0 in
    let w₁ : List ℕ = put (copy d c i) w in
    let e : 2 + i + suc j ≡ 2 + suc i + j = omega arith in
    rw e (copies-word (suc i) d c n w₁ j (omega (arith, apply-length (copy d c i ∷ []) w)) (⊎_elim (λ q. inl (omega arith)) (λ q. inr (omega arith)) far) (omega arith)
    ∙ get_or-set_other w (d / 8 + (2 + i)) (c / 8 + (2 + suc i + j)) v 0 (λ q. ⊎_elim (λ k. omega arith) (λ k. omega arith) far))

within-spares : (x s lo hi : ℕ) (ws : List Write) → Within lo hi ws → (hi ≤ x / 8 + 2) ⊎ ((x + s) / 8 < lo) → Spares x s ws
within-spares x s lo hi [] k d = tt
within-spares x s lo hi (e ∷ ws) k d = (⊎_elim (λ q. inl (omega (arith, k.1))) (λ q. inr (omega (arith, k.0))) d, within-spares x s lo hi ws k.2 d)

within-past : (lo hi : ℕ) (ws : List Write) → 1 ≤ lo → Within lo hi ws → Past ws
within-past lo hi [] l k = tt
within-past lo hi (e ∷ ws) l k = (omega (arith, k.0), within-past lo hi ws l k.2)

-- ---- c's usable words go to d, a larger block
module _ (h : Heap) (v : List ℕ) (c d : ℕ) (g : Good h) (k : Mem h v) (lc : Loose h c) (ld : Loose h d) (ne : d ≡ c → ⊥) (room : size_of h c ≤ size_of h d) where
  abbrev n : ℕ
  n = size_of h c / 8 - 1

  abbrev cs : List Write
  cs = copies d c n

  record Chunk (x : ℕ) : Type 0 where
    here : 1 ≤ cnt x (starts h)
    even : x % 16 ≡ 0
    size16 : size_of h x % 16 ≡ 0
    size32 : 32 ≤ size_of h x

  chunk : (x : ℕ) → Loose h x → Chunk x
  chunk x lo =
      let m : 1 ≤ cnt x (starts h) = omega (arith, lo) in
      record { here = m; even = (start h.tiles 0 x (tiled-tiles h g.shape) m).even; size16 = size-16 h x g.shape m; size32 = size_32 h x g.shape m }

  in-d : Within (d / 8 + 2) (d / 8 + 2 + n) cs
  in-d = copies-within (d / 8 + 2) (d / 8 + 2 + n) 0 d c n (omega arith) (omega arith)

  pub copies-mem : Mem h (apply cs v)
  copies-mem =
      let C = chunk c lc in
      let D = chunk d ld in
      agrees-mem h v (apply cs v) g k (record {
        long = apply-length cs v;
        same = λ i out. outside (d / 8 + 2) (d / 8 + 2 + n) cs v i in-d
            (⊎_elim (λ l. inl l)
            (λ l. ⊎_elim (λ m. absurd (out d (ld, l, omega (arith, D.even, D.size16, C.size16, C.size32)))) (λ m. inr m) (lt-or-le i (d / 8 + 2 + n)))
            (lt-or-le i (d / 8 + 2)));
      })

  pub copies-moved : Moved h (does h cs) (any (one d)) (one d)
  copies-moved = record {
    count = λ x. omega arith;
    same = λ x lo z. refl;
    spare = λ x lo z.
        let C = chunk c lc in
        let D = chunk d ld in
        let X = chunk x lo in
        within-spares x (size_of h x) (d / 8 + 2) (d / 8 + 2 + n) cs in-d
        (⊎_elim (λ l. inr (omega (arith, X.even, X.size16, D.even)))
        (λ l. inl (omega (arith, D.even, D.size16, X.even, C.size16, C.size32)))
        (chunks_apart h x d g.shape X.here D.here (one-not d x z)));
    past = within-past (d / 8 + 2) (d / 8 + 2 + n) cs (omega arith) in-d;
  }

  pub copied : (i : ℕ) → 2 ≤ i → i ≤ size_of h c / 8 → get_or (apply cs v) (d / 8 + i) 0 ≡ get_or v (c / 8 + i) 0
  copied i l u =
      let C = chunk c lc in
      let D = chunk d ld in
      let e : 2 + 0 + (i - 2) ≡ i = omega arith in
      let low : d + 32 ≤ top_of h = (start h.tiles 0 d (tiled-tiles h g.shape) D.here).high in
      let high : d + size_of h d ≤ top_of h = ⊎_elim (λ q. absurd (omega arith)) (λ q. ⊎_elim (λ z. absurd (omega arith)) (λ z. z) q)
      (clear_of h d (top_of h) g.shape D.here (omega (arith, starts-all h (top_of h), ind-same (top_of h)))) in
      let len : top_of h + 32 ≤ h.len = omega (arith, (tiled-split h.tiles (tile (top_size h) 1 0 ∷ []) g.shape.sizes).1.1) in
      let w : get_or (apply cs v) (d / 8 + (2 + 0 + (i - 2))) 0 ≡ get_or v (c / 8 + (2 + 0 + (i - 2))) 0 =
      copies-word 0 d c n v (i - 2) (omega (arith, k.long, C.size16, C.size32, D.even))
      (⊎_elim (λ l. inl (omega (arith, C.even, C.size16, D.even))) (λ l. inr (omega (arith, D.even, D.size16, C.even)))
      (chunks_apart h c d g.shape C.here D.here (λ q. ne (sym q)))) (omega arith) in
      rw e at w
