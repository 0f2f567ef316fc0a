-- With their skip links in the bins a heap that is sound by the rules of version 2 is sound by the newest. Only skip links are written, which version 2 does
-- not ask for; each list's stand when they are written (puts-stand, ring-stands), and those of the bins after it are other words, as no two bins share a
-- chunk. Assumes nothing.
use Rattle.std.specs.Prelude.{◌≡◌, refl, List, [], ◌∷◌, ◌++◌, ℕ, zero, suc, ◌+◌, ◌*◌, ◌/◌, ◌≤◌, ◌<◌, length, get_or}
use Rattle.std.proofs.Common.{sym, ap, ◌∙◌, subst, ⊎_elim, arith}
use Rattle.std.proofs.Math.ListN.{get_or-eq_default}
use Rattle.sizes.specs.Limits.{large, unsorted, first_large}
use Rattle.machine.specs.Lists.{cnt}
use Rattle.machine.specs.Count.{eq?, ind-same, ind-other, cnt-here, cnt-there, cnt-le-all, cnt-two}
use Rattle.machine.specs.Heap.{Heap, bin, starts, size_of}
use Rattle.machine.specs.Writes.{Write, apply}
use Rattle.machine.specs.Skips.{ring, put_skips, all_put, skips}
use Rattle.sound.specs.Relation.{stand, Shape, SoundBy, Sound}
use Rattle.sound.specs.Tiles.{lt-or-le, starts-once}
use Rattle.sound.specs.Apart.{tiled-tiles}
use Rattle.sound.specs.Frames.{Sub, apply-length, apply-append, Skips}
use Rattle.sound.specs.Rings.{kind-case, SkipW, skip-append, skip-more, ring-w, put-w, all_put-w, stand-cong, stand-append, skip-out, ring-stands, put-stands, skip-links-mem, skips-mem}
use Rattle.image_skips.specs.Skips.{rings_from, skips_of}

module _ (h : Heap) (s : Shape h) where
  abbrev sz : ℕ → ℕ
  sz x = size_of h x

  -- ---- a bin's chunks are chunks of the heap, once each, and no other bin's
  pub bin-sub : (j : ℕ) → Sub (bin h j) (starts h)
  bin-sub j x m = omega (arith, s.own x, cnt-le-all x h.bins j)

  bin-once : (j x : ℕ) → cnt x (bin h j) ≤ 1
  bin-once j x = omega (arith, s.own x, cnt-le-all x h.bins j, starts-once h.tiles 0 x (tiled-tiles h s))

  bin-other : (i j x : ℕ) → (i ≡ j → ⊥) → 1 ≤ cnt x (bin h i) → cnt x (bin h j) ≡ 0
  bin-other i j x n m = omega (arith, s.own x, cnt-two x h.bins i j n, starts-once h.tiles 0 x (tiled-tiles h s))

  -- ---- what is written are skip links of large chunks
  pub puts-w : SkipW sz (starts h) (all_put sz (bin h unsorted))
  puts-w = skip-more sz (bin h unsorted) (starts h) (all_put sz (bin h unsorted)) (bin-sub unsorted) (all_put-w sz (bin h unsorted))

  bin-w : (j : ℕ) → first_large ≤ j → SkipW sz (bin h j) (ring sz (bin h j))
  bin-w j l = ring-w sz (bin h j) (λ x m. s.roomy j x l m)

  pub ring_in : (j : ℕ) → first_large ≤ j → SkipW sz (starts h) (ring sz (bin h j))
  ring_in j l = skip-more sz (bin h j) (starts h) (ring sz (bin h j)) (bin-sub j) (bin-w j l)

  rings-w : (n j : ℕ) → first_large ≤ j → SkipW sz (starts h) (rings_from n j h)
  rings-w zero j l = tt
  rings-w (suc n) j l = skip-append sz (starts h) (ring sz (bin h j)) (rings_from n (suc j) h) (ring_in j l) (rings-w n (suc j) (omega arith))

  -- ---- unsorted: each large chunk has all ones then
  puts-stand : (l w : List ℕ) → 8 * length w ≡ h.len → Sub l (starts h) → ((x : ℕ) → cnt x l ≤ 1) → stand (all_put sz l) (apply (all_put sz l) w)
  puts-stand [] w n sub o = tt
  puts-stand (c ∷ l) w n sub o =
      let v : List ℕ = apply (put_skips sz c) w in
      let mc : 1 ≤ cnt c (starts h) = sub c (cnt-here c l) in
      let sl : Sub l (starts h) = λ x m. sub x (cnt-there x c l m) in
      subst (stand (put_skips sz c ++ all_put sz l)) (sym (apply-append (put_skips sz c) (all_put sz l) w))
      (stand-append (put_skips sz c) (all_put sz l) (apply (all_put sz l) v)
      (stand-cong sz (c ∷ []) (put_skips sz c) v (apply (all_put sz l) v) (put-w sz c)
      (λ x i m lx hi. ⊎_elim
      (λ q. skip-out h s l (all_put sz l) v x i (all_put-w sz l) sl (rw q mc) lx hi (rw q (omega (arith, o c, ind-same c))))
      (λ q. absurd (omega (arith, m, ind-other x c q)))
      (eq? x c))
      (put-stands h s c w n mc))
      (puts-stand l v (ap (λ (i : ℕ). 8 * i) (apply-length (put_skips sz c) w) ∙ n) sl (λ x. omega (arith, o x))))

  -- ---- the rings: those of bins from j on are no words of a chunk that none of them has
  rings-out : (n j : ℕ) (w : List ℕ) (x i : ℕ) → first_large ≤ j → 1 ≤ cnt x (starts h) → large ≤ size_of h x → i / 2 ≡ 2
      → ((k : ℕ) → j ≤ k → cnt x (bin h k) ≡ 0) → get_or (apply (rings_from n j h) w) (x / 8 + i) 0 ≡ get_or w (x / 8 + i) 0
  rings-out zero j w x i l mx lx hi d = refl
  rings-out (suc n) j w x i l mx lx hi d =
      let v : List ℕ = apply (ring sz (bin h j)) w in
      ap (λ (u : List ℕ). get_or u (x / 8 + i) 0) (apply-append (ring sz (bin h j)) (rings_from n (suc j) h) w)
      ∙ rings-out n (suc j) v x i (omega arith) mx lx hi (λ k a. d k (omega arith))
      ∙ skip-out h s (bin h j) (ring sz (bin h j)) w x i (bin-w j l) (bin-sub j) mx lx hi (d j (omega arith))

  -- what stands in a bin before them stands after them
  before-rings : (n j k : ℕ) (ws : List Write) (w : List ℕ) → first_large ≤ j → k < j → SkipW sz (bin h k) ws → stand ws w → stand ws (apply (rings_from n j h) w)
  before-rings n j k ws w l b kw = stand-cong sz (bin h k) ws w (apply (rings_from n j h) w) kw
      (λ x i m lx hi. rings-out n j w x i l (bin-sub k x m) lx hi (λ u a. bin-other k u x (λ e. omega arith) m))

  rings-stand : (n j k : ℕ) (w : List ℕ) → 8 * length w ≡ h.len → first_large ≤ j → j ≤ k → k < j + n → stand (ring sz (bin h k)) (apply (rings_from n j h) w)
  rings-stand zero j k w q l a b = absurd (omega arith)
  rings-stand (suc n) j k w q l a b =
      let v : List ℕ = apply (ring sz (bin h j)) w in
      let qv : 8 * length v ≡ h.len = ap (λ (i : ℕ). 8 * i) (apply-length (ring sz (bin h j)) w) ∙ q in
      subst (stand (ring sz (bin h k))) (sym (apply-append (ring sz (bin h j)) (rings_from n (suc j) h) w))
      (⊎_elim
      (λ e. rw e (before-rings n (suc j) j (ring sz (bin h j)) v (omega arith) (omega arith) (bin-w j l)
      (ring-stands h s (bin h j) w q (bin-sub j) (bin-once j) (λ x m. s.roomy j x l m))))
      (λ e. rings-stand n (suc j) k v qv (omega arith) (omega arith) (omega arith))
      (eq? k j))

  -- ---- all of them
  no-bin : (j : ℕ) → 127 ≤ j → bin h j ≡ []
  no-bin j l = get_or-eq_default h.bins [] (omega (arith, s.binned127))

  all-stand : (n : ℕ) (w : List ℕ) → 64 + n ≡ 127 → 8 * length w ≡ h.len → Skips h (apply (all_put sz (bin h unsorted) ++ rings_from n 64 h) w)
  all-stand n w e q j =
      let v : List ℕ = apply (all_put sz (bin h unsorted)) w in
      let qv : 8 * length v ≡ h.len = ap (λ (i : ℕ). 8 * i) (apply-length (all_put sz (bin h unsorted)) w) ∙ q in
      subst (stand (skips j sz (bin h j))) (sym (apply-append (all_put sz (bin h unsorted)) (rings_from n 64 h) w))
      (kind-case (λ ws. stand ws (apply (rings_from n 64 h) v)) j (all_put sz (bin h j)) (ring sz (bin h j))
      (λ l. ⊎_elim (λ b. rings-stand n 64 j v qv (omega arith) l (omega arith)) (λ b. rw (no-bin j b) tt) (lt-or-le j 127))
      (λ u. rw u (before-rings n 64 unsorted (all_put sz (bin h unsorted)) v (omega arith) (omega arith) (all_put-w sz (bin h unsorted))
      (puts-stand (bin h unsorted) w q (bin-sub unsorted) (bin-once unsorted))))
      tt)

  all-w : (n : ℕ) → SkipW sz (starts h) (all_put sz (bin h unsorted) ++ rings_from n 64 h)
  all-w n = skip-append sz (starts h) (all_put sz (bin h unsorted)) (rings_from n 64 h) puts-w (rings-w n 64 (omega arith))

all_sound : (n : ℕ) (h : Heap) (w r : List ℕ) → 64 + n ≡ 127 → SoundBy 2 h w r → Sound h (apply (all_put (λ x. size_of h x) (bin h unsorted) ++ rings_from n 64 h) w) r
all_sound n h w r e o =
    let s = o.good.shape in
    let ws : List Write = all_put (λ x. size_of h x) (bin h unsorted) ++ rings_from n 64 h in
    record {
      good = o.good;
      mem = skips-mem h s (apply ws w) (skip-links-mem h s w (starts h) ws o.mem (all-w h s n) (λ x m. m)) (all-stand h s n w e o.mem.long);
      rec = o.rec;
    }

pub skipped-sound : (h : Heap) (w r : List ℕ) → SoundBy 2 h w r → Sound h (apply (skips_of h) w) r
skipped-sound h w r o = all_sound 63 h w r refl o
