-- The skip links as the code writes them follow the machine: a large bin's list can be walked from the head that the record has, and what stood already may be
-- written again. Assumes nothing.
use Rattle.std.specs.Prelude.{◌≡◌, refl, List, [], ◌∷◌, ◌++◌, Bool, true, false, ℕ, ◌+◌, ◌%◌, ◌≤◌, ◌<◌, eqb, ltb, length, get_or}
use Rattle.std.proofs.Common.{sym, ap, ◌∙◌, subst, inl, inr, ⊎_elim, arith, get_or-set_same, le-ltb, lt-ltb, ne_eqb}
use Rattle.le.specs.Arena.{arena_words}
use Rattle.le.specs.ArenaLaws.{length-arena_words}
use Rattle.sizes.specs.Limits.{none64, unsorted, large, first_large}
use Rattle.sizes.specs.Sizes.{bin_of}
use Rattle.sizes.specs.BinLaws.{bin_of-wide, bin_of-large}
use Rattle.sizes.specs.Layout.{bin_first}
use Rattle.machine.specs.Lists.{hd, pre, post, cnt}
use Rattle.machine.specs.Count.{ind-same, cnt-append, cnt-le-all}
use Rattle.machine.specs.Heap.{Heap, bin, with_bin, starts, size_of}
use Rattle.machine.specs.Writes.{Write, apply}
use Rattle.machine.specs.Skips.{ring, put_skips, skips, skips_in, skips_out}
use Rattle.machine.specs.Primitives.{links_in, link_in, links_out, unlink}
use Rattle.machine.specs.View.{size_at, up}
use Rattle.sound.specs.Relation.{stand, MemBy, Mem, Loose}
use Rattle.sound.specs.Tiles.{lt-or-le, starts-once}
use Rattle.sound.specs.Frames.{apply-append}
use Rattle.sound.specs.Apart.{chunks_apart, tiled-tiles}
use Rattle.sound.specs.Edits.{size_32}
use Rattle.sound.specs.Rings.{ring-cong, ring-w, stand-same, chunk_inside}
use Rattle.sound.specs.Lists.{links-chain, in-range, unlink-shape, unlinked-mem, unlink-mem, link-shape, linked-mem}
use Rattle.sound.specs.RecordOf.{record-length, record-bin_first}
use Rattle.skip_links.specs.Walk.{Walk, LargeWalk}
use Rattle.primitives.specs.Follow.{Ok, Gave}
use Rattle.primitives.specs.Places.{Gap, Home}
use Rattle.primitives.specs.Linked.{comes, leaves, Linked, Fits}
use Rattle.primitives.specs.Chunks.{bin-chunk, up-hd}
use Rattle.primitives.specs.Sizes.{chunk-says}

-- ---- a list of a heap, as words and record have it
module _ (h : Heap) (w r : List ℕ) (o : Linked h w r) where
  pub linked-length : length r ≡ 396
  linked-length = ap length o.rec ∙ record-length h o.shape.stacked74 o.shape.binned127

  in_heap : (j x : ℕ) → 1 ≤ cnt x (bin h j) → 1 ≤ cnt x (starts h)
  in_heap j x m = omega (arith, o.shape.own x, cnt-le-all x h.bins j)

  pub size-says : (x : ℕ) → 1 ≤ cnt x (starts h) → size_at w x ≡ size_of h x
  size-says x m = (chunk-says h o.shape w o.mem x m).size

  pub bin-walk : (j : ℕ) → Walk w (hd none64 (bin h j)) (bin h j)
  bin-walk j = record {
    leads = refl;
    chained = links-chain w none64 (bin h j) (o.mem.blinks j);
    small = omega (arith, o.mem.long, o.shape.small);
    once = λ y. omega (arith, o.shape.own y, cnt-le-all y h.bins j, starts-once h.tiles 0 y (tiled-tiles h o.shape));
    even = λ y m. (chunk_inside h o.shape y (in_heap j y m)).0;
    least = λ y m. omega (arith, size-says y (in_heap j y m), size_32 h y o.shape (in_heap j y m));
    inside = λ y m. omega (arith, size-says y (in_heap j y m), (chunk_inside h o.shape y (in_heap j y m)).1, o.mem.long);
    apart = λ y z m n ne. ⊎_elim (λ l. inl (omega (arith, size-says y (in_heap j y m)))) (λ l. inr (omega (arith, size-says z (in_heap j z n))))
        (chunks_apart h y z o.shape (in_heap j y m) (in_heap j z n) ne);
  }

  pub ring-walk : (j : ℕ) → first_large ≤ j → LargeWalk w (hd none64 (bin h j)) (bin h j)
  ring-walk j l = record { walk = bin-walk j; roomy = λ y m. omega (arith, size-says y (in_heap j y m), o.shape.roomy j y l m) }

  pub linked-first : (j : ℕ) → 1 ≤ j → j ≤ 126 → up (get_or r (bin_first j) 0) ≡ hd none64 (bin h j)
  linked-first j l m =
      ap up (ap (λ (r : List ℕ). get_or r (bin_first j) 0) o.rec ∙ record-bin_first h o.shape.stacked74 o.shape.binned127 j l m)
      ∙ up-hd w (bin h j) (bin-chunk h w o.shape o.mem j)

  -- the sizes that the words have are the heap's
  pub ring-sizes : (j : ℕ) → ring (λ x. size_at w x) (bin h j) ≡ ring (λ x. size_of h x) (bin h j)
  ring-sizes j = ring-cong (λ x. size_at w x) (λ x. size_of h x) (bin h j) (λ x m. size-says x (in_heap j x m))

-- the walk from a word of the record
pub first_walk : (h : Heap) (w r : List ℕ) (j at x : ℕ) → Linked h w r → first_large ≤ j → j ≤ 126 → at ≡ bin_first j → x ≡ up (get_or r at 0) → LargeWalk w x (bin h j)
first_walk h w r j at x o l m e g =
    subst (λ (y : ℕ). LargeWalk w y (bin h j)) (sym (g ∙ ap (λ (i : ℕ). up (get_or r i 0)) e ∙ linked-first h w r o j (omega arith) m)) (ring-walk h w r o j l)

-- ---- a chunk of a bin, in the bytes
pub record Room (a : List ℕ) (c : ℕ) : Type 0 where
  pub even : c % 16 ≡ 0
  pub least : 32 ≤ size_at (arena_words a) c
  pub inside : c + size_at (arena_words a) c ≤ length a

pub comer-room : (h : Heap) (a r : List ℕ) (j c : ℕ) → Linked h (arena_words a) r → 1 ≤ cnt c (bin h j) → Room a c
comer-room h a r j c o m =
    let k = bin-walk h (arena_words a) r o j in
    record { even = k.even c m; least = k.least c m; inside = omega (arith, k.inside c m, length-arena_words a) }

pub comer-size : (h : Heap) (w r : List ℕ) (j c : ℕ) → Linked h w r → 1 ≤ cnt c (bin h j) → size_at w c ≡ size_of h c
comer-size h w r j c o m = size-says h w r o c (omega (arith, o.shape.own c, cnt-le-all c h.bins j))

-- ---- what is written when one has left, and when one has come
out-large : (j : ℕ) (sz : ℕ → ℕ) (l : List ℕ) → first_large ≤ j → skips_out j sz l ≡ ring sz l
out-large j sz l h = rw (le-ltb j first_large h, skips_out)

pub out-small : (j : ℕ) (sz : ℕ → ℕ) (l w : List ℕ) → j < first_large → w ≡ apply (skips_out j sz l) w
out-small j sz l w h = rw (lt-ltb j first_large h, skips_out)

pub out-ring : (j : ℕ) (sz : ℕ → ℕ) (l w v : List ℕ) → first_large ≤ j → v ≡ apply (ring sz l) w → v ≡ apply (skips_out j sz l) w
out-ring j sz l w v h e = e ∙ ap (λ (ws : List Write). apply ws w) (sym (out-large j sz l h))

pub in-unsorted : (j : ℕ) (sz : ℕ → ℕ) (c : ℕ) (l w v : List ℕ) → j ≡ unsorted → v ≡ apply (put_skips sz c) w → v ≡ apply (skips_in j sz c l) w
in-unsorted j sz c l w v e g = g ∙ ap (λ (i : ℕ). apply (skips_in i sz c l) w) (sym e)

pub in-other : (j : ℕ) (sz : ℕ → ℕ) (c : ℕ) (l w v : List ℕ) → (j ≡ unsorted → ⊥) → v ≡ apply (skips_out j sz l) w → v ≡ apply (skips_in j sz c l) w
in-other j sz c l w v n e = e ∙ ap (λ (ws : List Write). apply ws w) (go (ltb j first_large) (eqb j unsorted) (ne_eqb j unsorted n))
  where
    go : (t u : Bool) → u ≡ false → ◌≡◌ {A = List Write} (elim t [ true ↦ [] | false ↦ ring sz l ]) (elim t [ true ↦ elim u [ true ↦ put_skips sz c | false ↦ [] ] | false ↦ ring sz l ])
    go true u q = rw q refl
    go false u q = refl

-- ---- a list that was set is the bin's
pub bin-set : (h : Heap) (j : ℕ) (l : List ℕ) → j < length h.bins → bin (with_bin j l h) j ≡ l
bin-set h j l m = get_or-set_same h.bins j l [] m

module _ (h : Heap) (w r : List ℕ) (o : Ok h w r) where
  -- after its links c is in bin j, or out of it
  pub came-linked : (j c p n : ℕ) (xs ys : List ℕ) {v q : List ℕ} → 1 ≤ j → j ≤ 126 → Loose h c → Gap h j xs ys p n → Fits h j c → Gave (Unit {0}) (comes j c xs ys h) tt w v q
      → Linked (with_bin j (xs ++ c ∷ ys) h) v q
  came-linked j c p n xs ys low high lo g f m =
      let hj : j < length h.bins = omega (arith, o.shape.binned127) in
      record {
        shape = link-shape h j c xs ys o.shape hj lo g.parts f;
        mem = subst (MemBy 2 (with_bin j (xs ++ c ∷ ys) h)) (sym m.bytes) (linked-mem h w j c xs ys o.shape o.mem hj lo g.parts);
        rec = m.rec;
      }

  pub left-linked : (j c : ℕ) {v q : List ℕ} → 1 ≤ cnt c (bin h j) → Gave (Unit {0}) (leaves j c h) tt w v q
      → Linked (with_bin j (pre c (bin h j) ++ post c (bin h j)) h) v q
  left-linked j c mc m = record {
    shape = unlink-shape h j c o.shape mc;
    mem = subst (MemBy 2 (with_bin j (pre c (bin h j) ++ post c (bin h j)) h)) (sym m.bytes) (unlinked-mem h w j c o.shape o.mem mc);
    rec = m.rec;
  }

  pub came-has : (j c : ℕ) (xs ys : List ℕ) → 1 ≤ j → j ≤ 126 → 1 ≤ cnt c (bin (with_bin j (xs ++ c ∷ ys) h) j)
  came-has j c xs ys low high =
      subst (λ (l : List ℕ). 1 ≤ cnt c l) (sym (bin-set h j (xs ++ c ∷ ys) (omega (arith, o.shape.binned127)))) (omega (arith, cnt-append c xs (c ∷ ys), ind-same c))

  -- links and skip links together are the machine's step
  pub link-in-whole : (j c : ℕ) (xs ys : List ℕ) {v q v' : List ℕ} → 1 ≤ j → j ≤ 126 → Gave (Unit {0}) (comes j c xs ys h) tt w v q
      → v' ≡ apply (skips_in j (λ x. size_of h x) c (bin (with_bin j (xs ++ c ∷ ys) h) j)) v → Gave (Unit {0}) (link_in j c xs ys h) tt w v' q
  link-in-whole j c xs ys {v} low high m e = record {
    says = refl;
    bytes = e ∙ ap (λ (l : List ℕ). apply (skips_in j (λ x. size_of h x) c l) v) (bin-set h j (xs ++ c ∷ ys) (omega (arith, o.shape.binned127)))
        ∙ ap (apply (skips_in j (λ x. size_of h x) c (xs ++ c ∷ ys))) m.bytes
        ∙ sym (apply-append (links_in c xs ys) (skips_in j (λ x. size_of h x) c (xs ++ c ∷ ys)) w);
    rec = m.rec;
  }

  unlink-whole : (j c : ℕ) {v q v' : List ℕ} → 1 ≤ cnt c (bin h j) → Gave (Unit {0}) (leaves j c h) tt w v q
      → v' ≡ apply (skips_out j (λ x. size_of h x) (pre c (bin h j) ++ post c (bin h j))) v → Gave (Unit {0}) (unlink j c h) tt w v' q
  unlink-whole j c mc m e =
      let l : List ℕ = pre c (bin h j) ++ post c (bin h j) in
      record {
        says = refl;
        bytes = e ∙ ap (apply (skips_out j (λ x. size_of h x) l)) m.bytes
            ∙ sym (apply-append (links_out (pre c (bin h j)) (post c (bin h j))) (skips_out j (λ x. size_of h x) l) w);
        rec = m.rec;
      }

  pub unlink-follows : (j c : ℕ) {v q v' : List ℕ} → 1 ≤ cnt c (bin h j) → Gave (Unit {0}) (leaves j c h) tt w v q
      → v' ≡ apply (skips_out j (λ x. size_of h x) (bin (with_bin j (pre c (bin h j) ++ post c (bin h j)) h) j)) v → Gave (Unit {0}) (unlink j c h) tt w v' q
  unlink-follows j c {v} mc m e = unlink-whole j c mc m
      (e ∙ ap (λ (l : List ℕ). apply (skips_out j (λ x. size_of h x) l) v) (bin-set h j (pre c (bin h j) ++ post c (bin h j)) (in-range c h.bins j mc)))

  -- a chunk of size z: a small one's bin has no skip links to follow; a large one's size tells of the bin, or the ring of its size's bin stands as it is
  pub wherever-small : (j c z : ℕ) {v q : List ℕ} → Home h j c z → z < large → Gave (Unit {0}) (leaves j c h) tt w v q → Gave (Unit {0}) (unlink j c h) tt w v q
  wherever-small j c z {v} m l g =
      unlink-whole j c m.here g (out-small j (λ x. size_of h x) (pre c (bin h j) ++ post c (bin h j)) v
      (⊎_elim (λ e. omega (arith, e)) (λ e. ⊎_elim (λ y. y) (λ y. absurd (omega (arith, bin_of-wide z (omega (arith, e, y))))) (lt-or-le j 64)) m.which))

  pub wherever-large : (j c z i : ℕ) {v q v' : List ℕ} → Home h j c z → large ≤ z → i ≡ bin_of z → Gave (Unit {0}) (leaves j c h) tt w v q
      → v' ≡ apply (ring (λ x. size_of h x) (bin (with_bin j (pre c (bin h j) ++ post c (bin h j)) h) i)) v → Gave (Unit {0}) (unlink j c h) tt w v' q
  wherever-large j c z i {v} {q} {v'} m l ei g e = ⊎_elim stays (λ ej. own (ei ∙ sym ej)) m.which
    where
      ls : List ℕ
      ls = pre c (bin h j) ++ post c (bin h j)

      g' : Heap
      g' = with_bin j ls h

      li : first_large ≤ i
      li = omega (arith, ei, bin_of-large z l)

      own : i ≡ j → Gave (Unit {0}) (unlink j c h) tt w v' q
      own ej = unlink-whole j c m.here g (out-ring j (λ x. size_of h x) ls v v' (omega (arith, li, ej))
          (e ∙ ap (λ (k : ℕ). apply (ring (λ x. size_of h x) (bin g' k)) v) ej
          ∙ ap (λ (l : List ℕ). apply (ring (λ x. size_of h x) l) v) (bin-set h j ls (in-range c h.bins j m.here))))

      stays : j ≡ unsorted → Gave (Unit {0}) (unlink j c h) tt w v' q
      stays ej =
          let G : Gave (Unit {0}) (unlink j c h) tt w v q = unlink-whole j c m.here g (out-small j (λ x. size_of h x) ls v (omega (arith, ej))) in
          let M = subst (Mem g') (sym G.bytes) (unlink-mem h w j c o.shape o.mem m.here) in
          let s = unlink-shape h j c o.shape m.here in
          let st : stand (ring (λ x. size_of h x) (bin g' i)) v = rw (le-ltb i first_large li, skips) at (M.skipped (omega arith) i) in
          let same : v' ≡ v = e ∙ stand-same (λ x. size_of h x) (bin g' i) (ring (λ x. size_of h x) (bin g' i)) v (ring-w (λ x. size_of h x) (bin g' i) (λ x n. s.roomy i x li n)) st in
          record { says = refl; bytes = same ∙ G.bytes; rec = G.rec }
