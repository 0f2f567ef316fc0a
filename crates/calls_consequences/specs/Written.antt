-- A sound heap survives its bytes: its words and its record, written as bytes and read again, are those of the same heap. Every word that the relation
-- reads is an offset, a size, none or a mixed link, and so fits its width; a word that it does not read may be cut. Assumes nothing.
use Rattle.std.specs.Prelude.{◌≡◌, List, [], ◌∷◌, ◌++◌, ◌⊎◌, ℕ, ◌+◌, ◌*◌, ◌≤◌, ◌/◌, ◌%◌, ◌^◌, ◌<◌, length, get_or}
use Rattle.std.proofs.Common.{ap, ◌∙◌, ⊎_elim, arith}
use Rattle.le.specs.Number.{bytes}
use Rattle.le.specs.Arena.{arena_words}
use Rattle.sizes.specs.Limits.{none64, none32, record_words, plain, mixed}
use Rattle.sizes.specs.Layout.{prev_word, size_word, fwd_word, back_word, length_word, top_word, remainder_word, cache_head, cache_count, fast_head, bin_first, bin_last, key_low, key_high, edition_word, key_word}
use Rattle.machine.specs.Lists.{hd, lst, cnt}
use Rattle.machine.specs.Count.{ind-same, cnt-here, cnt-there, cnt-le-all}
use Rattle.machine.specs.Heap.{Tile, tile, Heap, top_size, stack, cache, fast, fast_at, bin, binned, end_from, top_of, starts, size_of, record_of}
use Rattle.machine.specs.Writes.{Write, who, field, value}
use Rattle.machine.specs.Mixing.{stored}
use Rattle.machine.specs.MixingLaws.{stored-small}
use Rattle.machine.specs.Skips.{ring_from, ring, put_skips, all_put, skips}
use Rattle.machine.specs.Calls.{heap_in, words_of}
use Rattle.sound.specs.Relation.{all, tiled, tiles_at, chain_by, links, stand, Mem, flags, Good, Sound}
use Rattle.sound.specs.Tiles.{tiled-split, end-le, start}
use Rattle.sound.specs.Frames.{end-all, starts-all}
use Rattle.sound.specs.Apart.{clear_of, tiled-tiles}
use Rattle.sound.specs.Rings.{ring-case, put-case, kind-case, SkipW, skips-w}
use Rattle.sound.specs.RecordOf.{record-words, record-ext}
use Rattle.audit.specs.Exact.{audit-read}
use Rattle.calls_consequences.specs.Bytes.{cut, get_d-cut, length_cut, words-cut, arena_words-cut}

-- a word that fits its width is read as it was written
kept8 : (w : List ℕ) (i x : ℕ) → get_or w i 0 ≡ x → x ≤ none64 → get_or (cut 8 w) i 0 ≡ x
kept8 w i x e l = get_d-cut 8 w i ∙ omega arith

kept4 : (r : List ℕ) (i x : ℕ) → get_or r i 0 ≡ x → x ≤ none32 → get_or (cut 4 r) i 0 ≡ x
kept4 r i x e l = get_d-cut 4 r i ∙ omega arith

hd-most : (n : ℕ) (l : List ℕ) → 262144 ≤ n → ((x : ℕ) → 1 ≤ cnt x l → x ≤ 262144) → hd n l ≤ n
hd-most n [] g m = omega arith
hd-most n (x ∷ l) g m = omega (arith, m x (cnt-here x l))

lst-most : (n k : ℕ) (l : List ℕ) → 262144 ≤ k → n ≤ k → ((x : ℕ) → 1 ≤ cnt x l → x ≤ 262144) → lst n l ≤ k
lst-most n k [] g e m = e
lst-most n k (x ∷ l) g e m = lst-most x k l g (omega (arith, m x (cnt-here x l))) (λ y c. m y (cnt-there y x l c))

-- ---- the arena's words
tiles-cut : (b : ℕ → ℕ) (w : List ℕ) (o q s : ℕ) (ts : List Tile) → tiled ts → flags b o q s ts → s ≤ 262144 → end_from o ts ≤ 262144 → tiles_at w o ts
    → tiles_at (cut 8 w) o ts
tiles-cut b w o q s [] f g l e k = tt
tiles-cut b w o q s (t ∷ ts) f g l e k =
    let n : o + t.size ≤ 262144 = omega (arith, end-le (o + t.size) ts) in (
      kept8 w (size_word o) (t.size + t.p) k.0 (omega (arith, f.2)),
      λ z. kept8 w (prev_word o) t.prev (k.1 z) (omega (arith, g.2.0 z)),
      tiles-cut b w (o + t.size) (b o) t.size ts f.3 g.3 (omega arith) e k.2,
    )

chain-cut : (d : ℕ) (w l : List ℕ) → ((x : ℕ) → 1 ≤ cnt x l → x < 262144) → chain_by d w l → chain_by d (cut 8 w) l
chain-cut d w [] m k = tt
chain-cut d w (x ∷ l) m k =
    let n : (y : ℕ) → 1 ≤ cnt y l → y < 262144 = λ y c. m y (cnt-there y x l c) in
    let most : hd none64 l ≤ none64 = hd-most none64 l (omega arith) (λ y c. omega (arith, n y c)) in
    let small : stored d x (hd none64 l) < 2 ^ 64 = stored-small d x (hd none64 l) (m x (cnt-here x l)) (omega arith) in
    (kept8 w (fwd_word x) (stored d x (hd none64 l)) k.0 (omega arith), chain-cut d w l n k.1)

links-cut : (w : List ℕ) (p : ℕ) (l : List ℕ) → p ≤ none64 → ((x : ℕ) → 1 ≤ cnt x l → x ≤ 262144) → links w p l none64 → links (cut 8 w) p l none64
links-cut w p [] e m k = tt
links-cut w p (x ∷ l) e m k =
    let n : (y : ℕ) → 1 ≤ cnt y l → y ≤ 262144 = λ y c. m y (cnt-there y x l c) in (
      kept8 w (fwd_word x) (hd none64 l) k.0 (hd-most none64 l (omega arith) n),
      kept8 w (back_word x) p k.1 e,
      links-cut w x l (omega (arith, m x (cnt-here x l))) n k.2,
    )

-- skip links lead to chunks, or are all ones
abbrev SmallW : List Write → Type 0
SmallW [] = Unit {0}
SmallW (e ∷ ws) = ((w : List ℕ) → value e w ≤ none64) × SmallW ws

small-append : (a b : List Write) → SmallW a → SmallW b → SmallW (a ++ b)
small-append [] b j k = k
small-append (e ∷ a) b j k = (j.0, small-append a b j.1 k)

ring_from-small : (sz : ℕ → ℕ) (f q : ℕ) (l : List ℕ) → f ≤ none64 → q ≤ none64 → ((x : ℕ) → 1 ≤ cnt x l → x ≤ 262144) → SmallW (ring_from sz f q l)
ring_from-small sz f q [] bf bq m = ((λ w. bf), ((λ w. bq), tt))
ring_from-small sz f q (c ∷ l) bf bq m =
    let n : (y : ℕ) → 1 ≤ cnt y l → y ≤ 262144 = λ y i. m y (cnt-there y c l i) in
    let bc : c ≤ none64 = omega (arith, m c (cnt-here c l)) in
    ring-case SmallW sz f q c l
    (λ e. ((λ w. omega arith), ((λ w. omega arith), ring_from-small sz f q l bf bq n)))
    (λ e. ((λ w. bc), ((λ w. bq), ring_from-small sz f c l bf bc n)))

ring-small : (sz : ℕ → ℕ) (l : List ℕ) → ((x : ℕ) → 1 ≤ cnt x l → x ≤ 262144) → SmallW (ring sz l)
ring-small sz [] m = tt
ring-small sz (c ∷ l) m =
    let bc : c ≤ none64 = omega (arith, m c (cnt-here c l)) in
    ring_from-small sz c c l bc bc (λ y i. m y (cnt-there y c l i))

all_put-small : (sz : ℕ → ℕ) (l : List ℕ) → SmallW (all_put sz l)
all_put-small sz [] = tt
all_put-small sz (c ∷ l) =
    small-append (put_skips sz c) (all_put sz l) (put-case SmallW sz c tt (λ e. ((λ w. omega arith), ((λ w. omega arith), tt)))) (all_put-small sz l)

skips-small : (j : ℕ) (sz : ℕ → ℕ) (l : List ℕ) → ((x : ℕ) → 1 ≤ cnt x l → x ≤ 262144) → SmallW (skips j sz l)
skips-small j sz l m = kind-case SmallW j (all_put sz l) (ring sz l) (λ z. ring-small sz l m) (λ z. all_put-small sz l) tt

stand-cut : (sz : ℕ → ℕ) (L : List ℕ) (ws : List Write) (w : List ℕ) → SkipW sz L ws → SmallW ws → stand ws w → stand ws (cut 8 w)
stand-cut sz L [] w s b k = tt
stand-cut sz L (e ∷ ws) w s b k =
    (kept8 w (who e / 8 + field e) (value e w) k.0 (b.0 w) ∙ s.3 w (cut 8 w), stand-cut sz L ws w s.4 b.1 k.1)

module _ (h : Heap) (g : Good h) where
  pub start-most : (x : ℕ) → 1 ≤ cnt x (starts h) → x + 32 ≤ top_of h
  start-most x m = (start h.tiles 0 x (tiled-tiles h g.shape) m).high

  pub top-most : top_of h + 32 ≤ h.len
  top-most =
      let f = tiled-split h.tiles (tile (top_size h) 1 0 ∷ []) g.shape.sizes in
      omega (arith, f.1.1)

  pub chunk-most : (x : ℕ) → 1 ≤ cnt x (starts h) → x + size_of h x ≤ top_of h
  chunk-most x m = ⊎_elim
      (λ l. absurd (omega (arith, start-most x m)))
      (λ l. ⊎_elim (λ e. absurd (omega (arith, start-most x m))) (λ e. e) l)
      (clear_of h x (top_of h) g.shape m (omega (arith, starts-all h (top_of h), ind-same (top_of h))))

  stack-most : (k x : ℕ) → 1 ≤ cnt x (stack h k) → x < 262144
  stack-most k x m = omega (arith, start-most x (omega (arith, g.shape.own x, cnt-le-all x h.stacks k)), top-most, g.shape.small)

  pub bin-most : (j x : ℕ) → 1 ≤ cnt x (bin h j) → x ≤ 262144
  bin-most j x m = omega (arith, start-most x (omega (arith, g.shape.own x, cnt-le-all x h.bins j)), top-most, g.shape.small)

  pub mem-cut : (w : List ℕ) → Mem h w → Mem h (cut 8 w)
  mem-cut w m = record {
    long = ap (λ (n : ℕ). 8 * n) (length_cut 8 w) ∙ m.long;
    words = tiles-cut (λ x. binned h x) w 0 0 0 (all h) g.shape.sizes g.flag (omega arith) (omega (arith, end-all h g.shape.sizes, g.shape.small)) m.words;
    chains = λ k. chain-cut h.edition w (stack h k) (stack-most k) (m.chains k);
    blinks = λ j. links-cut w none64 (bin h j) (omega arith) (bin-most j) (m.blinks j);
    keys = λ z k x p i. kept8 w (key_word x) h.key (m.keys z k x p i) (omega (arith, m.key64));
    key64 = m.key64;
    edited = m.edited;
    skipped = λ z j. stand-cut (λ x. size_of h x) (bin h j) (skips j (λ x. size_of h x) (bin h j)) w
        (skips-w j (λ x. size_of h x) (bin h j) (λ y x m. g.shape.roomy j x y m)) (skips-small j (λ x. size_of h x) (bin h j) (bin-most j)) (m.skipped z j);
  }

  -- ---- the record's words
  edition-most : (h.edition ≡ plain) ⊎ (h.edition ≡ mixed) → h.edition ≤ none32
  edition-most k = ⊎_elim (λ e. omega arith) (λ e. omega arith) k

  record-cut : h.remainder ≤ none32 → h.key < 2 ^ 64 → h.edition ≤ none32 → cut 4 (record_of h) ≡ record_of h
  record-cut low small edition =
      let o = record-words h g.shape.stacked74 g.shape.binned127 in
      let r : List ℕ = record_of h in
      record-ext h (cut 4 r) g.shape.stacked74 g.shape.binned127 (record {
        all = length_cut 4 r ∙ o.all;
        len = kept4 r length_word h.len o.len (omega (arith, g.shape.small));
        top = kept4 r top_word (top_of h) o.top (omega (arith, top-most, g.shape.small));
        remainder = kept4 r remainder_word h.remainder o.remainder low;
        heads = λ k l. kept4 r (cache_head k) (hd none32 (cache h k)) (o.heads k l) (hd-most none32 (cache h k) (omega arith) (λ x i. omega (arith, stack-most k x i)));
        counts = λ k l. kept4 r (cache_count k) (length (cache h k)) (o.counts k l) (omega (arith, g.homes.short k l));
        fasts = λ k l. kept4 r (fast_head k) (hd none32 (fast h k)) (o.fasts k l) (hd-most none32 (fast h k) (omega arith) (λ x i. omega (arith, stack-most (fast_at k) x i)));
        firsts = λ j l m. kept4 r (bin_first j) (hd none32 (bin h j)) (o.firsts j l m) (hd-most none32 (bin h j) (omega arith) (bin-most j));
        lasts = λ j l m. kept4 r (bin_last j) (lst none32 (bin h j)) (o.lasts j l m) (lst-most none32 none32 (bin h j) (omega arith) (omega arith) (bin-most j));
        low = kept4 r key_low (h.key % 2 ^ 32) o.low (omega arith);
        high = kept4 r key_high (h.key / 2 ^ 32) o.high (omega arith);
        edition = kept4 r edition_word h.edition o.edition edition;
      })

  pub written-sound : (w : List ℕ) → Mem h w → h.remainder ≤ none32 → Sound h (arena_words (bytes 8 w)) (words_of (bytes 4 (record_of h)))
  written-sound w m low = record {
    good = g;
    mem = rw (arena_words-cut w) (mem-cut w m);
    rec = words-cut 4 record_words (record_of h) (record-words h g.shape.stacked74 g.shape.binned127).all ∙ record-cut low m.key64 (edition-most m.edited);
  }

  pub written_read : (w : List ℕ) → Mem h w → h.remainder ≤ none32 → heap_in (bytes 8 w) (bytes 4 (record_of h)) ≡ h
  written_read w m low = audit-read h (arena_words (bytes 8 w)) (words_of (bytes 4 (record_of h))) (written-sound w m low)
