-- The audit is exact, by the rules of each version: it answers sound if and only if words and record are those of a sound heap, and that heap is the one that is
-- read. Between the two stands what the audit's tests say (Spelled); the relation says the same by list, chunk and word. Assumes nothing.
use Rattle.std.specs.Prelude.{◌≡◌, refl, List, [], ◌∷◌, ℕ, zero, suc, ◌+◌, ◌-◌, ◌*◌, ◌%◌, ◌^◌, ◌≤◌, ◌<◌, length, get_or, drop, Ok}
use Rattle.std.proofs.Common.{sym, ap, ◌∙◌, subst, inl, inr, ⊎_elim, not-suc-le-zero, arith, length-append, length-drop, get_or-drop, get_or-append-add, lt-ltb, le-ltb}
use Rattle.std.proofs.Math.ListN.{get_or-append, get_or-eq_default}
use Rattle.le.specs.Arena.{arena_words}
use Rattle.sizes.specs.Limits.{none64, none32, newest}
use Rattle.sizes.specs.Sizes.{bin_of}
use Rattle.sizes.specs.BinLaws.{bin_of-wide}
use Rattle.sizes.specs.Layout.{cache_head, fast_head, bin_first, bin_last, key_low, key_high}
use Rattle.machine.specs.Lists.{hd, lst, cnt}
use Rattle.machine.specs.Count.{cnt-le-all}
use Rattle.machine.specs.Heap.{tile, Heap, stack, cache, fast, bin, starts, top_of, top_size, size_of, total, binned, record_of}
use Rattle.machine.specs.Writes.{Write}
use Rattle.machine.specs.Skips.{skips}
use Rattle.machine.specs.View.{size_at, low_at, up, kind_at, key_in, view}
use Rattle.machine.specs.Audit.{lists, audit_by, audit_of}
use Rattle.machine.specs.declared.ListKind.{ListKind}
use Rattle.machine.specs.declared.ListKind.TheVariants.{Cache, Fast, Bin}
use Rattle.sound.specs.Relation.{MemBy, Homes, Good, SoundBy, Sound, chain_by, links, stand, falls, stack_size}
use Rattle.sound.specs.Tiles.{lt-or-le, tiled-split, tiled-join, Start, start, tiles-split, tiles-join}
use Rattle.sound.specs.Lists.{links-chain}
use Rattle.sound.specs.Homes.{falls-cong}
use Rattle.sound.specs.Rings.{skips-cong}
use Rattle.sound.specs.RecordOf.{Recorded, record-words, record-ext}
use Rattle.audit_walks.specs.Tiles.{TilesOk, one-tile, size-at}
use Rattle.audit_walks.specs.Marks.{ArenaBytes}
use Rattle.audit_walks.specs.TileTurn.{arena-length}
use Rattle.audit.specs.Flags.{flags-noted}
use Rattle.audit.specs.Lists.{Suited, Suit, suit-get, suit-all}
use Rattle.audit.specs.Kinds.{kind-cache, kind-fast, kind-bin, CacheListed, cache-out, cache-in, FastListed, fast-out, fast-in, BinListed, bin-out, bin-in, skips-out, skips-in, skips-empty, up-hd, up-lst, up_one}
use Rattle.audit.specs.Spelled.{Spelled, chunk_small, audit-spelled, spelled-read, spelled-audit}

-- the allowed lengths of an arena
pub record Arena (w : List ℕ) : Type 0 where
  pub even : (8 * length w) % 16 ≡ 0
  pub least : 32 ≤ 8 * length w
  pub small : 8 * length w ≤ 262144

pub arena-words : (a : List ℕ) → ArenaBytes a → Arena (arena_words a)
arena-words a b =
    let n = arena-length a b in
    record { even = rw n b.even; least = omega (arith, n, b.least); small = omega (arith, n, b.small) }

-- ---- the lists by kind and number
module _ (h : Heap) (stacked : length h.stacks ≡ 74) where
  stack_at : (k : ℕ) → k < 74 → get_or (lists h) k [] ≡ stack h k
  stack_at k l = get_or-append h.stacks (drop 1 h.bins) [] k (omega (arith, stacked))

  bin-at : (j : ℕ) → 1 ≤ j → get_or (lists h) (73 + j) [] ≡ bin h j
  bin-at j l =
      let n : 73 + j ≡ length h.stacks + (j - 1) = omega (arith, stacked) in
      let m : 1 + (j - 1) ≡ j = omega arith in
      ap (λ (i : ℕ). get_or (lists h) i []) n ∙ get_or-append-add h.stacks (drop 1 h.bins) (j - 1) [] ∙ get_or-drop 1 h.bins (j - 1) [] ∙ ap (λ (i : ℕ). bin h i) m

  -- what holds of cache lists, fast lists and no list holds of each stack
  stack-cases : (P : ℕ → List ℕ → Type 0) → ((k : ℕ) → k < 64 → P k (cache h k)) → ((k : ℕ) → k < 10 → P (64 + k) (fast h k)) → ((k : ℕ) → P k []) → (k : ℕ) → P k (stack h k)
  stack-cases P c f n k =
      ⊎_elim (λ l. c k l)
      (λ l. ⊎_elim (λ m. let e : 64 + (k - 64) ≡ k = omega arith in subst (λ (i : ℕ). P i (stack h i)) e (f (k - 64) (omega arith)))
      (λ m. subst (P k) (sym (get_or-eq_default h.stacks [] (omega (arith, stacked)))) (n k))
      (lt-or-le k 74)) (lt-or-le k 64)

bin-cases : (h : Heap) → length h.bins ≡ 127 → bin h 0 ≡ [] → (P : ℕ → List ℕ → Type 0) → ((j : ℕ) → P j []) → ((j : ℕ) → 1 ≤ j → j ≤ 126 → P j (bin h j)) → (j : ℕ) → P j (bin h j)
bin-cases h b e P n s zero = subst (P 0) (sym e) (n 0)
bin-cases h b e P n s (suc j) =
    ⊎_elim (λ l. s (suc j) (omega arith) (omega arith)) (λ l. subst (P (suc j)) (sym (get_or-eq_default h.bins [] (omega (arith, b)))) (n (suc j))) (lt-or-le j 126)

stack-cache : (k : ℕ) → k < 64 → stack_size k ≡ 32 + 16 * k
stack-cache k h = rw (lt-ltb k 64 h, stack_size)

stack-fast : (k : ℕ) → stack_size (64 + k) ≡ 32 + 16 * k
stack-fast k = rw (le-ltb (64 + k) 64 (omega arith), stack_size) (omega arith)

-- ---- a chunk of a list
module _ (h : Heap) (own : (x : ℕ) → total x h ≤ cnt x (starts h)) where
  stack-start : (k x : ℕ) → 1 ≤ cnt x (stack h k) → 1 ≤ cnt x (starts h)
  stack-start k x m = omega (arith, own x, cnt-le-all x h.stacks k)

  bin-start : (j x : ℕ) → 1 ≤ cnt x (bin h j) → 1 ≤ cnt x (starts h)
  bin-start j x m = omega (arith, own x, cnt-le-all x h.bins j)

-- ---- from the tests to the relation
module _ (v : ℕ) (h : Heap) (w r : List ℕ) (a : 8 * length w ≤ 262144) (s : Spelled v h w r) where
  size-of : (x : ℕ) → 1 ≤ cnt x (starts h) → size_at w x ≡ size_of h x
  size-of x m = size-at w 0 h.tiles x s.tiles.sizes s.tiles.words m

  small : (x : ℕ) → 1 ≤ cnt x (starts h) → x < 262144
  small = chunk_small v h w r a s

  all200 : length (lists h) ≡ 200
  all200 = omega (arith, length-append h.stacks (drop 1 h.bins), length-drop 1 h.bins, s.stacked, s.bins)

  suit : (i : ℕ) (k : ListKind) (l : List ℕ) → i < 200 → kind_at i ≡ k → get_or (lists h) i [] ≡ l → Suited v k w r l
  suit i k l b e g =
      let z : 0 + i ≡ i = omega arith in
      subst (λ (m : List ℕ). Suited v k w r m) g (subst (λ (j : ListKind). Suited v j w r (get_or (lists h) i [])) e
      (subst (λ (j : ℕ). Suit v w r j (get_or (lists h) i [])) z (suit-get v w r 0 i (lists h) (omega (arith, all200)) s.listed)))

  cache-suit : (k : ℕ) → k < 64 → Suited v (Cache k) w r (cache h k)
  cache-suit k b = suit k (Cache k) (cache h k) (omega arith) (kind-cache k b) (stack_at h s.stacked k (omega arith))

  fast-suit : (k : ℕ) → k < 10 → Suited v (Fast k) w r (fast h k)
  fast-suit k b = suit (64 + k) (Fast k) (fast h k) (omega arith) (kind-fast k b) (stack_at h s.stacked (64 + k) (omega arith))

  bin-suit : (j : ℕ) → 1 ≤ j → j ≤ 126 → Suited v (Bin j) w r (bin h j)
  bin-suit j b c = suit (73 + j) (Bin j) (bin h j) (omega arith) (kind-bin j b) (bin-at h s.stacked j b)

  cached : (k : ℕ) → k < 64 → CacheListed v k w r 0 (cache h k)
  cached k b = cache-out v k w r none64 0 (cache h k) (omega arith) (cache-suit k b).2

  quick : (k : ℕ) → k < 10 → FastListed k w (fast h k)
  quick k b = fast-out v k w r none64 0 (fast h k) (fast-suit k b).2

  sorted : (j : ℕ) → 1 ≤ j → j ≤ 126 → BinListed j w r none64 (bin h j)
  sorted j b c = bin-out v j w r none64 0 (bin h j) (λ x m e. omega (arith, small x (bin-start h s.own j x m), e)) (bin-suit j b c).1 (bin-suit j b c).2

  spelled-mem : ((i : ℕ) → get_or r i 0 < 2 ^ 32) → MemBy v h w
  spelled-mem b = record {
    long = s.long;
    words = tiles-join w 0 h.tiles (tile (top_size h) 1 0 ∷ []) s.tiles.words
        (omega (arith, s.top_p, s.tiles.top, s.long), λ e. absurd (omega (arith, e)), tt);
    chains = stack-cases h s.stacked (λ k l. chain_by h.edition w l)
        (λ k b. subst (λ (d : ℕ). chain_by d w (cache h k)) s.edition (cache-suit k b).1)
        (λ k b. subst (λ (d : ℕ). chain_by d w (fast h k)) s.edition (fast-suit k b).1) (λ k. tt);
    blinks = bin-cases h s.bins s.none (λ j l. links w none64 l none64) (λ j. tt) (λ j b c. (sorted j b c).link);
    keys = λ z k x c m. (cached k c).keys z x m ∙ s.key;
    key64 = omega (arith, s.key, b key_low, b key_high);
    edited = s.edited;
    skipped = λ z. bin-cases h s.bins s.none (λ j l. stand (skips j (λ x. size_of h x) l) w) (λ j. skips-empty j (λ x. size_of h x) w)
        (λ j b c. subst (λ (ws : List Write). stand ws w)
        (skips-cong j (λ x. size_at w x) (λ x. size_of h x) (bin h j) (λ x m. size-of x (bin-start h s.own j x m)))
        (skips-out v j w (bin h j) (bin-suit j b c).3 z));
  }

  spelled-homes : Homes h
  spelled-homes = record {
    stacked = λ k x m. sym (size-of x (stack-start h s.own k x m)) ∙ stack-cases h s.stacked (λ i l. 1 ≤ cnt x l → size_at w x ≡ stack_size i)
        (λ i b m. (cached i b).own x m ∙ sym (stack-cache i b)) (λ i b m. (quick i b).own x m ∙ sym (stack-fast i)) (λ i m. absurd (not-suc-le-zero m)) k m;
    quick = λ k x b m. omega (
      arith,
      size-of x (stack-start h s.own k x m),
      stack-cases h s.stacked (λ i l. 64 ≤ i → 1 ≤ cnt x l → size_at w x ≤ 128)
          (λ i c d m. absurd (omega arith)) (λ i c d m. (quick i c).most x m) (λ i c m. absurd (not-suc-le-zero m)) k b m,
    );
    short = λ k b. omega (arith, (cached k b).most);
    none = s.none;
    sorted = λ j x b m. ap bin_of (sym (size-of x (bin-start h s.own j x m))) ∙ bin-cases h s.bins s.none (λ i l. 2 ≤ i → 1 ≤ cnt x l → bin_of (size_at w x) ≡ i)
        (λ i c m. absurd (not-suc-le-zero m)) (λ i c d f m. ⊎_elim (λ z. absurd (omega arith)) (λ z. z) ((sorted i c d).own x m)) j b m;
    falling = bin-cases h s.bins s.none (λ j l. 64 ≤ j → falls (λ x. size_of h x) l) (λ j b. tt)
        (λ j b c d. falls-cong (λ x. size_at w x) (λ x. size_of h x) (bin h j) (λ x m. sym (size-of x (bin-start h s.own j x m))) ((sorted j b c).falling d));
  }

  spelled-good : Good h
  spelled-good = record {
    shape = record {
      small = omega (arith, s.long);
      sizes = tiled-join h.tiles (tile (top_size h) 1 0 ∷ []) s.tiles.sizes
          (subst (λ (n : ℕ). n % 16 ≡ 0) (sym top-size) (omega arith), omega (arith, s.tiles.least, s.tiles.top, s.long), omega arith, tt);
      stacked74 = s.stacked;
      binned127 = s.bins;
      own = s.own;
      roomy = λ j x b m.
          let e : bin_of (size_of h x) ≡ j = spelled-homes.sorted j x (omega arith) m in
          bin_of-wide (size_of h x) (omega (arith, e));
    };
    homes = spelled-homes;
    flag = s.flagged;
  }
    where
      top-size : top_size h ≡ size_at w (top_of h)
      top-size = omega (arith, s.tiles.top, s.long)

  spelled-record : length r ≡ 396 → ((i : ℕ) → get_or r i 0 < 2 ^ 32) → r ≡ record_of h
  spelled-record n b = record-ext h r s.stacked s.bins (record {
    all = n;
    len = s.len ∙ s.long;
    top = s.top;
    remainder = s.rest;
    heads = λ k c. head (cache_head k) (cache h k) (λ x m. stack-start h s.own k x m) (cache-suit k c).0;
    counts = λ k c. (cached k c).counted ∙ omega arith;
    fasts = λ k c. head (fast_head k) (fast h k) (λ x m. stack-start h s.own (64 + k) x m) (fast-suit k c).0;
    firsts = λ j c d. head (bin_first j) (bin h j) (λ x m. bin-start h s.own j x m) (bin-suit j c d).0;
    lasts = λ j c d. last (bin_last j) (bin h j) (λ x m. bin-start h s.own j x m) (sorted j c d).last;
    low = omega (arith, s.key, b key_low, b key_high);
    high = omega (arith, s.key, b key_low, b key_high);
    edition = s.edition;
  })
    where
      head : (i : ℕ) (l : List ℕ) → ((x : ℕ) → 1 ≤ cnt x l → 1 ≤ cnt x (starts h)) → up (get_or r i 0) ≡ hd none64 l → get_or r i 0 ≡ hd none32 l
      head i l m e = let u = up-hd l (λ x k. small x (m x k)) in up_one (get_or r i 0) (hd none32 l) (b i) u.1 (e ∙ sym u.0)

      last : (i : ℕ) (l : List ℕ) → ((x : ℕ) → 1 ≤ cnt x l → 1 ≤ cnt x (starts h)) → up (get_or r i 0) ≡ lst none64 l → get_or r i 0 ≡ lst none32 l
      last i l m e = let u = up-lst l (λ x k. small x (m x k)) in up_one (get_or r i 0) (lst none32 l) (b i) u.1 (e ∙ sym u.0)

pub audit-good-by : (v : ℕ) (w r : List ℕ) → Arena w → audit_by v w r ≡ Ok tt → Good (view w r)
audit-good-by v w r a e = spelled-good v (view w r) w r a.small (audit-spelled v w r e)

pub audit-sound-by : (v : ℕ) (w r : List ℕ) → Arena w → length r ≡ 396 → ((i : ℕ) → get_or r i 0 < 2 ^ 32) → audit_by v w r ≡ Ok tt → SoundBy v (view w r) w r
audit-sound-by v w r a n b e =
    let s = audit-spelled v w r e in
    record { good = audit-good-by v w r a e; mem = spelled-mem v (view w r) w r a.small s b; rec = spelled-record v (view w r) w r a.small s n b }

-- ---- from the relation to the tests
module _ (v : ℕ) (h : Heap) (w r : List ℕ) (s : SoundBy v h w r) where
  recorded : Recorded h r
  recorded = subst (Recorded h) (sym s.rec) (record-words h s.good.shape.stacked74 s.good.shape.binned127)

  tiled : TilesOk w 0 h.tiles × (low_at w (top_of h) ≡ 1)
  tiled =
      let f = tiled-split h.tiles (tile (top_size h) 1 0 ∷ []) s.good.shape.sizes in
      let t = tiles-split w 0 h.tiles (tile (top_size h) 1 0 ∷ []) s.mem.words in
      let q = one-tile w (top_of h) (top_size h) 1 f.1.0 (omega arith) t.1.0 in (
        record {
          sizes = f.0;
          words = t.0;
          notes = flags-noted (λ x. binned h x) 0 0 0 h.tiles (tile (top_size h) 1 0 ∷ []) s.good.flag;
          low = omega (arith, q.1);
          least = omega (arith, q.0, f.1.1);
          top = omega (arith, q.0, f.1.1, s.mem.long);
        },
        q.1,
      )

  size-was : (x : ℕ) → 1 ≤ cnt x (starts h) → size_at w x ≡ size_of h x
  size-was x m = size-at w 0 h.tiles x tiled.0.sizes tiled.0.words m

  within : (x : ℕ) → 1 ≤ cnt x (starts h) → x < 262144
  within x m =
      let k = tiled.0 in
      let b : Start h.tiles 0 x = start h.tiles 0 x k.sizes m in
      omega (arith, k.top, k.least, s.mem.long, s.good.shape.small)

  stacks-in : (k x : ℕ) → 1 ≤ cnt x (stack h k) → 1 ≤ cnt x (starts h)
  stacks-in = stack-start h s.good.shape.own

  bins-in : (j x : ℕ) → 1 ≤ cnt x (bin h j) → 1 ≤ cnt x (starts h)
  bins-in = bin-start h s.good.shape.own

  keyed : key_in r ≡ h.key
  keyed = omega (arith, recorded.low, recorded.high)

  cache-suits : (k : ℕ) → k < 64 → Suited v (Cache k) w r (cache h k)
  cache-suits k b = (
    ap up (recorded.heads k b) ∙ (up-hd (cache h k) (λ x m. within x (stacks-in k x m))).0,
    subst (λ (d : ℕ). chain_by d w (cache h k)) (sym recorded.edition) (s.mem.chains k),
    cache-in v k w r none64 0 (cache h k) (record {
      own = λ x m. size-was x (stacks-in k x m) ∙ s.good.homes.stacked k x m ∙ stack-cache k b;
      counted = recorded.counts k b ∙ omega arith;
      most = omega (arith, s.good.homes.short k b);
      keys = λ z x m. s.mem.keys z k x b m ∙ sym keyed;
    }),
    refl,
  )

  fast-suits : (k : ℕ) → k < 10 → Suited v (Fast k) w r (fast h k)
  fast-suits k b = (
    ap up (recorded.fasts k b) ∙ (up-hd (fast h k) (λ x m. within x (stacks-in (64 + k) x m))).0,
    subst (λ (d : ℕ). chain_by d w (fast h k)) (sym recorded.edition) (s.mem.chains (64 + k)),
    fast-in v k w r none64 0 (fast h k) (record {
      own = λ x m. size-was x (stacks-in (64 + k) x m) ∙ s.good.homes.stacked (64 + k) x m ∙ stack-fast k;
      most = λ x m. omega (arith, size-was x (stacks-in (64 + k) x m), s.good.homes.quick (64 + k) x (omega arith) m);
    }),
    refl,
  )

  bin-suits : (j : ℕ) → 1 ≤ j → j ≤ 126 → Suited v (Bin j) w r (bin h j)
  bin-suits j b c =
      let l = links-chain w none64 (bin h j) (s.mem.blinks j) in
      let g = bin-in v j w r none64 0 (bin h j) (record {
        link = s.mem.blinks j;
        own = λ x m. ⊎_elim (λ z. inl (omega arith)) (λ z. inr (ap bin_of (size-was x (bins-in j x m)) ∙ s.good.homes.sorted j x z m)) (lt-or-le j 2);
        falling = λ g. falls-cong (λ x. size_of h x) (λ x. size_at w x) (bin h j) (λ x m. size-was x (bins-in j x m)) (s.good.homes.falling j g);
        below = λ g n. absurd (n refl);
        last = ap up (recorded.lasts j b c) ∙ (up-lst (bin h j) (λ x m. within x (bins-in j x m))).0;
      }) in (
        ap up (recorded.firsts j b c) ∙ (up-hd (bin h j) (λ x m. within x (bins-in j x m))).0,
        l,
        g.1,
        skips-in v j w (bin h j) (λ z. subst (λ (ws : List Write). stand ws w)
            (skips-cong j (λ x. size_of h x) (λ x. size_at w x) (bin h j) (λ x m. sym (size-was x (bins-in j x m)))) (s.mem.skipped z j)),
      )

  suits-at : (i : ℕ) → i < 200 → Suit v w r i (get_or (lists h) i [])
  suits-at i b =
      ⊎_elim (λ l. put i (Cache i) (cache h i) (kind-cache i l) (stack_at h n i (omega arith)) (cache-suits i l))
      (λ l. ⊎_elim
      (λ m.
      let e : 64 + (i - 64) ≡ i = omega arith in
      subst (λ (z : ℕ). Suit v w r z (get_or (lists h) z [])) e
      (put (64 + (i - 64)) (Fast (i - 64)) (fast h (i - 64)) (kind-fast (i - 64) (omega arith)) (stack_at h n (64 + (i - 64)) (omega arith)) (fast-suits (i - 64) (omega arith))))
      (λ m.
      let e : 73 + (i - 73) ≡ i = omega arith in
      subst (λ (z : ℕ). Suit v w r z (get_or (lists h) z [])) e
      (put (73 + (i - 73)) (Bin (i - 73)) (bin h (i - 73)) (kind-bin (i - 73) (omega arith)) (bin-at h n (i - 73) (omega arith)) (bin-suits (i - 73) (omega arith) (omega arith))))
      (lt-or-le i 74)) (lt-or-le i 64)
    where
      n : length h.stacks ≡ 74
      n = s.good.shape.stacked74

      put : (i : ℕ) (k : ListKind) (l : List ℕ) → kind_at i ≡ k → get_or (lists h) i [] ≡ l → Suited v k w r l → Suit v w r i (get_or (lists h) i [])
      put i k l e g z = subst (λ (j : ListKind). Suited v j w r (get_or (lists h) i [])) (sym e) (subst (λ (m : List ℕ). Suited v k w r m) (sym g) z)

  pub sound-spelled : Spelled v h w r
  sound-spelled = record {
    len = recorded.len ∙ sym s.mem.long;
    long = s.mem.long;
    top = recorded.top;
    rest = recorded.remainder;
    key = keyed;
    edition = recorded.edition;
    edited = s.mem.edited;
    tiles = tiled.0;
    stacked = s.good.shape.stacked74;
    bins = s.good.shape.binned127;
    none = s.good.homes.none;
    listed = suit-all v w r 0 (lists h) (λ i b.
        let z : 0 + i ≡ i = omega arith in
        subst (λ (j : ℕ). Suit v w r j (get_or (lists h) i [])) (sym z) (suits-at i (omega (arith, all))));
    own = s.good.shape.own;
    flagged = s.good.flag;
    top_p = tiled.1;
  }
    where
      all : length (lists h) ≡ 200
      all = omega (arith, length-append h.stacks (drop 1 h.bins), length-drop 1 h.bins, s.good.shape.stacked74, s.good.shape.binned127)

  arena-small : 8 * length w ≤ 262144
  arena-small = omega (arith, s.mem.long, s.good.shape.small)

-- every sound heap is read, and found sound
pub audit-read-by : (v : ℕ) (h : Heap) (w r : List ℕ) → SoundBy v h w r → view w r ≡ h
audit-read-by v h w r s = spelled-read v h w r (arena-small v h w r s) (sound-spelled v h w r s)

pub audit-complete-by : (v : ℕ) (h : Heap) (w r : List ℕ) → SoundBy v h w r → audit_by v w r ≡ Ok tt
audit-complete-by v h w r s = spelled-audit v h w r (arena-small v h w r s) (sound-spelled v h w r s)

-- ---- by the newest rules
pub audit-good : (w r : List ℕ) → Arena w → audit_of w r ≡ Ok tt → Good (view w r)
audit-good = audit-good-by newest

pub audit-sound : (w r : List ℕ) → Arena w → length r ≡ 396 → ((i : ℕ) → get_or r i 0 < 2 ^ 32) → audit_of w r ≡ Ok tt → Sound (view w r) w r
audit-sound = audit-sound-by newest

pub audit-read : (h : Heap) (w r : List ℕ) → Sound h w r → view w r ≡ h
audit-read = audit-read-by newest

pub audit-complete : (h : Heap) (w r : List ℕ) → Sound h w r → audit_of w r ≡ Ok tt
audit-complete = audit-complete-by newest
