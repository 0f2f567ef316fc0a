-- The record of a heap by its words: what stands at each of the 396 words of record_of h, that a list with these words is record_of h, and which words a change
-- of the heap changes. Each part of the record is found behind the lengths of those before it. Assumes nothing.
use Rattle.std.specs.Prelude.{◌≡◌}
use Rattle.std.proofs.Math.Path.{refl, sym, ap}
use Rattle.std.proofs.Common.{◌∙◌, subst, ⊎_elim, le_of_suc-le-suc, not-suc-le-zero, zero-add, suc-add, length-drop, get_or-take, get_or-drop, get_or-append-add, length-take-le, ext_get_or}
use mathlib.Core.List.{List, [], ◌∷◌, ◌++◌, map}
use Prim.Native.Nat.{ℕ, zero, suc, ◌+◌, ◌-◌, ◌*◌, ◌/◌, ◌%◌, ◌^◌, ◌≤◌, ◌<◌}
use native.Mathlib.Omega.{arith}
use Rattle.std.proofs.Math.ListN.{length, get_or, set, take, drop, length-append, length-map, length-set, get_or-append}
use Rattle.std.proofs.lemmas.List.{set-append_left, take-set-le, set-get_or}
use Rattle.std.proofs.Math.Seq.{take-set-lt, drop-set-lt, drop-set-add}
use Rattle.sizes.specs.Limits.{none32, cache_lists}
use Rattle.sizes.specs.Layout.{length_word, top_word, remainder_word, cache_head, cache_count, fast_head, bin_first, bin_last, key_low, key_high, edition_word}
use Rattle.machine.specs.Lists.{hd, lst}
use Rattle.machine.specs.Heap.{Tile, Heap, cache, fast, fast_at, bin, with_tiles, with_stack, with_bin, with_remainder, end_from, top_of, ends, halves, record_of}
use Rattle.sound.specs.Relation.{Shape}
use Rattle.sound.specs.Tiles.{lt-or-le}

-- ---- parts of a list
behind : (n : ℕ) (a b : List ℕ) (i : ℕ) → length a ≡ n → get_or (a ++ b) (n + i) 0 ≡ get_or b i 0
behind n a b i e = rw (← e) (get_or-append-add a b i 0)

get_d_map : (f : List ℕ → ℕ) (ls : List (List ℕ)) (k : ℕ) → k < length ls → get_or (map f ls) k 0 ≡ f (get_or ls k [])
get_d_map f [] k h = absurd (not-suc-le-zero h)
get_d_map f (l ∷ ls) zero h = refl
get_d_map f (l ∷ ls) (suc k) h = get_d_map f ls k (le_of_suc-le-suc h)

length-ends : (ls : List (List ℕ)) → length (ends ls) ≡ 2 * length ls
length-ends [] = refl
length-ends (l ∷ ls) = omega (arith, length-ends ls)

ends-first : (ls : List (List ℕ)) (m : ℕ) → m < length ls → get_or (ends ls) (2 * m) 0 ≡ hd none32 (get_or ls m [])
ends-first [] m h = absurd (not-suc-le-zero h)
ends-first (l ∷ ls) zero h = refl
ends-first (l ∷ ls) (suc m) h = ap (λ (n : ℕ). get_or (ends (l ∷ ls)) n 0) e ∙ ends-first ls m (le_of_suc-le-suc h)
  where
    e : 2 * suc m ≡ suc (suc (2 * m))
    e = omega arith

ends_last : (ls : List (List ℕ)) (m : ℕ) → m < length ls → get_or (ends ls) (suc (2 * m)) 0 ≡ lst none32 (get_or ls m [])
ends_last [] m h = absurd (not-suc-le-zero h)
ends_last (l ∷ ls) zero h = refl
ends_last (l ∷ ls) (suc m) h = ap (λ (n : ℕ). get_or (ends (l ∷ ls)) n 0) e ∙ ends_last ls m (le_of_suc-le-suc h)
  where
    e : suc (2 * suc m) ≡ suc (suc (suc (2 * m)))
    e = omega arith

-- ---- r has the words of h's record
pub record Recorded (h : Heap) (r : List ℕ) : Type 0 where
  pub all : length r ≡ 396
  pub len : get_or r length_word 0 ≡ h.len
  pub top : get_or r top_word 0 ≡ top_of h
  pub remainder : get_or r remainder_word 0 ≡ h.remainder
  pub heads : (k : ℕ) → k < 64 → get_or r (cache_head k) 0 ≡ hd none32 (cache h k)
  pub counts : (k : ℕ) → k < 64 → get_or r (cache_count k) 0 ≡ length (cache h k)
  pub fasts : (k : ℕ) → k < 10 → get_or r (fast_head k) 0 ≡ hd none32 (fast h k)
  pub firsts : (j : ℕ) → 1 ≤ j → j ≤ 126 → get_or r (bin_first j) 0 ≡ hd none32 (bin h j)
  pub lasts : (j : ℕ) → 1 ≤ j → j ≤ 126 → get_or r (bin_last j) 0 ≡ lst none32 (bin h j)
  pub low : get_or r key_low 0 ≡ h.key % 2 ^ 32
  pub high : get_or r key_high 0 ≡ h.key / 2 ^ 32
  pub edition : get_or r edition_word 0 ≡ h.edition

-- the record's parts in a row
parts : ℕ → ℕ → ℕ → List ℕ → List ℕ → List ℕ → List ℕ → List ℕ
parts x y z a b c d = (x ∷ y ∷ z ∷ []) ++ (a ++ (b ++ (c ++ d)))

module _ (x y z : ℕ) (a b c d : List ℕ) where
  in-heads : (k : ℕ) → k < length a → get_or (parts x y z a b c d) (3 + k) 0 ≡ get_or a k 0
  unfolding parts
  in-heads k h = behind 3 (x ∷ y ∷ z ∷ []) (a ++ (b ++ (c ++ d))) k refl ∙ get_or-append a (b ++ (c ++ d)) 0 k h

  in-counts : (k : ℕ) → length a ≡ 64 → k < length b → get_or (parts x y z a b c d) (67 + k) 0 ≡ get_or b k 0
  unfolding parts
  in-counts k e h =
      ap (λ (n : ℕ). get_or (parts x y z a b c d) n 0) n ∙ behind 3 (x ∷ y ∷ z ∷ []) (a ++ (b ++ (c ++ d))) (64 + k) refl
      ∙ behind 64 a (b ++ (c ++ d)) k e ∙ get_or-append b (c ++ d) 0 k h
    where
      n : 67 + k ≡ 3 + (64 + k)
      n = omega arith

  in-fasts : (k : ℕ) → length a ≡ 64 → length b ≡ 64 → k < length c → get_or (parts x y z a b c d) (131 + k) 0 ≡ get_or c k 0
  unfolding parts
  in-fasts k e f h =
      ap (λ (n : ℕ). get_or (parts x y z a b c d) n 0) n ∙ behind 3 (x ∷ y ∷ z ∷ []) (a ++ (b ++ (c ++ d))) (64 + (64 + k)) refl
      ∙ behind 64 a (b ++ (c ++ d)) (64 + k) e ∙ behind 64 b (c ++ d) k f ∙ get_or-append c d 0 k h
    where
      n : 131 + k ≡ 3 + (64 + (64 + k))
      n = omega arith

  in-ends : (k : ℕ) → length a ≡ 64 → length b ≡ 64 → length c ≡ 10 → get_or (parts x y z a b c d) (141 + k) 0 ≡ get_or d k 0
  unfolding parts
  in-ends k e f g =
      ap (λ (n : ℕ). get_or (parts x y z a b c d) n 0) n ∙ behind 3 (x ∷ y ∷ z ∷ []) (a ++ (b ++ (c ++ d))) (64 + (64 + (10 + k))) refl
      ∙ behind 64 a (b ++ (c ++ d)) (64 + (10 + k)) e ∙ behind 64 b (c ++ d) (10 + k) f ∙ behind 10 c d k g
    where
      n : 141 + k ≡ 3 + (64 + (64 + (10 + k)))
      n = omega arith

  length-parts : length (parts x y z a b c d) ≡ 3 + (length a + (length b + (length c + length d)))
  unfolding parts
  length-parts = omega (arith, length-append a (b ++ (c ++ d)), length-append b (c ++ d), length-append c d)

  parts_low : (get_or (parts x y z a b c d) 0 0 ≡ x) × (get_or (parts x y z a b c d) 1 0 ≡ y) × (get_or (parts x y z a b c d) 2 0 ≡ z)
  unfolding parts
  parts_low = (refl, refl, refl)

module _ (h : Heap) (stacked : length h.stacks ≡ 74) (binned : length h.bins ≡ 127) where
  heads : List ℕ
  heads = map (λ (l : List ℕ). hd none32 l) (take cache_lists h.stacks)

  counts : List ℕ
  counts = map (λ (l : List ℕ). length l) (take cache_lists h.stacks)

  fasts : List ℕ
  fasts = map (λ (l : List ℕ). hd none32 l) (drop cache_lists h.stacks)

  tails : List ℕ
  tails = ends (drop 1 h.bins) ++ (halves h.key ++ h.edition ∷ [])

  as_parts : record_of h ≡ parts h.len (top_of h) h.remainder heads counts fasts tails
  unfolding record_of parts heads counts fasts tails
  as_parts = refl

  caches : length (take cache_lists h.stacks) ≡ 64
  caches = length-take-le 64 h.stacks (omega (arith, stacked))

  quick : length (drop cache_lists h.stacks) ≡ 10
  quick = omega (arith, length-drop cache_lists h.stacks, stacked)

  rows : length (drop 1 h.bins) ≡ 126
  rows = omega (arith, length-drop 1 h.bins, binned)

  heads64 : length heads ≡ 64
  unfolding heads
  heads64 = length-map (take cache_lists h.stacks) (λ (l : List ℕ). hd none32 l) ∙ caches

  counts64 : length counts ≡ 64
  unfolding counts
  counts64 = length-map (take cache_lists h.stacks) (λ (l : List ℕ). length l) ∙ caches

  fasts10 : length fasts ≡ 10
  unfolding fasts
  fasts10 = length-map (drop cache_lists h.stacks) (λ (l : List ℕ). hd none32 l) ∙ quick

  ends252 : length (ends (drop 1 h.bins)) ≡ 252
  ends252 = omega (arith, length-ends (drop 1 h.bins), rows)

  tails255 : length tails ≡ 255
  unfolding tails
  tails255 = omega (arith, length-append (ends (drop 1 h.bins)) (halves h.key ++ h.edition ∷ []), ends252)

  pub record-length : length (record_of h) ≡ 396
  record-length = ap length as_parts ∙ omega (arith, length-parts h.len (top_of h) h.remainder heads counts fasts tails, heads64, counts64, fasts10, tails255)

  pub record-len : get_or (record_of h) length_word 0 ≡ h.len
  record-len = ap (λ (r : List ℕ). get_or r length_word 0) as_parts ∙ (parts_low h.len (top_of h) h.remainder heads counts fasts tails).0

  pub record-top : get_or (record_of h) top_word 0 ≡ top_of h
  record-top = ap (λ (r : List ℕ). get_or r top_word 0) as_parts ∙ (parts_low h.len (top_of h) h.remainder heads counts fasts tails).1

  pub record-remainder : get_or (record_of h) remainder_word 0 ≡ h.remainder
  record-remainder = ap (λ (r : List ℕ). get_or r remainder_word 0) as_parts ∙ (parts_low h.len (top_of h) h.remainder heads counts fasts tails).2

  pub record-cache_head : (k : ℕ) → k < 64 → get_or (record_of h) (cache_head k) 0 ≡ hd none32 (cache h k)
  unfolding heads
  record-cache_head k l =
      ap (λ (r : List ℕ). get_or r (cache_head k) 0) as_parts
      ∙ in-heads h.len (top_of h) h.remainder heads counts fasts tails k (omega (arith, heads64))
      ∙ get_d_map (λ (l : List ℕ). hd none32 l) (take cache_lists h.stacks) k (omega (arith, caches))
      ∙ ap (λ (l : List ℕ). hd none32 l) (get_or-take cache_lists h.stacks k [] l)

  pub record-cache_count : (k : ℕ) → k < 64 → get_or (record_of h) (cache_count k) 0 ≡ length (cache h k)
  unfolding counts
  record-cache_count k l =
      ap (λ (r : List ℕ). get_or r (cache_count k) 0) as_parts
      ∙ in-counts h.len (top_of h) h.remainder heads counts fasts tails k heads64 (omega (arith, counts64))
      ∙ get_d_map (λ (l : List ℕ). length l) (take cache_lists h.stacks) k (omega (arith, caches))
      ∙ ap (λ (l : List ℕ). length l) (get_or-take cache_lists h.stacks k [] l)

  pub record-fast_head : (k : ℕ) → k < 10 → get_or (record_of h) (fast_head k) 0 ≡ hd none32 (fast h k)
  unfolding fasts
  record-fast_head k l =
      ap (λ (r : List ℕ). get_or r (fast_head k) 0) as_parts
      ∙ in-fasts h.len (top_of h) h.remainder heads counts fasts tails k heads64 counts64 (omega (arith, fasts10))
      ∙ get_d_map (λ (l : List ℕ). hd none32 l) (drop cache_lists h.stacks) k (omega (arith, quick))
      ∙ ap (λ (l : List ℕ). hd none32 l) (get_or-drop cache_lists h.stacks k [])

  row : (m : ℕ) → get_or (drop 1 h.bins) m [] ≡ bin h (1 + m)
  row m = get_or-drop 1 h.bins m []

  pub record-bin_first : (j : ℕ) → 1 ≤ j → j ≤ 126 → get_or (record_of h) (bin_first j) 0 ≡ hd none32 (bin h j)
  unfolding tails
  record-bin_first j l m =
      let n : bin_first j ≡ 141 + 2 * (j - 1) = omega arith in
      let i : 1 + (j - 1) ≡ j = omega arith in
      ap (λ (r : List ℕ). get_or r (bin_first j) 0) as_parts
      ∙ ap (λ (x : ℕ). get_or (parts h.len (top_of h) h.remainder heads counts fasts tails) x 0) n
      ∙ in-ends h.len (top_of h) h.remainder heads counts fasts tails (2 * (j - 1)) heads64 counts64 fasts10
      ∙ get_or-append (ends (drop 1 h.bins)) (halves h.key ++ h.edition ∷ []) 0 (2 * (j - 1)) (omega (arith, ends252))
      ∙ ends-first (drop 1 h.bins) (j - 1) (omega (arith, rows))
      ∙ ap (λ (l : List ℕ). hd none32 l) (row (j - 1) ∙ ap (λ (x : ℕ). bin h x) i)

  pub record-bin_last : (j : ℕ) → 1 ≤ j → j ≤ 126 → get_or (record_of h) (bin_last j) 0 ≡ lst none32 (bin h j)
  unfolding tails
  record-bin_last j l m =
      let n : bin_last j ≡ 141 + suc (2 * (j - 1)) = omega arith in
      let i : 1 + (j - 1) ≡ j = omega arith in
      ap (λ (r : List ℕ). get_or r (bin_last j) 0) as_parts
      ∙ ap (λ (x : ℕ). get_or (parts h.len (top_of h) h.remainder heads counts fasts tails) x 0) n
      ∙ in-ends h.len (top_of h) h.remainder heads counts fasts tails (suc (2 * (j - 1))) heads64 counts64 fasts10
      ∙ get_or-append (ends (drop 1 h.bins)) (halves h.key ++ h.edition ∷ []) 0 (suc (2 * (j - 1))) (omega (arith, ends252))
      ∙ ends_last (drop 1 h.bins) (j - 1) (omega (arith, rows))
      ∙ ap (λ (l : List ℕ). lst none32 l) (row (j - 1) ∙ ap (λ (x : ℕ). bin h x) i)

  -- the key's halves and the edition stand behind the bins' ends
  in-key : (i : ℕ) → get_or (record_of h) (393 + i) 0 ≡ get_or (halves h.key ++ h.edition ∷ []) i 0
  unfolding tails
  in-key i =
      let n : 393 + i ≡ 141 + (252 + i) = omega arith in
      ap (λ (r : List ℕ). get_or r (393 + i) 0) as_parts
      ∙ ap (λ (x : ℕ). get_or (parts h.len (top_of h) h.remainder heads counts fasts tails) x 0) n
      ∙ in-ends h.len (top_of h) h.remainder heads counts fasts tails (252 + i) heads64 counts64 fasts10
      ∙ behind 252 (ends (drop 1 h.bins)) (halves h.key ++ h.edition ∷ []) i ends252

  pub record-words : Recorded h (record_of h)
  record-words = record {
    all = record-length;
    len = record-len;
    top = record-top;
    remainder = record-remainder;
    heads = record-cache_head;
    counts = record-cache_count;
    fasts = record-fast_head;
    firsts = record-bin_first;
    lasts = record-bin_last;
    low = in-key 0;
    high = in-key 1;
    edition = in-key 2;
  }

-- ---- what holds of each kind of word holds of each of the 396
record-cases : (P : ℕ → Type 0) → P length_word → P top_word → P remainder_word → ((k : ℕ) → k < 64 → P (cache_head k)) → ((k : ℕ) → k < 64 → P (cache_count k))
    → ((k : ℕ) → k < 10 → P (fast_head k)) → ((j : ℕ) → 1 ≤ j → j ≤ 126 → P (bin_first j)) → ((j : ℕ) → 1 ≤ j → j ≤ 126 → P (bin_last j)) → P key_low → P key_high → P edition_word → (i : ℕ) → i < 396 → P i
record-cases P a b c heads counts fasts firsts lasts kl kh ed i h =
    ⊎_elim (λ l. low i l)
    (λ l. ⊎_elim (λ m. at (cache_head (i - 3)) (omega arith) (heads (i - 3) (omega arith)))
    (λ m. ⊎_elim (λ n. at (cache_count (i - 67)) (omega arith) (counts (i - 67) (omega arith)))
    (λ n. ⊎_elim (λ o. at (fast_head (i - 131)) (omega arith) (fasts (i - 131) (omega arith)))
    (λ o. ⊎_elim (λ p. ⊎_elim (λ q. at (bin_first (1 + (i - 141) / 2)) (omega arith) (firsts (1 + (i - 141) / 2) (omega arith) (omega arith)))
    (λ q. at (bin_last (1 + (i - 141) / 2)) (omega arith) (lasts (1 + (i - 141) / 2) (omega arith) (omega arith)))
    (lt-or-le ((i - 141) % 2) 1))
    (λ p. ⊎_elim (λ q. at key_low (omega arith) kl) (λ q. ⊎_elim (λ r. at key_high (omega arith) kh) (λ r. at edition_word (omega arith) ed) (lt-or-le i 395)) (lt-or-le i 394))
    (lt-or-le i 393))
    (lt-or-le i 141)) (lt-or-le i 131)) (lt-or-le i 67)) (lt-or-le i 3)
  where
    at : (n : ℕ) → n ≡ i → P n → P i
    at n e p = subst P e p

    low : (n : ℕ) → n < 3 → P n
    low zero h = a
    low (suc zero) h = b
    low (suc (suc zero)) h = c
    low (suc (suc (suc n))) h = absurd (omega (arith, h))

pub record-ext : (h : Heap) (r : List ℕ) → length h.stacks ≡ 74 → length h.bins ≡ 127 → Recorded h r → r ≡ record_of h
record-ext h r s b k =
    let o = record-words h s b in
    ext_get_or 0 r (record_of h) (k.all ∙ sym o.all)
    (λ i l. record-cases (λ n. get_or r n 0 ≡ get_or (record_of h) n 0) (k.len ∙ sym o.len) (k.top ∙ sym o.top) (k.remainder ∙ sym o.remainder)
    (λ n l. k.heads n l ∙ sym (o.heads n l)) (λ n l. k.counts n l ∙ sym (o.counts n l)) (λ n l. k.fasts n l ∙ sym (o.fasts n l))
    (λ n l m. k.firsts n l m ∙ sym (o.firsts n l m)) (λ n l m. k.lasts n l m ∙ sym (o.lasts n l m)) (k.low ∙ sym o.low) (k.high ∙ sym o.high) (k.edition ∙ sym o.edition) i (omega (arith, k.all)))

-- ---- a part of the record is set
set-behind : (n : ℕ) (a b : List ℕ) (i v : ℕ) → length a ≡ n → set (a ++ b) (n + i) v ≡ a ++ set b i v
set-behind n a b i v e = rw (← e) (go a)
  where
    go : (a : List ℕ) → set (a ++ b) (length a + i) v ≡ a ++ set b i v
    go [] = ap (λ (k : ℕ). set b k v) (zero-add i)
    go (x ∷ a) = ap (λ (k : ℕ). set (x ∷ (a ++ b)) k v) (suc-add (length a) i) ∙ ap (λ (l : List ℕ). x ∷ l) (go a)

map-set : (f : List ℕ → ℕ) (ls : List (List ℕ)) (k : ℕ) (l : List ℕ) → map f (set ls k l) ≡ set (map f ls) k (f l)
map-set f [] k l = refl
map-set f (m ∷ ls) zero l = refl
map-set f (m ∷ ls) (suc k) l = ap (λ (z : List ℕ). f m ∷ z) (map-set f ls k l)

ends_set : (ls : List (List ℕ)) (m : ℕ) (l : List ℕ) → ends (set ls m l) ≡ set (set (ends ls) (2 * m) (hd none32 l)) (suc (2 * m)) (lst none32 l)
ends_set [] m l = refl
ends_set (n ∷ ls) zero l = refl
ends_set (n ∷ ls) (suc m) l =
    let e : 2 * suc m ≡ suc (suc (2 * m)) = omega arith in
    rw e (ap (λ (z : List ℕ). hd none32 n ∷ lst none32 n ∷ z) (ends_set ls m l))

module _ (x y z : ℕ) (a b c d : List ℕ) (v : ℕ) where
  set-heads : (k : ℕ) → k < length a → set (parts x y z a b c d) (3 + k) v ≡ parts x y z (set a k v) b c d
  unfolding parts
  set-heads k h = set-behind 3 (x ∷ y ∷ z ∷ []) (a ++ (b ++ (c ++ d))) k v refl ∙ ap (λ (l : List ℕ). x ∷ y ∷ z ∷ l) (set-append_left a (b ++ (c ++ d)) k v h)

  set-counts : (k : ℕ) → length a ≡ 64 → k < length b → set (parts x y z a b c d) (67 + k) v ≡ parts x y z a (set b k v) c d
  unfolding parts
  set-counts k e h =
      ap (λ (n : ℕ). set (parts x y z a b c d) n v) n ∙ set-behind 3 (x ∷ y ∷ z ∷ []) (a ++ (b ++ (c ++ d))) (64 + k) v refl
      ∙ ap (λ (l : List ℕ). x ∷ y ∷ z ∷ l) (set-behind 64 a (b ++ (c ++ d)) k v e ∙ ap (λ (l : List ℕ). a ++ l) (set-append_left b (c ++ d) k v h))
    where
      n : 67 + k ≡ 3 + (64 + k)
      n = omega arith

  set-fasts : (k : ℕ) → length a ≡ 64 → length b ≡ 64 → k < length c → set (parts x y z a b c d) (131 + k) v ≡ parts x y z a b (set c k v) d
  unfolding parts
  set-fasts k e f h =
      ap (λ (n : ℕ). set (parts x y z a b c d) n v) n ∙ set-behind 3 (x ∷ y ∷ z ∷ []) (a ++ (b ++ (c ++ d))) (64 + (64 + k)) v refl
      ∙ ap (λ (l : List ℕ). x ∷ y ∷ z ∷ l) (set-behind 64 a (b ++ (c ++ d)) (64 + k) v e
      ∙ ap (λ (l : List ℕ). a ++ l) (set-behind 64 b (c ++ d) k v f ∙ ap (λ (l : List ℕ). b ++ l) (set-append_left c d k v h)))
    where
      n : 131 + k ≡ 3 + (64 + (64 + k))
      n = omega arith

  set-ends : (k : ℕ) → length a ≡ 64 → length b ≡ 64 → length c ≡ 10 → set (parts x y z a b c d) (141 + k) v ≡ parts x y z a b c (set d k v)
  unfolding parts
  set-ends k e f g =
      ap (λ (n : ℕ). set (parts x y z a b c d) n v) n ∙ set-behind 3 (x ∷ y ∷ z ∷ []) (a ++ (b ++ (c ++ d))) (64 + (64 + (10 + k))) v refl
      ∙ ap (λ (l : List ℕ). x ∷ y ∷ z ∷ l) (set-behind 64 a (b ++ (c ++ d)) (64 + (10 + k)) v e
      ∙ ap (λ (l : List ℕ). a ++ l) (set-behind 64 b (c ++ d) (10 + k) v f ∙ ap (λ (l : List ℕ). b ++ l) (set-behind 10 c d k v g)))
    where
      n : 141 + k ≡ 3 + (64 + (64 + (10 + k)))
      n = omega arith

-- ---- a change of the heap changes its words only
module _ (h : Heap) (stacked : length h.stacks ≡ 74) (binned : length h.bins ≡ 127) where
  pub record-with_cache : (k : ℕ) (l : List ℕ) → k < 64 → record_of (with_stack k l h) ≡ set (set (record_of h) (cache_head k) (hd none32 l)) (cache_count k) (length l)
  unfolding heads counts fasts tails
  record-with_cache k l hk =
      let A = take cache_lists h.stacks in
      let a = map (λ (l : List ℕ). hd none32 l) A in
      let b = map (λ (l : List ℕ). length l) A in
      let c = fasts h stacked binned in
      let d = tails h stacked binned in
      let la = heads64 h stacked binned in
      as_parts (with_stack k l h) (length-set h.stacks k l ∙ stacked) binned
      ∙ rw (take-set-lt cache_lists h.stacks k l hk, drop-set-lt cache_lists h.stacks k l hk, map-set (λ (l : List ℕ). hd none32 l) A k l, map-set (λ (l : List ℕ). length l) A k l)
      (sym (set-counts h.len (top_of h) h.remainder (set a k (hd none32 l)) b c d (length l) k (length-set a k (hd none32 l) ∙ la) (omega (arith, counts64 h stacked binned))))
      ∙ ap (λ (r : List ℕ). set r (cache_count k) (length l)) (sym (set-heads h.len (top_of h) h.remainder a b c d (hd none32 l) k (omega (arith, la))))
      ∙ ap (λ (r : List ℕ). set (set r (cache_head k) (hd none32 l)) (cache_count k) (length l)) (sym (as_parts h stacked binned))

  pub record-with_fast : (k : ℕ) (l : List ℕ) → k < 10 → record_of (with_stack (fast_at k) l h) ≡ set (record_of h) (fast_head k) (hd none32 l)
  unfolding heads counts fasts tails
  record-with_fast k l hk =
      let C = drop cache_lists h.stacks in
      let c = map (λ (l : List ℕ). hd none32 l) C in
      as_parts (with_stack (fast_at k) l h) (length-set h.stacks (fast_at k) l ∙ stacked) binned
      ∙ rw (take-set-le cache_lists h.stacks (fast_at k) l (omega arith), drop-set-add cache_lists h.stacks k l, map-set (λ (l : List ℕ). hd none32 l) C k l)
      (sym (set-fasts h.len (top_of h) h.remainder (heads h stacked binned) (counts h stacked binned) c (tails h stacked binned) (hd none32 l) k
      (heads64 h stacked binned) (counts64 h stacked binned) (omega (arith, fasts10 h stacked binned))))
      ∙ ap (λ (r : List ℕ). set r (fast_head k) (hd none32 l)) (sym (as_parts h stacked binned))

  pub record-with_bin : (j : ℕ) (l : List ℕ) → 1 ≤ j → j ≤ 126 → record_of (with_bin j l h) ≡ set (set (record_of h) (bin_first j) (hd none32 l)) (bin_last j) (lst none32 l)
  unfolding heads counts fasts tails
  record-with_bin j l low high =
      let m = j - 1 in
      let i : j ≡ 1 + m = omega arith in
      let p : bin_first j ≡ 141 + 2 * m = omega arith in
      let q : bin_last j ≡ 141 + suc (2 * m) = omega arith in
      let D = drop 1 h.bins in
      let K = (halves h.key ++ h.edition ∷ []) in
      let e252 = ends252 h stacked binned in
      let a = heads h stacked binned in
      let b = counts h stacked binned in
      let c = fasts h stacked binned in
      let e64 = heads64 h stacked binned in
      let f64 = counts64 h stacked binned in
      let g10 = fasts10 h stacked binned in
      let P : List ℕ → List ℕ = parts h.len (top_of h) h.remainder a b c in
      as_parts (with_bin j l h) stacked (length-set h.bins j l ∙ binned)
      ∙ ap P (ap (λ (z : List ℕ). z ++ K) (ap (λ (n : ℕ). ends (drop 1 (set h.bins n l))) i ∙ ap ends (drop-set-add 1 h.bins m l) ∙ ends_set D m l)
      ∙ sym (set-append_left (set (ends D) (2 * m) (hd none32 l)) K (suc (2 * m)) (lst none32 l) (omega (arith, length-set (ends D) (2 * m) (hd none32 l), e252)))
      ∙ ap (λ (z : List ℕ). set z (suc (2 * m)) (lst none32 l)) (sym (set-append_left (ends D) K (2 * m) (hd none32 l) (omega (arith, e252)))))
      ∙ sym (set-ends h.len (top_of h) h.remainder a b c (set (ends D ++ K) (2 * m) (hd none32 l)) (lst none32 l) (suc (2 * m)) e64 f64 g10)
      ∙ ap (λ (r : List ℕ). set r (141 + suc (2 * m)) (lst none32 l)) (sym (set-ends h.len (top_of h) h.remainder a b c (ends D ++ K) (hd none32 l) (2 * m) e64 f64 g10))
      ∙ rw (p, q) (ap (λ (r : List ℕ). set (set r (141 + 2 * m) (hd none32 l)) (141 + suc (2 * m)) (lst none32 l)) (sym (as_parts h stacked binned)))

pub record-with_tiles : (h : Heap) (ts : List Tile) → record_of (with_tiles ts h) ≡ set (record_of h) top_word (end_from 0 ts)
unfolding record_of
record-with_tiles h ts = refl

pub record-with_remainder : (h : Heap) (c : ℕ) → record_of (with_remainder c h) ≡ set (record_of h) remainder_word c
unfolding record_of
record-with_remainder h c = refl

-- a word that has its value need not be written
pub set-id : (r : List ℕ) (i v : ℕ) → get_or r i 0 ≡ v → set r i v ≡ r
set-id r i v e = ap (set r i) (sym e) ∙ set-get_or r i 0

-- other tiles that end where the heap's own do leave the record as it is
pub record-tiles : (h : Heap) (ts : List Tile) → Shape h → end_from 0 ts ≡ top_of h → record_of (with_tiles ts h) ≡ record_of h
record-tiles h ts s e = record-with_tiles h ts ∙ set-id (record_of h) top_word (end_from 0 ts) (record-top h s.stacked74 s.binned127 ∙ sym e)
