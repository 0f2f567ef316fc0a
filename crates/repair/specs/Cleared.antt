-- Words of the record that become one value, and the record that has no list: a heap's record by its words, which are none, 0, or those that were there.
-- Assumes nothing.
use Rattle.std.specs.Prelude.{◌≡◌, refl, List, [], ℕ, ◌+◌, ◌-◌, ◌^◌, ◌≤◌, ◌<◌, length, get_or, set, replicate}
use Rattle.std.proofs.Common.{rules, sym, ap, ◌∙◌, ⊎_elim, arith, length-set, get_or-set_same, get_or-set_other}
use Rattle.std.proofs.lemmas.List.{length-replicate, get_or-replicate, places}
use borrow.Rule.Slice.PartMut.{put_mid}
use Rattle.sizes.specs.Limits.{none32}
use Rattle.sizes.specs.Layout.{top_word, remainder_word, cache_head, cache_count, fast_head, bin_first, bin_last, key_low}
use Rattle.machine.specs.Lists.{hd, lst}
use Rattle.machine.specs.Count.{eq?}
use Rattle.machine.specs.Heap.{Heap, fast_at, stack, bin, record_of}
use Rattle.sound.specs.RecordOf.{record-ext}
use Rattle.repair.specs.Told.{Bare}

-- s is r with the words from i up to j made v
pub record Filled (i j v : ℕ) (r s : List ℕ) : Type 0 where
  pub long : length s ≡ length r
  pub inside : (n : ℕ) → i ≤ n → n < j → get_or s n 0 ≡ v
  pub below : (n : ℕ) → n < i → get_or s n 0 ≡ get_or r n 0
  pub above : (n : ℕ) → j ≤ n → get_or s n 0 ≡ get_or r n 0

pub filled_none : (i v : ℕ) (r : List ℕ) → Filled i i v r r
filled_none i v r = record { long = refl; inside = λ n l m. absurd (omega arith); below = λ n l. refl; above = λ n l. refl }

pub filled_more : (i k v : ℕ) (r s : List ℕ) → i ≤ k → k < length r → Filled i k v r s → Filled i (k + 1) v r (set s k v)
filled_more i k v r s l m f = record {
  long = length-set s k v ∙ f.long;
  inside = λ n a b. ⊎_elim
      (λ e. ap (λ (x : ℕ). get_or (set s k v) x 0) e ∙ get_or-set_same s k v 0 (omega (arith, f.long)))
      (λ d. get_or-set_other s k n v 0 d ∙ f.inside n a (omega arith))
      (eq? n k);
  below = λ n a. get_or-set_other s k n v 0 (λ z. omega arith) ∙ f.below n a;
  above = λ n a. get_or-set_other s k n v 0 (λ z. omega arith) ∙ f.above n (omega arith);
}

-- the words from i up to j, all at once
pub filled_all : (i j v : ℕ) (r : List ℕ) → i ≤ j → j ≤ length r → Filled i j v r (put_mid i (j - i) r (replicate (j - i) v))
filled_all i j v r l m = record {
  long = search (rules, places);
  inside = λ n a b. search (rules, places);
  below = λ n a. search (rules, places);
  above = λ n a. search (rules, places);
}

-- ---- all from the last remainder up to the key none, then the counts 0, then the top t
module _ (r s u : List ℕ) (t : ℕ) (all : length r ≡ 396) (f : Filled remainder_word key_low none32 r s) (g : Filled (cache_count 0) (fast_head 0) 0 s u) where
  -- a word but the top's, before or behind the counts
  before : (n : ℕ) → n < cache_count 0 → (n ≡ top_word → ⊥) → get_or (set u top_word t) n 0 ≡ get_or s n 0
  before n l d = get_or-set_other u top_word n t 0 d ∙ g.below n l

  behind : (n : ℕ) → fast_head 0 ≤ n → get_or (set u top_word t) n 0 ≡ get_or s n 0
  behind n l = get_or-set_other u top_word n t 0 (λ z. omega arith) ∙ g.above n l

  pub cleared : get_or r key_low 0 < 2 ^ 32 → (h : Heap) → Bare h r t → set u top_word t ≡ record_of h
  cleared low h b = record-ext h (set u top_word t) (ap length b.stacks ∙ length-replicate {A = List ℕ} 74 []) (ap length b.bins ∙ length-replicate {A = List ℕ} 127 []) (record {
    all = length-set u top_word t ∙ g.long ∙ f.long ∙ all;
    len = before 0 (omega arith) (λ z. omega arith) ∙ f.below 0 (omega arith) ∙ sym b.long;
    top = get_or-set_same u top_word t 0 (omega (arith, g.long, f.long)) ∙ sym b.top;
    remainder = before 2 (omega arith) (λ z. omega arith) ∙ f.inside 2 (omega arith) (omega arith) ∙ sym b.remainder;
    heads = λ k l. before (cache_head k) (omega arith) (λ z. omega arith) ∙ f.inside (cache_head k) (omega arith) (omega arith)
        ∙ sym (ap (hd none32) (no_stack k (omega arith)));
    counts = λ k l. get_or-set_other u top_word (cache_count k) t 0 (λ z. omega arith) ∙ g.inside (cache_count k) (omega arith) (omega arith)
        ∙ sym (ap length (no_stack k (omega arith)));
    fasts = λ k l. behind (fast_head k) (omega arith) ∙ f.inside (fast_head k) (omega arith) (omega arith) ∙ sym (ap (hd none32) (no_stack (fast_at k) (omega arith)));
    firsts = λ j l m. behind (bin_first j) (omega arith) ∙ f.inside (bin_first j) (omega arith) (omega arith) ∙ sym (ap (hd none32) (no-bin j (omega arith)));
    lasts = λ j l m. behind (bin_last j) (omega arith) ∙ f.inside (bin_last j) (omega arith) (omega arith) ∙ sym (ap (lst none32) (no-bin j (omega arith)));
    low = behind 393 (omega arith) ∙ f.above 393 (omega arith) ∙ omega (arith, b.key);
    high = behind 394 (omega arith) ∙ f.above 394 (omega arith) ∙ omega (arith, b.key);
    edition = behind 395 (omega arith) ∙ f.above 395 (omega arith) ∙ sym b.edition;
  })
    where
      no_stack : (k : ℕ) → k < 74 → stack h k ≡ []
      no_stack k l = ap (λ (x : List (List ℕ)). get_or x k []) b.stacks ∙ get_or-replicate 74 k [] [] l

      no-bin : (j : ℕ) → j < 127 → bin h j ≡ []
      no-bin j l = ap (λ (x : List (List ℕ)). get_or x j []) b.bins ∙ get_or-replicate 127 j [] [] l
