-- Where one cache list alone changed: which of the record's words may differ, and what the record's bytes are when these are written. Assumes nothing.
use Rattle.std.specs.Prelude.{◌≡◌, List, ℕ, ◌*◌, ◌^◌, ◌<◌, length, get_or, set}
use Rattle.std.proofs.Common.{sym, ap, ◌∙◌, arith}
use Rattle.le.specs.Number.{put, bytes}
use Rattle.le.specs.NumberLaws.{length-put}
use Rattle.le.specs.WordsLaws.{words-put, bytes-words}
use Rattle.sizes.specs.Limits.{cache_lists}
use Rattle.sizes.specs.Layout.{cache_head, cache_count}
use Rattle.machine.specs.Calls.{words_of}
use Rattle.record_words.specs.declared.Changed.{Changed}
use Rattle.record_words.specs.declared.Changed.TheVariants.{CacheList, Any}

-- the words p are the words q but for head and count of cache list k
abbrev pub CacheOnly : ℕ → List ℕ → List ℕ → Type 0
CacheOnly k q p = p ≡ set (set q (cache_head k) (get_or p (cache_head k) 0)) (cache_count k) (get_or p (cache_count k) 0)

-- what a step changed in the words q, which are p now
abbrev pub Changes : Changed → List ℕ → List ℕ → Type 0
Changes (CacheList k) q p = (k < cache_lists) × CacheOnly k q p
Changes Any q p = Unit {0}

-- the record's bytes when these two words were written: r before, v after
pub cache-only-bytes : (k : ℕ) (r p v : List ℕ) → length r ≡ 1584 → k < 64 → CacheOnly k (words_of r) p
    → get_or p (cache_head k) 0 < 2 ^ 32 → get_or p (cache_count k) 0 < 2 ^ 32 → ((i : ℕ) → get_or v i 0 < 256)
    → v ≡ put 4 (put 4 r (4 * cache_head k) (get_or p (cache_head k) 0)) (4 * cache_count k) (get_or p (cache_count k) 0) → v ≡ bytes 4 p
cache-only-bytes k r p v n hk o x y small e =
    let u : List ℕ = put 4 r (4 * cache_head k) (get_or p (cache_head k) 0) in
    let m : length u ≡ 1584 = length-put 4 r (4 * cache_head k) (get_or p (cache_head k) 0) ∙ n in
    let l : length v ≡ 1584 = ap length e ∙ length-put 4 u (4 * cache_count k) (get_or p (cache_count k) 0) ∙ m in
    sym (bytes-words 4 396 v l small)
    ∙ ap (bytes 4) (ap words_of e
    ∙ words-put 4 396 u (cache_count k) (get_or p (cache_count k) 0) (omega arith) (omega (arith, m)) y
    ∙ ap (λ (q : List ℕ). set q (cache_count k) (get_or p (cache_count k) 0)) (words-put 4 396 r (cache_head k) (get_or p (cache_head k) 0) (omega arith) (omega (arith, n)) x)
    ∙ sym o)
