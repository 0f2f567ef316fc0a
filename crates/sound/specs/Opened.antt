-- The opened heap is sound, and has its words over any first contents of the arena. Its lists are all empty. Assumes nothing.
use Rattle.std.specs.Prelude.{◌≡◌, refl, ◌⊎◌, List, [], ◌∷◌, ℕ, zero, suc, ◌+◌, ◌-◌, ◌*◌, ◌%◌, ◌≤◌, ◌<◌, ◌^◌, length, get_or, set, replicate}
use Rattle.std.proofs.Common.{sym, ◌∙◌, subst, not-suc-le-zero, arith, length-set, get_or-set_same}
use Rattle.sizes.specs.Limits.{none64, plain, mixed}
use Rattle.sizes.specs.Sizes.{bin_of}
use Rattle.sizes.specs.Layout.{key_word}
use Rattle.machine.specs.Lists.{cnt, cnt_all}
use Rattle.machine.specs.Heap.{size_of, opened}
use Rattle.machine.specs.Writes.{apply, size}
use Rattle.sound.specs.Relation.{chain_by, links, Mem, falls, stack_size, Good, stand}
use Rattle.sound.specs.Rings.{kind-case}
use Rattle.machine.specs.Skips.{skips}

get_d-none : (n k : ℕ) → get_or {A = List ℕ} (replicate n []) k [] ≡ []
get_d-none zero k = refl
get_d-none (suc n) zero = refl
get_d-none (suc n) (suc k) = get_d-none n k

-- no chunk is in any of them
pub cnt_all-none : (n x : ℕ) → cnt_all x (replicate n []) ≡ 0
cnt_all-none zero x = refl
cnt_all-none (suc n) x = omega (arith, cnt_all-none n x)

-- whatever holds of the empty list holds of each
pub of_none : (n k : ℕ) (P : List ℕ → Type 0) → P [] → P (get_or (replicate n []) k [])
of_none n k P p = subst P (sym (get_d-none n k)) p

opened-good : (n q d : ℕ) → n % 16 ≡ 0 → 32 ≤ n → n ≤ 262144 → Good (opened n q d)
opened-good n q d e l m = record {
  shape = record {
    small = m;
    sizes = (omega arith, omega arith, omega arith, tt);
    stacked74 = refl;
    binned127 = refl;
    own =
        λ x. omega (arith, cnt_all-none 74 x, cnt_all-none 127 x);
    roomy = λ j x p. of_none 127 j (λ l. 1 ≤ cnt x l → 1024 ≤ size_of (opened n q d) x) (λ i. absurd (not-suc-le-zero i));
  };
  homes = record {
    stacked = λ k x. of_none 74 k (λ l. 1 ≤ cnt x l → size_of (opened n q d) x ≡ stack_size k) (λ i. absurd (not-suc-le-zero i));
    quick = λ k x p. of_none 74 k (λ l. 1 ≤ cnt x l → size_of (opened n q d) x ≤ 128) (λ i. absurd (not-suc-le-zero i));
    short = λ k p. of_none 74 k (λ l. length l ≤ 7) (omega arith);
    none = refl;
    sorted = λ j x p. of_none 127 j (λ l. 1 ≤ cnt x l → bin_of (size_of (opened n q d) x) ≡ j) (λ i. absurd (not-suc-le-zero i));
    falling = λ j p. of_none 127 j (λ l. falls (λ x. size_of (opened n q d) x) l) tt;
  };
  flag = (omega arith, omega (arith, cnt_all-none 127 0), ((λ z. absurd (omega (arith, z))), λ z. refl), tt);
}

opened-mem : (n q d : ℕ) (w : List ℕ) → q < 2 ^ 64 → (d ≡ plain) ⊎ (d ≡ mixed) → 8 * length w ≡ n → n % 16 ≡ 0 → 32 ≤ n → Mem (opened n q d) (apply (size 0 n 1 ∷ []) w)
opened-mem n q d w b ed e m l = record {
  long = rw (length-set w 1 (n + 1)) e;
  words = (first, (λ z. absurd (omega (arith, z))), tt);
  chains = λ k. of_none 74 k (chain_by d (set w 1 (n + 1))) tt;
  blinks = λ j. of_none 127 j (λ l. links (set w 1 (n + 1)) none64 l none64) tt;
  keys = λ z k x p. of_none 74 k (λ l. 1 ≤ cnt x l → get_or (set w 1 (n + 1)) (key_word x) 0 ≡ q) (λ i. absurd (not-suc-le-zero i));
  key64 = b;
  edited = ed;
  skipped = λ z j. of_none 127 j (λ l. stand (skips j (λ x. size_of (opened n q d) x) l) (set w 1 (n + 1)))
      (kind-case (λ ws. stand ws (set w 1 (n + 1))) j [] [] (λ z. tt) (λ z. tt) tt);
}
  where
    first : get_or (set w 1 (n + 1)) 1 0 ≡ n - 0 + 1
    first = let e1 : n + 1 ≡ n - 0 + 1 = omega arith in get_or-set_same w 1 (n + 1) 0 (omega arith) ∙ e1

pub opened-ends : (n q d : ℕ) (w : List ℕ) → q < 2 ^ 64 → (d ≡ plain) ⊎ (d ≡ mixed) → n % 16 ≡ 0 → 32 ≤ n → n ≤ 262144 → 8 * length w ≡ n
    → Good (opened n q d) × Mem (opened n q d) (apply (size 0 n 1 ∷ []) w)
opened-ends n q d w b ed e l m z = (opened-good n q d e l m, opened-mem n q d w b ed z e l)
