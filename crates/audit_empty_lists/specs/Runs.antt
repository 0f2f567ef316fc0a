-- Runs of empty lists: a list is empty by its words, several are by all their words at once, and one run continues another. Assumes nothing.
use Rattle.std.specs.Prelude.{◌≡◌, refl, List, Bool, true, false, ℕ, ◌+◌, ◌-◌, ◌*◌, ◌≤◌, ◌<◌, ltb, get_or}
use Rattle.std.proofs.Common.{sym, subst, ⊎_elim, add_assoc, arith, eq-eqb, lt-ltb, le-ltb, ltb-true, ltb-false}
use Rattle.sizes.specs.Limits.{none64, none32}
use Rattle.sizes.specs.Layout.{cache_head, cache_count, fast_head, bin_first, bin_last}
use Rattle.machine.specs.Count.{eq?}
use Rattle.machine.specs.View.{up, kind_at}
use Rattle.machine.specs.declared.ListKind.TheVariants.{Cache, Fast, Bin}
use Rattle.audit_empty_lists.specs.Skips.{AllFrom, Empty, Skipped}

-- ---- a list's number, known: it is empty by its words
up_none : (v : ℕ) → v ≡ none32 → up v ≡ none64
up_none v e = rw (eq-eqb v none32 e, up)

cache-empty : (r : List ℕ) (i : ℕ) → i < 64 → get_or r (cache_head i) 0 ≡ none32 → get_or r (cache_count i) 0 ≡ 0 → Empty r (kind_at i)
cache-empty r i l h e =
    let k : kind_at i ≡ Cache i = rw (lt-ltb i 64 l, kind_at) in
    subst (Empty r) (sym k) (up_none (get_or r (cache_head i) 0) h, eq-eqb _ _ e)

fast-empty : (r : List ℕ) (i : ℕ) → 64 ≤ i → i < 74 → get_or r (fast_head (i - 64)) 0 ≡ none32 → Empty r (kind_at i)
fast-empty r i g l h =
    let k : kind_at i ≡ Fast (i - 64) = rw (le-ltb i 64 g, kind_at) (rw (lt-ltb i 74 l)) in
    subst (Empty r) (sym k) (up_none (get_or r (fast_head (i - 64)) 0) h, refl)

bin-empty : (r : List ℕ) (i : ℕ) → 74 ≤ i → get_or r (bin_first (i - 73)) 0 ≡ none32 → get_or r (bin_last (i - 73)) 0 ≡ none32 → Empty r (kind_at i)
bin-empty r i g h e =
    let k : kind_at i ≡ Bin (i - 73) = rw (le-ltb i 64 (omega arith), kind_at) (rw (le-ltb i 74 g)) in
    subst (Empty r) (sym k) (up_none (get_or r (bin_first (i - 73)) 0) h, eq-eqb (up (get_or r (bin_last (i - 73)) 0)) none64 (up_none (get_or r (bin_last (i - 73)) 0) e))

-- ---- a run of empty lists: none yet, one more, one run after the other
pub skipped-none : (r : List ℕ) (i : ℕ) → i ≤ 200 → Skipped r i i
skipped-none r i h = record { low = omega arith; high = h; empty = λ x p q. absurd (omega arith) }

skipped-one : (r : List ℕ) (i j : ℕ) → j < 200 → Skipped r i j → Empty r (kind_at j) → Skipped r i (j + 1)
skipped-one r i j h s e = record {
  low = omega (arith, s.low);
  high = omega arith;
  empty = λ x p q. ⊎_elim (λ (z : x ≡ j). subst (λ (y : ℕ). Empty r (kind_at y)) (sym z) e) (λ (z : x ≡ j → ⊥). s.empty x p (omega (arith, z))) (eq? x j);
}

pub skipped-then : (r : List ℕ) (i j k : ℕ) → Skipped r i j → Skipped r j k → Skipped r i k
skipped-then r i j k s t = record {
  low = omega (arith, s.low, t.low);
  high = t.high;
  empty = λ x p q. go x p q (ltb x j) refl;
}
  where
    go : (x : ℕ) → i ≤ x → x < k → (b : Bool) → ltb x j ≡ b → Empty r (kind_at x)
    go x p q true e = s.empty x p (ltb-true x j e)
    go x p q false e = t.empty x (ltb-false x j e) q

pub skipped-cache : (r : List ℕ) (i j : ℕ) → j < 64 → Skipped r i j → get_or r (cache_head j) 0 ≡ none32 → get_or r (cache_count j) 0 ≡ 0 → Skipped r i (j + 1)
skipped-cache r i j l s h e = skipped-one r i j (omega arith) s (cache-empty r j l h e)

pub skipped-fast : (r : List ℕ) (i j : ℕ) → 64 ≤ j → j < 74 → Skipped r i j → get_or r (fast_head (j - 64)) 0 ≡ none32 → Skipped r i (j + 1)
skipped-fast r i j g l s h = skipped-one r i j (omega arith) s (fast-empty r j g l h)

-- a bin is told by its own number, which is 73 below the list's
pub skipped-no-bin : (r : List ℕ) (i b : ℕ) → 74 ≤ i → i ≤ 200 → b ≡ i - 73 → Skipped r i (b + 73)
skipped-no-bin r i b g l e = let z : b + 73 ≡ i = omega (arith, g, e) in subst (λ (j : ℕ). Skipped r i j) (sym z) (skipped-none r i l)

pub skipped-bin : (r : List ℕ) (i b first last : ℕ) → 1 ≤ b → b ≤ 126 → first ≡ bin_first b → last ≡ bin_last b → Skipped r i (b + 73)
    → get_or r first 0 ≡ none32 → get_or r last 0 ≡ none32 → Skipped r i (b + 1 + 73)
skipped-bin r i b first last g l p q s h t =
    let z : b + 73 - 73 ≡ b = omega arith in
    let n : b + 73 + 1 ≡ b + 1 + 73 = omega arith in
    let e = bin-empty r (b + 73) (omega (arith, g)) (rw (z, ← p) h) (rw (z, ← q) t) in
    subst (λ (j : ℕ). Skipped r i j) n (skipped-one r i (b + 73) (omega (arith, l)) s e)

-- several at once
skipped-run : (r : List ℕ) (i j n : ℕ) → j + n ≤ 200 → Skipped r i j → ((k : ℕ) → k < n → Empty r (kind_at (j + k))) → Skipped r i (j + n)
skipped-run r i j n h s e = skipped-then r i j (j + n) s (record {
  low = omega arith;
  high = h;
  empty = λ x p q. let z : j + (x - j) ≡ x = omega (arith, p) in rw z at (e (x - j) (omega (arith, p, q)));
})

pub skipped-caches : (r : List ℕ) (i j : ℕ) → j + 8 ≤ 64 → Skipped r i j → AllFrom r (cache_head j) 8 none32 → AllFrom r (cache_count j) 8 0 → Skipped r i (j + 8)
skipped-caches r i j l s h e =
    skipped-run r i j 8 (omega (arith, l)) s
    (λ k q. cache-empty r (j + k) (omega (arith, l, q)) (rw (← add_assoc 3 j k) (h k q)) (rw (← add_assoc 67 j k) (e k q)))

pub skipped-fasts : (r : List ℕ) (i : ℕ) → i ≡ 64 → AllFrom r (fast_head 0) 8 none32 → Skipped r i (i + 8)
skipped-fasts r i e h = skipped-run r i i 8 (omega (arith, e)) (skipped-none r i (omega (arith, e))) (λ k q.
    let z : fast_head 0 + k ≡ fast_head (i + k - 64) = omega (arith, e) in
    fast-empty r (i + k) (omega (arith, e)) (omega (arith, e, q)) (rw z at (h k q)))

pub skipped-four : (r : List ℕ) (i b f : ℕ) → 1 ≤ b → b + 4 ≤ 127 → f ≡ bin_first b → Skipped r i (b + 73) → AllFrom r f 8 none32 → Skipped r i (b + 4 + 73)
skipped-four r i b f g l e s h =
    let n : b + 73 + 4 ≡ b + 4 + 73 = omega arith in
    subst (λ (j : ℕ). Skipped r i j) n (skipped-run r i (b + 73) 4 (omega (arith, l)) s (λ k q.
    let first : f + 2 * k ≡ bin_first (b + 73 + k - 73) = omega (arith, e) in
    let last : f + (2 * k + 1) ≡ bin_last (b + 73 + k - 73) = omega (arith, e) in
    bin-empty r (b + 73 + k) (omega (arith, g)) (rw first at (h (2 * k) (omega (arith, q)))) (rw last at (h (2 * k + 1) (omega (arith, q))))))
