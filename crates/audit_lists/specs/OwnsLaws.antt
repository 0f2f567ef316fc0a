-- The sizes that each list owns, and what a size between the bounds, below or above them tells. A bin's are those of BinSizes. Assumes nothing.
use Rattle.std.specs.Prelude.{◌≡◌, refl, Bool, true, false, ℕ, ◌+◌, ◌-◌, ◌*◌, ◌≤◌, ◌<◌, ◌^◌, eqb, leb}
use Rattle.std.proofs.Common.{sym, ap, ◌∙◌, subst, arith, eqb-true, eq-eqb, ne_eqb, leb-true, le-leb}
use Rattle.std.proofs.lemmas.Bool.{lt-leb}
use Rattle.sizes.specs.Sizes.{bin_of}
use Rattle.sizes.specs.BinSizes.{least_of, least_of-comes, bin_of-between, between-of-bin_of}
use Rattle.machine.specs.Lists.{both, either}
use Rattle.machine.specs.declared.ListKind.{ListKind}
use Rattle.machine.specs.declared.ListKind.TheVariants.{Cache, Fast, Bin}
use Rattle.sound.specs.Release.{both_true}
use Rattle.audit_lists.specs.Owns.{own_size, Owns}

-- two tests that are passed by the same sizes
same_test : (x y : Bool) → (x ≡ true → y ≡ true) → (y ≡ true → x ≡ true) → x ≡ y
same_test true y f g = sym (f refl)
same_test false true f g = g refl
same_test false false f g = refl

between-true : (l m s : ℕ) → l ≤ s → s ≤ m → both (leb l s) (leb s m) ≡ true
between-true l m s p q = rw (le-leb l s p, both) (le-leb s m q)

true-between : (l m s : ℕ) → both (leb l s) (leb s m) ≡ true → (l ≤ s) × (s ≤ m)
true-between l m s e = let t = both_true (leb l s) (leb s m) e in (leb-true l s t.0, leb-true s m t.1)

-- ---- the lists
pub cache-owns : (j o : ℕ) → o ≡ 32 + 16 * j → Owns (Cache j) o o
cache-owns j o e s b = same_test (eqb s (32 + 16 * j)) (both (leb o s) (leb s o))
    (λ t. let z = eqb-true s (32 + 16 * j) t in between-true o o s (omega arith) (omega arith))
    (λ t. let z = true-between o o s t in eq-eqb s (32 + 16 * j) (omega arith))

pub fast-owns : (j o : ℕ) → o ≡ 32 + 16 * j → o ≤ 128 → Owns (Fast j) o o
fast-owns j o e h s b = same_test (both (eqb s (32 + 16 * j)) (leb s 128)) (both (leb o s) (leb s o))
    (λ t. let z = eqb-true s (32 + 16 * j) (both_true (eqb s (32 + 16 * j)) (leb s 128) t).0 in between-true o o s (omega arith) (omega arith))
    (λ t. let z = true-between o o s t in rw (eq-eqb s (32 + 16 * j) (omega arith), both) (le-leb s 128 (omega arith)))

pub fast-owns-none : (j o : ℕ) → o ≡ 32 + 16 * j → 128 < o → Owns (Fast j) o 128
fast-owns-none j o e h s b = same_test (both (eqb s (32 + 16 * j)) (leb s 128)) (both (leb o s) (leb s 128))
    (λ t. let z = both_true (eqb s (32 + 16 * j)) (leb s 128) t in absurd (omega (arith, eqb-true s (32 + 16 * j) z.0, leb-true s 128 z.1)))
    (λ t. let z = true-between o 128 s t in absurd (omega arith))

pub unsorted-owns : (j : ℕ) → j ≡ 1 → Owns (Bin j) 0 18446744073709551615
unsorted-owns j e s b = rw (eq-eqb j 1 e, either) (sym (between-true 0 18446744073709551615 s (omega arith) (omega arith)))

-- the sizes of another bin that are at most m are those below the next bin's
bin-owns : (j l m : ℕ) → 2 ≤ j → j ≤ 126 → l ≡ least_of j
    → ((s : ℕ) → s < 2 ^ 64 → (s ≤ m → j < 126 → s < least_of (j + 1)) × ((j < 126 → s < least_of (j + 1)) → s ≤ m)) → Owns (Bin j) l m
bin-owns j l m two last e f s b = rw (ne_eqb j 1 (λ z. omega arith), either) (same_test (eqb (bin_of s) j) (both (leb l s) (leb s m))
    (λ t. let z = between-of-bin_of j s two (eqb-true (bin_of s) j t) in between-true l m s (omega (arith, z.0)) ((f s b).1 z.1))
    (λ t. let z = true-between l m s t in eq-eqb (bin_of s) j (bin_of-between j s two last (omega (arith, z.0)) ((f s b).0 z.1))))

pub middle-owns : (j l m : ℕ) → 2 ≤ j → j < 126 → l ≡ least_of j → m ≡ least_of (j + 1) - 1 → Owns (Bin j) l m
middle-owns j l m two h e g = bin-owns j l m two (omega arith) e (λ s b. (λ q _. omega (arith, (least_of-comes (j + 1)).0), λ q. omega (arith, q h)))

pub last-owns : (j l : ℕ) → j ≡ 126 → l ≡ least_of j → Owns (Bin j) l 18446744073709551615
last-owns j l h e = bin-owns j l 18446744073709551615 (omega arith) (omega arith) e (λ s b. (λ q g. absurd (omega arith), λ q. omega arith))

-- a list's kind, known
pub owns-by : (k k' : ListKind) (l m : ℕ) → k ≡ k' → Owns k' l m → Owns k l m
owns-by k k' l m e o = subst (λ (z : ListKind). Owns z l m) (sym e) o

-- ---- a size
module _ (k : ListKind) (l m s : ℕ) (o : Owns k l m) (b : s < 2 ^ 64) where
  pub own-between : l ≤ s → s ≤ m → own_size k s ≡ true
  own-between p q = o s b ∙ between-true l m s p q

  pub own_below : s < l → own_size k s ≡ false
  own_below p = o s b ∙ rw (lt-leb l s p, both)

  pub own-above : m < s → own_size k s ≡ false
  own-above p = o s b ∙ ap (both (leb l s)) (lt-leb s m p) ∙ none (leb l s)
    where
      none : (t : Bool) → both t false ≡ false
      none true = refl
      none false = refl
