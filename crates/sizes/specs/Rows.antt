-- The rows one by one, as the code reads them: a turn of the search over row i is a turn of the definition over the rows from i on, and a bin's least size
-- lies on the first line that has the bin. Assumes nothing.
use Rattle.std.specs.Prelude.{◌≡◌, refl, Bool, true, false, Option, Some, None, List, ◌∷◌, ℕ, zero, suc, ◌+◌, ◌-◌, ◌*◌, ◌/◌, ◌≤◌, ◌<◌, ◌^◌, max, leb, get_or, drop}
use Rattle.std.proofs.Common.{sym, ◌∙◌, ap, arith, add-one, drop-cons, leb-true, leb-false}
use Rattle.std.proofs.Math.Path.{subst⁻¹}
use Rattle.sizes.specs.declared.bins.Row.{Row}
use Rattle.sizes.specs.Sizes.{rows, first_line}
use Rattle.sizes.specs.BinSizes.{least_of, least_of-comes, least_of-is}

-- row i of some rows, and of the five
abbrev pub row_of : List Row → ℕ → Row
row_of rs i = get_or rs i (record { divisor = 0; limit = 0; base = 0 })

abbrev pub row_at : ℕ → Row
row_at i = row_of rows i

-- what is read as row i of rows that are these five
pub row-read : (i : ℕ) {rs : List Row} → rs ≡ rows → row_of rs i ≡ row_at i
row-read i e = rw e refl

-- the bin that a line gives, where it applies
abbrev pub bin_on : Row → ℕ → Option ℕ
bin_on r s = elim (leb (s / r.divisor) r.limit) [ true ↦ Some (r.base + s / r.divisor) | false ↦ None ]

-- the least size of bin k on a line that begins at b, where the line has the bin
abbrev pub least_on : Row → ℕ → ℕ → Option ℕ
least_on r b k = elim (leb k (r.base + r.limit)) [ true ↦ Some (max b (r.divisor * (k - r.base))) | false ↦ None ]

rows_at : (i : ℕ) {r : Row} → i < 5 → r ≡ row_at i → drop i rows ≡ r ∷ drop (i + 1) rows
rows_at i h e = rw (add-one, e) (drop-cons rows i _ h)

-- what holds of each of the five holds of row i
each : (P : ℕ → Type 0) → P 0 → P 1 → P 2 → P 3 → P 4 → (i : ℕ) → i < 5 → P i
each P a b c d e zero h = a
each P a b c d e (suc zero) h = b
each P a b c d e (suc (suc zero)) h = c
each P a b c d e (suc (suc (suc zero))) h = d
each P a b c d e (suc (suc (suc (suc zero)))) h = e
each P a b c d e (suc (suc (suc (suc (suc i))))) h = absurd (omega arith)

-- a row divides, its bins are bins, and neither its end nor a bin's number times its divisor overflows
abbrev RowBounds : Row → Type 0
RowBounds r = (0 < r.divisor) × (0 < r.base) × (r.base + r.limit ≤ 126) × (r.divisor * (r.limit + 1) < 2 ^ 64) × (r.divisor * 126 < 2 ^ 64)

pub row-bounds : (i : ℕ) {r : Row} → i < 5 → r ≡ row_at i → RowBounds r
row-bounds i h e = subst⁻¹ RowBounds e (each (λ k. RowBounds (row_at k)) (omega arith) (omega arith) (omega arith) (omega arith) (omega arith) i h)

-- ---- the bin: a line that applies ends the search, another leaves it to the lines after

applies : (t : Bool) (x y b : ℕ) → elim t as (λ _. Option ℕ) [ true ↦ Some x | false ↦ None ] ≡ Some b → elim t as (λ _. ℕ) [ true ↦ x | false ↦ y ] ≡ b
applies true x y b e = cc
applies false x y b e = absurd cc

passes : (t : Bool) (x y : ℕ) → elim t as (λ _. Option ℕ) [ true ↦ Some x | false ↦ None ] ≡ None → elim t as (λ _. ℕ) [ true ↦ x | false ↦ y ] ≡ y
passes true x y e = absurd cc
passes false x y e = refl

pub first_line-at : (i s : ℕ) {r : Row} {b : ℕ} → i < 5 → r ≡ row_at i → bin_on r s ≡ Some b → first_line (drop i rows) s ≡ b
first_line-at i s {r} {b} h e a =
    ap (λ (rs : List Row). first_line rs s) (rows_at i h e)
    ∙ applies (leb (s / r.divisor) r.limit) (r.base + s / r.divisor) (first_line (drop (i + 1) rows) s) b a

pub first_line-after : (i s : ℕ) {r : Row} → i < 5 → r ≡ row_at i → bin_on r s ≡ None → first_line (drop i rows) s ≡ first_line (drop (i + 1) rows) s
first_line-after i s {r} h e z =
    ap (λ (rs : List Row). first_line rs s) (rows_at i h e)
    ∙ passes (leb (s / r.divisor) r.limit) (r.base + s / r.divisor) (first_line (drop (i + 1) rows) s) z

-- ---- the least size of a bin: on the first line that has it

-- where line i begins: behind the line before, the first at 1,024
abbrev pub begin_of : ℕ → ℕ
begin_of zero = 1024
begin_of (suc i) = (row_at i).divisor * ((row_at i).limit + 1)

-- no line before line i has bin j
abbrev pub Past : ℕ → ℕ → Type 0
Past zero j = 64 ≤ j
Past (suc i) j = (row_at i).base + (row_at i).limit < j

-- line i, whose row is r: its base is at most j, and if it has bin j it has the bin's least size
abbrev Line : ℕ → ℕ → Row → Type 0
Line i j r = (r.base ≤ j) × (j ≤ r.base + r.limit → max (begin_of i) (r.divisor * (j - r.base)) ≡ least_of j)

line_at : (i j : ℕ) {r : Row} → i < 5 → r ≡ row_at i → Past i j → Line i j r
line_at i j h e p =
    let c = least_of-comes j in
    subst⁻¹ (Line i j) e
    (each (λ k. Past k j → Line k j (row_at k))
    (λ p. (omega arith, λ l. least_of-is j _ (omega arith) (omega (arith, c.0, c.1))))
    (λ p. (omega arith, λ l. least_of-is j _ (omega arith) (omega (arith, c.1, c.2))))
    (λ p. (omega arith, λ l. least_of-is j _ (omega arith) (omega (arith, c.2, c.3))))
    (λ p. (omega arith, λ l. least_of-is j _ (omega arith) (omega (arith, c.3, c.4))))
    (λ p. (omega arith, λ l. least_of-is j _ (omega arith) (omega (arith, c.4, c.5))))
    i h p)

-- none is given exactly where the line does not have the bin
given : (k l b d m v : ℕ) → (t : Bool) → leb k l ≡ t → (k ≤ l → max b d ≡ m) → elim t as (λ _. Option ℕ) [ true ↦ Some (max b d) | false ↦ None ] ≡ Some v → v ≡ m
given k l b d m v true e f s = let x : max b d ≡ v = cc in sym x ∙ f (leb-true k l e)
given k l b d m v false e f s = absurd cc

not-given : (k l x : ℕ) → (t : Bool) → leb k l ≡ t → elim t as (λ _. Option ℕ) [ true ↦ Some x | false ↦ None ] ≡ None → l < k
not-given k l x true e n = absurd cc
not-given k l x false e n = leb-false k l e

pub base-at-most : (i j : ℕ) {r : Row} → i < 5 → r ≡ row_at i → Past i j → r.base ≤ j
base-at-most i j h e p = (line_at i j h e p).0

pub least_on-at : (i j : ℕ) {r : Row} {v : ℕ} → i < 5 → r ≡ row_at i → Past i j → least_on r (begin_of i) j ≡ Some v → v ≡ least_of j
least_on-at i j {r} {v} h e p a =
    given j (r.base + r.limit) (begin_of i) (r.divisor * (j - r.base)) (least_of j) v (leb j (r.base + r.limit)) refl (line_at i j h e p).1 a

pub least_on-after : (i j : ℕ) {r : Row} → i < 5 → r ≡ row_at i → least_on r (begin_of i) j ≡ None
    → (r.divisor * (r.limit + 1) ≡ begin_of (i + 1)) × Past (i + 1) j
least_on-after i j {r} h e z =
    let past : r.base + r.limit < j = not-given j (r.base + r.limit) (max (begin_of i) (r.divisor * (j - r.base))) (leb j (r.base + r.limit)) refl z in
    (rw (add-one i, e), rw (add-one i, ← e) past)
