-- What reading a line has to know: one turn of the loop over the digits, the first blank, the bytes kept of a line, a line by its first bytes. Assumes nothing.
use mathlib.Core.Path.{◌≡◌, refl, sym, ap, ◌∙◌}
use mathlib.Core.List.{List, [], ◌∷◌}
use mathlib.Core.Bool.{Bool, true, false}
use Rattle.std.specs.Prelude.{Option, Some, None, cond, ◌&&◌, ◌==◌, nat_lt, position}
use Rattle.std.specs.Char.{is_ascii_digit}
use Rattle.std.specs.List.{position_or_len}
use Rattle.std.proofs.lemmas.List.Recursion.{is_position_or_len}
use Prim.Native.Nat.{ℕ, suc, ◌+◌, ◌*◌, ◌-◌, ◌^◌, ◌≤◌, ◌<◌}
use native.Mathlib.Nat.{pow-le-pow_right, pow-succ'}
use Rattle.std.proofs.Common.{lit≤}
use native.Mathlib.Numerals.{add-one, one-add}
use native.Mathlib.Omega.{arith}
use lib.Dec.{eqb, leb}
use lib.ListN.{length, take, drop, get_or, length-drop}
use lib.Seq.{drop-cons, drop-length, take_all}
use borrow.Author.Tests.{le-leb, lt-leb, leb-true, ltb-false, ne_eqb}
use Rattle.std.proofs.lemmas.Bool.{eqb-true, eqb-false}
use Rattle.machine.specs.Lists.{both}
use Rattle.text.specs.Text.{blank}
use Rattle.script.specs.Grammar.{digit?, digits_from, number_of, alone, letter_z, letter_s, numbered, before_blank, behind_blank, resized, spaced, line_of}
use Rattle.script.specs.declared.Line.TheVariants.{Settle, Other}

-- a digit is from 48 to 57, by the test of std too
pub digit-is : (b : ℕ) → is_ascii_digit b ≡ digit? b
digit-is b = elim (leb 48 b) as (λ x. (x && leb b 57) ≡ both x (leb b 57)) [ true ↦ refl | false ↦ refl ]

pub digit_low : (b : ℕ) → digit? b ≡ true → (48 ≤ b) × (b ≤ 57)
digit_low b e = go (leb 48 b) refl (leb b 57) refl e
  where
    go : (x : Bool) → leb 48 b ≡ x → (y : Bool) → leb b 57 ≡ y → both x y ≡ true → (48 ≤ b) × (b ≤ 57)
    go true p true q e = (leb-true 48 b p, leb-true b 57 q)
    go true p false q e = cc
    go false p y q e = cc

-- a digit more: the number is below the next power of 10, and below all that has 7 digits
pub digit_fits : (n i b : ℕ) → n < 10 ^ i → b ≤ 57 → 10 * n + (b - 48) < 10 ^ (i + 1)
digit_fits n i b h e = rw (add-one, pow-succ' 10 i) (omega arith)

pub number_fits : (n i : ℕ) → n < 10 ^ i → i < 7 → n < 1000000
number_fits n i h k = omega (arith, pow-le-pow_right {n = 10} (lit≤ tt) {i = i} {j = 6} (omega arith))

-- ---- the loop over the digits of l
pub digits-turn : (n i : ℕ) (l : List ℕ) → i < length l → digit? (get_or l i 0) ≡ true
    → digits_from (10 * n + (get_or l i 0 - 48)) (drop (i + 1) l) ≡ digits_from n (drop i l)
unfolding digits_from
digits-turn n i l h e = rw (add-one, drop-cons l i 0 h, digits_from, e)

pub digits-stop : (n i : ℕ) (l : List ℕ) → i < length l → digit? (get_or l i 0) ≡ false → digits_from n (drop i l) ≡ None
unfolding digits_from
digits-stop n i l h e = rw (drop-cons l i 0 h, digits_from, e)

pub digits-end : (n i : ℕ) (l : List ℕ) → i ≤ length l → length l ≤ i → digits_from n (drop i l) ≡ Some n
unfolding digits_from
digits-end n i l h k = let e : i ≡ length l = omega arith in rw (e, drop-length)

pub number-good : (l : List ℕ) → (length l == 0) ≡ false → length l ≤ 7 → number_of l ≡ digits_from 0 l
unfolding number_of
number-good l h k =
    let n : (length l ≡ 0 → ⊥) = eqb-false (length l) 0 h in
    rw (number_of, le-leb 1 (length l) (omega arith), le-leb (length l) 7 k)

number_short : (l : List ℕ) → length l < 1 → number_of l ≡ None
unfolding number_of
number_short l h = rw (number_of, lt-leb 1 (length l) h)

pub number-none : (l : List ℕ) → (length l == 0) ≡ true → number_of l ≡ None
number-none l e = let n : length l ≡ 0 = eqb-true (length l) 0 e in number_short l (omega arith)

-- ---- the place of the first blank
before_blank-length : (l : List ℕ) → length (before_blank l) ≡ position_or_len (λ b. b == blank) l
unfolding before_blank
before_blank-length = is_position_or_len (λ l. length (before_blank l)) (λ b. b == blank) refl turn
  where
    turn : (b : ℕ) (l : List ℕ) → length (before_blank (b ∷ l)) ≡ cond (b == blank) 0 (1 + length (before_blank l))
    turn b l = elim (eqb b blank) as (λ x. length {A = ℕ} (elim x [ true ↦ [] | false ↦ b ∷ before_blank l ]) ≡ cond x 0 (1 + length (before_blank l))) [ true ↦ refl | false ↦ sym (one-add _) ]

blank-some : (l : List ℕ) (i : ℕ) → position (λ b. b == blank) l ≡ Some i → i ≡ length (before_blank l)
blank-some l i e = rw (before_blank-length l) (go (nat_lt (position_or_len (λ b. b == blank) l) (length l)) e)
  where
    go : (x : Bool) → cond x (Some (position_or_len (λ b. b == blank) l)) None ≡ Some i → i ≡ position_or_len (λ b. b == blank) l
    go true e = cc
    go false e = cc

blank-none : (l : List ℕ) → position (λ b. b == blank) l ≡ None → length l ≤ length (before_blank l)
blank-none l e = rw (before_blank-length l) (go (nat_lt (position_or_len (λ b. b == blank) l) (length l)) refl e)
  where
    go : (x : Bool) → nat_lt (position_or_len (λ b. b == blank) l) (length l) ≡ x → cond x (Some (position_or_len (λ b. b == blank) l)) None ≡ None
        → length l ≤ position_or_len (λ b. b == blank) l
    go true p e = cc
    go false p e = ltb-false _ _ p

-- ---- the bytes before the first blank, and those behind it, by its place
before_blank-at : (l : List ℕ) → before_blank l ≡ take (length (before_blank l)) l
unfolding before_blank
before_blank-at [] = refl
before_blank-at (b ∷ l) = go (before_blank-at l) (eqb b blank)
  where
    go : before_blank l ≡ take (length (before_blank l)) l → (x : Bool)
        → elim x [ true ↦ [] | false ↦ b ∷ before_blank l ] ≡ take (length {A = ℕ} (elim x [ true ↦ [] | false ↦ b ∷ before_blank l ])) (b ∷ l)
    go e true = refl
    go e false = ap (λ (m : List ℕ). b ∷ m) e

behind_blank-at : (l : List ℕ) → behind_blank l ≡ drop (suc (length (before_blank l))) l
unfolding before_blank behind_blank
behind_blank-at [] = refl
behind_blank-at (b ∷ l) = go (behind_blank-at l) (eqb b blank)
  where
    go : behind_blank l ≡ drop (suc (length (before_blank l))) l → (x : Bool)
        → elim x [ true ↦ l | false ↦ behind_blank l ] ≡ drop (length {A = ℕ} (elim x [ true ↦ [] | false ↦ b ∷ before_blank l ])) l
    go e true = refl
    go e false = e

-- ---- a line by its length and its first bytes
pub line-none : (l : List ℕ) → length l ≡ 0 → line_of l ≡ Other
unfolding line_of
line-none [] h = refl
line-none (x ∷ l) h = absurd (omega arith)

pub line-one : (l : List ℕ) → length l ≡ 1 → line_of l ≡ alone (get_or l 0 0)
unfolding line_of
line-one [] h = absurd (omega arith)
line-one (x ∷ []) h = refl
line-one (x ∷ y ∷ l) h = absurd (omega arith)

pub line-spaced : (l : List ℕ) → 2 ≤ length l → get_or l 1 0 ≡ blank → line_of l ≡ spaced (get_or l 0 0) (take (length l - 2) (drop 2 l))
unfolding line_of
line-spaced [] h e = absurd (omega arith)
line-spaced (x ∷ []) h e = absurd (omega arith)
line-spaced (x ∷ y ∷ l) h e = rw (e, take_all (length (x ∷ y ∷ l) - 2) l (omega arith))

pub line_other : (l : List ℕ) → 2 ≤ length l → (get_or l 1 0 ≡ blank → ⊥) → line_of l ≡ Other
unfolding line_of
line_other [] h e = absurd (omega arith)
line_other (x ∷ []) h e = absurd (omega arith)
line_other (x ∷ y ∷ l) h e = rw (line_of, ne_eqb y blank e)

pub alone-settle : (x : ℕ) → x ≡ letter_s → Settle ≡ alone x
alone-settle x e = rw e

pub alone-other : (x : ℕ) → (x ≡ letter_s → ⊥) → Other ≡ alone x
alone-other x h = rw (alone, ne_eqb x letter_s h)

-- ---- what stands behind the letter and its blank
pub spaced-one : (x : ℕ) (l : List ℕ) → (x ≡ letter_z → ⊥) → numbered x (number_of l) ≡ spaced x l
spaced-one x l h = rw (spaced, ne_eqb x letter_z h)

pub spaced-two : (x : ℕ) (l : List ℕ) (i : ℕ) → x ≡ letter_z → position (λ b. b == blank) l ≡ Some i
    → resized (number_of (take i l)) (number_of (take (length l - (i + 1)) (drop (i + 1) l))) ≡ spaced x l
spaced-two x l i e q =
    let p : i ≡ length (before_blank l) = blank-some l i q in
    let s : take i l ≡ before_blank l = rw p (sym (before_blank-at l)) in
    let t : take (length l - (i + 1)) (drop (i + 1) l) ≡ behind_blank l =
    take_all (length l - (i + 1)) (drop (i + 1) l) (simp length-drop (omega arith)) ∙ rw (add-one, p) (sym (behind_blank-at l)) in
    rw (e, s, t)

resized-nothing : (m : Option ℕ) → Other ≡ resized m None
resized-nothing (Some m) = refl
resized-nothing None = refl

pub spaced-none : (x : ℕ) (l : List ℕ) → x ≡ letter_z → position (λ b. b == blank) l ≡ None → Other ≡ spaced x l
spaced-none x l e p =
    let n : length (behind_blank l) < 1 = rw (behind_blank-at l, length-drop) (omega (arith, blank-none l p)) in
    rw (e, number_short (behind_blank l) n) (resized-nothing (number_of (before_blank l)))
