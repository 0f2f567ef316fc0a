-- The laws of a list of numbers, n bytes each: its length, its numbers, a write in it, and that decoding and encoding undo each other.
-- One law for every width and count. Assumes nothing.
use Rattle.std.specs.Prelude.{◌≡◌, refl, Bool, true, false, List, [], ◌∷◌, ◌++◌, ◌⊎◌, ℕ, zero, suc, ◌+◌, ◌*◌, ◌/◌, ◌%◌, ◌^◌, ◌≤◌, ◌<◌, ltb, eqb, length, get_or, set, take, drop}
use Rattle.std.proofs.Common.{sym, ap, ◌∙◌, inl, inr, add-suc, mul-zero, mul-suc, pow-suc, mul-le-mul_left, le_of_suc-le-suc, not-suc-le-zero, arith, length-append, length-set, length-drop, take-append-drop, get_or-set_same, get_or-set_other, get_or-drop, drop_at, ext_get_or, ltb-true, ltb-false, eqb-true}
use Rattle.std.proofs.lemmas.Bool.{eqb-false}
use Rattle.std.proofs.Math.Nat.{div-div-eq-div-mul}
use Rattle.std.specs.Int.{byte_at, bytes_low_first}
use Rattle.le.specs.Number.{number_from, number, put, words, digits, bytes}
use Rattle.le.specs.NumberLaws.{number-put-same, number-put-other, number-drop}

pub length-words : (n m : ℕ) (l : List ℕ) → length (words n m l) ≡ m
unfolding words
length-words n zero l = refl
length-words n (suc m) l = ap suc (length-words n m (drop n l))

pub get_d_words : (n m : ℕ) (l : List ℕ) (i : ℕ) → i < m → get_or (words n m l) i 0 ≡ number n l (n * i)
unfolding words
get_d_words n zero l i h = absurd (not-suc-le-zero h)
get_d_words n (suc m) l zero h = rw mul-zero
get_d_words n (suc m) l (suc i) h =
    let e : n * suc i ≡ n + n * i = omega (arith, mul-suc n i) in
    get_d_words n m (drop n l) i (le_of_suc-le-suc h) ∙ number-drop n n l (n * i) ∙ rw e

-- a list whose numbers are those of the bytes is their list of words
pub words-ext : (n m : ℕ) (b l : List ℕ) → length l ≡ m → ((i : ℕ) → i < m → get_or l i 0 ≡ number n b (n * i)) → l ≡ words n m b
words-ext n m b l e f =
    ext_get_or 0 l (words n m b) (e ∙ sym (length-words n m b))
    (λ i h. let lt : i < m = omega arith in f i lt ∙ sym (get_d_words n m b i lt))

-- the words i and k do not overlap
apart : (n i k : ℕ) → (i ≡ k → ⊥) → (n * k + n ≤ n * i) ⊎ (n * i + n ≤ n * k)
apart n i k ne = by (ltb i k) refl
  where
    by : (t : Bool) → ltb i k ≡ t → (n * k + n ≤ n * i) ⊎ (n * i + n ≤ n * k)
    by true e = let lt : i < k = ltb-true i k e in inr (omega (arith, mul-le-mul_left n lt, mul-suc n i))
    by false e = let lt : k < i = omega (arith, ltb-false i k e) in inl (omega (arith, mul-le-mul_left n lt, mul-suc n k))

-- a number written at the word k is the word k
pub words-put : (n m : ℕ) (l : List ℕ) (k v : ℕ) → k < m → n * k + n ≤ length l → v < 256 ^ n → words n m (put n l (n * k) v) ≡ set (words n m l) k v
words-put n m l k v lt tiled b =
    sym (words-ext n m (put n l (n * k) v) (set (words n m l) k v)
    (length-set (words n m l) k v ∙ length-words n m l)
    (λ i h. at i h (eqb i k) refl))
  where
    at : (i : ℕ) → i < m → (t : Bool) → eqb i k ≡ t → get_or (set (words n m l) k v) i 0 ≡ number n (put n l (n * k) v) (n * i)
    at i h true e =
        let q : i ≡ k = eqb-true i k e in
        rw q (get_or-set_same (words n m l) k v 0 (omega (arith, length-words n m l)) ∙ sym (number-put-same n l (n * k) v tiled b))
    at i h false e =
        get_or-set_other (words n m l) k i v 0 (eqb-false i k e)
        ∙ get_d_words n m l i h
        ∙ sym (number-put-other n n l (n * k) v (n * i) (apart n i k (eqb-false i k e)))

pub length_digits : (n v : ℕ) → length (digits n v) ≡ n
unfolding digits
length_digits zero v = refl
length_digits (suc n) v = ap suc (length_digits n (v / 256))

-- the bytes that std makes of a number, from byte i on
byte_at-div : (i v : ℕ) → byte_at i v ≡ v / 256 ^ i % 256
byte_at-div zero v = omega arith
byte_at-div (suc i) v = refl

low_first-digits : (n i v : ℕ) → bytes_low_first i n v ≡ digits n (v / 256 ^ i)
unfolding digits
low_first-digits zero i v = refl
low_first-digits (suc n) i v =
    let next : v / 256 ^ suc i ≡ v / 256 ^ i / 256 = rw (div-div-eq-div-mul, pow-suc) refl in
    rw (byte_at-div i v, low_first-digits n (suc i) v, next) refl

-- all of them: the digits of the number
pub le_bytes-digits : (n v : ℕ) → bytes_low_first 0 n v ≡ digits n v
le_bytes-digits n v = let one : v / 256 ^ 0 ≡ v = omega arith in rw one at (low_first-digits n 0 v)

pub length-bytes : (n : ℕ) (ws : List ℕ) → length (bytes n ws) ≡ n * length ws
unfolding bytes
length-bytes n [] = sym (mul-zero n)
length-bytes n (v ∷ vs) = omega (arith, length-append (digits n v) (bytes n vs), length_digits n v, length-bytes n vs, mul-suc n (length vs))

number_from-tail : (n x : ℕ) (l : List ℕ) (at k : ℕ) → number_from n (x ∷ l) at (suc k) ≡ number_from n l at k
unfolding number_from
number_from-tail zero x l at k = refl
number_from-tail (suc n) x l at k = rw (add-suc at k, number_from-tail n x l at (suc k))

number-cons : (n x : ℕ) (l : List ℕ) → number (suc n) (x ∷ l) 0 ≡ x + 256 * number n l 0
unfolding number number_from
number-cons n x l = rw (number_from-tail n x l 0 0)

number_digits : (n v : ℕ) (l : List ℕ) → v < 256 ^ n → number n (digits n v ++ l) 0 ≡ v
unfolding digits number number_from
number_digits zero v l b = omega arith
number_digits (suc n) v l b =
    omega (arith, number-cons n (v % 256) (digits n (v / 256) ++ l), number_digits n (v / 256) l (omega (arith, pow-suc 256 n)))

digits_number : (n : ℕ) (l : List ℕ) → n ≤ length l → ((i : ℕ) → get_or l i 0 < 256) → digits n (number n l 0) ≡ take n l
unfolding digits
digits_number zero l h small = refl
digits_number (suc n) [] h small = absurd (not-suc-le-zero h)
digits_number (suc n) (x ∷ l) h small =
    let v = number n l 0 in
    let b : x < 256 = small 0 in
    let low : (x + 256 * v) % 256 ≡ x = omega arith in
    let rest : (x + 256 * v) / 256 ≡ v = omega arith in
    rw (number-cons n x l, low, rest, digits_number n l (le_of_suc-le-suc h) (λ i. small (suc i)))

-- what is encoded is decoded
pub words-bytes : (n : ℕ) (ws : List ℕ) → ((i : ℕ) → get_or ws i 0 < 256 ^ n) → words n (length ws) (bytes n ws) ≡ ws
unfolding words bytes
words-bytes n [] small = refl
words-bytes n (v ∷ vs) small =
    rw (number_digits n v (bytes n vs) (small 0), drop_at (digits n v) (bytes n vs) n (length_digits n v), words-bytes n vs (λ i. small (suc i)))

-- and what is decoded is encoded
pub bytes-words : (n m : ℕ) (l : List ℕ) → length l ≡ n * m → ((i : ℕ) → get_or l i 0 < 256) → bytes n (words n m l) ≡ l
unfolding words bytes
bytes-words n zero [] e small = refl
bytes-words n zero (x ∷ l) e small = absurd (omega (arith, mul-zero n))
bytes-words n (suc m) l e small =
    let all : n ≤ length l = omega (arith, mul-suc n m) in
    let rest : length (drop n l) ≡ n * m = omega (arith, length-drop n l, mul-suc n m) in
    let small' : (i : ℕ) → get_or (drop n l) i 0 < 256 = λ i. rw get_or-drop (small (n + i)) in
    rw (digits_number n l all small, bytes-words n m (drop n l) rest small') (take-append-drop n l)
