-- Numbers written as bytes and read again are cut to their width, and bytes are below 256. Digits do not see what lies above them. A byte is a digit of its
-- word. One law for every width. Assumes nothing.
use Rattle.std.specs.Prelude.{◌≡◌, refl, List, [], ◌∷◌, ◌++◌, map, ℕ, zero, suc, ◌+◌, ◌*◌, ◌/◌, ◌%◌, ◌^◌, ◌<◌, length, get_or}
use Rattle.std.proofs.Common.{sym, ap, ◌∙◌, mul-suc, mul-zero, mul_assoc, mod-lt, not-suc-le-zero, le_of_suc-le-suc, arith, get_or-append-add}
use Rattle.std.proofs.Math.Nat.{pow-succ', div-add-mod, zero-mod}
use Rattle.std.proofs.lemmas.List.{length-map}
use Rattle.std.proofs.Math.ListN.{get_or-map, get_or-append}
use Rattle.le.specs.Number.{words, digits, bytes}
use Rattle.le.specs.WordsLaws.{length_digits, words-bytes}
use Rattle.le.specs.Arena.{arena_words}
use Rattle.le.specs.ArenaLaws.{arena_words-bytes}

abbrev pub cut : ℕ → List ℕ → List ℕ
cut n ws = map (λ v. v % 256 ^ n) ws

digits_same : (n v w k : ℕ) → v ≡ w + 256 ^ n * k → digits n v ≡ digits n w
unfolding digits
digits_same zero v w k e = refl
digits_same (suc n) v w k e =
    let q : 256 ^ suc n * k ≡ 256 * (256 ^ n * k) = ap (λ (p : ℕ). p * k) (pow-succ' 256 n) ∙ mul_assoc 256 (256 ^ n) k in
    let low : v % 256 ≡ w % 256 = omega (arith, q) in
    rw (low, digits_same n (v / 256) (w / 256) k (omega (arith, q)))

digits-cut : (n v : ℕ) → digits n v ≡ digits n (v % 256 ^ n)
digits-cut n v = digits_same n v (v % 256 ^ n) (v / 256 ^ n) (omega (arith, div-add-mod v (256 ^ n)))

bytes_cut : (n : ℕ) (ws : List ℕ) → bytes n ws ≡ bytes n (cut n ws)
unfolding bytes
bytes_cut n [] = refl
bytes_cut n (v ∷ vs) = rw (← digits-cut n v, ← bytes_cut n vs)

pow-positive : (n : ℕ) → 0 < 256 ^ n
pow-positive zero = omega arith
pow-positive (suc n) = omega (arith, pow-succ' 256 n, pow-positive n)

pub get_d-cut : (n : ℕ) (ws : List ℕ) (i : ℕ) → get_or (cut n ws) i 0 ≡ get_or ws i 0 % 256 ^ n
get_d-cut n ws i = rw (zero-mod (256 ^ n)) at (get_or-map (λ (v : ℕ). v % 256 ^ n) ws i 0)

pub length_cut : (n : ℕ) (ws : List ℕ) → length (cut n ws) ≡ length ws
length_cut n ws = length-map ws (λ (v : ℕ). v % 256 ^ n)

cut_small : (n : ℕ) (ws : List ℕ) (i : ℕ) → get_or (cut n ws) i 0 < 256 ^ n
cut_small n ws i = rw (get_d-cut n ws i) (mod-lt (get_or ws i 0) (pow-positive n))

pub words-cut : (n m : ℕ) (ws : List ℕ) → length ws ≡ m → words n m (bytes n ws) ≡ cut n ws
words-cut n m ws e =
    ap (words n m) (bytes_cut n ws)
    ∙ ap (λ (k : ℕ). words n k (bytes n (cut n ws))) (sym (length_cut n ws ∙ e))
    ∙ words-bytes n (cut n ws) (cut_small n ws)

pub arena_words-cut : (ws : List ℕ) → arena_words (bytes 8 ws) ≡ cut 8 ws
arena_words-cut ws = ap arena_words (bytes_cut 8 ws) ∙ arena_words-bytes (cut 8 ws) (cut_small 8 ws)

-- ---- a byte is a digit of its word, and equal words have equal bytes, wherever they stand
bytes-at : (n : ℕ) (vs : List ℕ) (i j : ℕ) → i < length vs → j < n → get_or (bytes n vs) (n * i + j) 0 ≡ get_or (digits n (get_or vs i 0)) j 0
unfolding bytes
bytes-at n [] i j h k = absurd (not-suc-le-zero h)
bytes-at n (v ∷ vs) zero j h k =
    let e : n * 0 + j ≡ j = omega (arith, mul-zero n) in
    ap (λ (x : ℕ). get_or (digits n v ++ bytes n vs) x 0) e ∙ get_or-append (digits n v) (bytes n vs) 0 j (omega (arith, length_digits n v))
bytes-at n (v ∷ vs) (suc i) j h k =
    let e : n * suc i + j ≡ length (digits n v) + (n * i + j) = omega (arith, mul-suc n i, length_digits n v) in
    ap (λ (x : ℕ). get_or (digits n v ++ bytes n vs) x 0) e ∙ get_or-append-add (digits n v) (bytes n vs) (n * i + j) 0 ∙ bytes-at n vs i j (le_of_suc-le-suc h) k

pub byte-same : (v w : List ℕ) (p q : ℕ) → p % 8 ≡ q % 8 → p / 8 < length v → q / 8 < length w → get_or v (p / 8) 0 ≡ get_or w (q / 8) 0
    → get_or (bytes 8 v) p 0 ≡ get_or (bytes 8 w) q 0
byte-same v w p q m i j e =
    let at : 8 * (p / 8) + p % 8 ≡ p = omega arith in
    let at' : 8 * (q / 8) + p % 8 ≡ q = omega arith in
    ap (λ (x : ℕ). get_or (bytes 8 v) x 0) (sym at) ∙ bytes-at 8 v (p / 8) (p % 8) i (omega arith) ∙ ap (λ (x : ℕ). get_or (digits 8 x) (p % 8) 0) e
    ∙ sym (bytes-at 8 w (q / 8) (p % 8) j (omega arith)) ∙ ap (λ (x : ℕ). get_or (bytes 8 w) x 0) at'

-- ---- bytes are below 256
digits-small : (n v i : ℕ) → get_or (digits n v) i 0 < 256
unfolding digits
digits-small zero v i = omega arith
digits-small (suc n) v zero = omega arith
digits-small (suc n) v (suc i) = digits-small n (v / 256) i

small-append : (a b : List ℕ) → ((i : ℕ) → get_or a i 0 < 256) → ((i : ℕ) → get_or b i 0 < 256) → (i : ℕ) → get_or (a ++ b) i 0 < 256
small-append [] b p q i = q i
small-append (x ∷ a) b p q zero = p zero
small-append (x ∷ a) b p q (suc i) = small-append a b (λ j. p (suc j)) q i

pub bytes_small : (n : ℕ) (ws : List ℕ) (i : ℕ) → get_or (bytes n ws) i 0 < 256
unfolding bytes
bytes_small n [] i = omega arith
bytes_small n (v ∷ vs) i = small-append (digits n v) (bytes n vs) (digits-small n v) (bytes_small n vs) i
