-- The laws of one number among the bytes: what is written is read back, what lies beside it is kept. One law for every width.
-- Each goes by induction on the width, over `number_from` and `put_from`. Assumes nothing.
use Rattle.std.specs.Prelude.{◌≡◌, refl, List, ◌⊎◌, ℕ, zero, suc, ◌+◌, ◌/◌, ◌%◌, ◌^◌, ◌≤◌, ◌<◌, length, get_or, set, drop}
use Rattle.std.proofs.Common.{◌∙◌, inl, inr, ⊎_elim, add_assoc, add-suc, pow-suc, arith, length-set, get_or-set_same, get_or-set_other, get_or-drop}
use Rattle.le.specs.Number.{number_from, put_from, number, put}

length-put_from : (n : ℕ) (l : List ℕ) (at k v : ℕ) → length (put_from n l at k v) ≡ length l
unfolding put_from
length-put_from zero l at k v = refl
length-put_from (suc n) l at k v = length-put_from n (set l (at + k) (v % 256)) at (suc k) (v / 256) ∙ length-set l (at + k) (v % 256)

get_d-put_from-other : (n : ℕ) (l : List ℕ) (at k v j : ℕ) → (j < at + k) ⊎ (at + k + n ≤ j) → get_or (put_from n l at k v) j 0 ≡ get_or l j 0
unfolding put_from
get_d-put_from-other zero l at k v j out = refl
get_d-put_from-other (suc n) l at k v j out =
    get_d-put_from-other n (set l (at + k) (v % 256)) at (suc k) (v / 256) j
    (⊎_elim (λ h. inl (omega (arith, add-suc at k))) (λ h. inr (omega (arith, add-suc at k))) out)
    ∙ get_or-set_other l (at + k) j (v % 256) 0 (⊎_elim (λ h e. omega arith) (λ h e. omega arith) out)

number-put_from-same : (n : ℕ) (l : List ℕ) (at k v : ℕ) → at + k + n ≤ length l → v < 256 ^ n → number_from n (put_from n l at k v) at k ≡ v
unfolding put_from number_from
number-put_from-same zero l at k v h b = omega arith
number-put_from-same (suc n) l at k v h b =
    let l' : List ℕ = set l (at + k) (v % 256) in
    let low : get_or (put_from n l' at (suc k) (v / 256)) (at + k) 0 ≡ v % 256 =
    get_d-put_from-other n l' at (suc k) (v / 256) (at + k) (inl (omega (arith, add-suc at k)))
    ∙ get_or-set_same l (at + k) (v % 256) 0 (omega arith) in
    let rest : number_from n (put_from n l' at (suc k) (v / 256)) at (suc k) ≡ v / 256 =
    number-put_from-same n l' at (suc k) (v / 256) (omega (arith, add-suc at k, length-set l (at + k) (v % 256))) (omega (arith, pow-suc 256 n)) in
    omega arith

-- equal bytes give equal numbers
number_from-ext : (m : ℕ) (l l' : List ℕ) (b j : ℕ) → ((i : ℕ) → b + j ≤ i → i < b + j + m → get_or l i 0 ≡ get_or l' i 0) → number_from m l b j ≡ number_from m l' b j
unfolding number_from
number_from-ext zero l l' b j h = refl
number_from-ext (suc m) l l' b j h =
    let low : get_or l (b + j) 0 ≡ get_or l' (b + j) 0 = h (b + j) (omega arith) (omega arith) in
    let rest : number_from m l b (suc j) ≡ number_from m l' b (suc j) =
    number_from-ext m l l' b (suc j) (λ i p q. h i (omega (arith, add-suc b j)) (omega (arith, add-suc b j))) in
    cc

number_from-small : (n : ℕ) (l : List ℕ) (at k : ℕ) → ((i : ℕ) → get_or l i 0 < 256) → number_from n l at k < 256 ^ n
unfolding number_from
number_from-small zero l at k small = omega arith
number_from-small (suc n) l at k small = omega (arith, small (at + k), number_from-small n l at (suc k) small, pow-suc 256 n)

number_from-drop : (n d : ℕ) (l : List ℕ) (at k : ℕ) → number_from n (drop d l) at k ≡ number_from n l (d + at) k
unfolding number_from
number_from-drop zero d l at k = refl
number_from-drop (suc n) d l at k = rw (get_or-drop, number_from-drop n d l at (suc k), add_assoc d at k)

pub length-put : (n : ℕ) (l : List ℕ) (at v : ℕ) → length (put n l at v) ≡ length l
unfolding put
length-put n l at v = length-put_from n l at 0 v

-- a byte outside what is written is kept
pub get_d-put-other : (n : ℕ) (l : List ℕ) (at v j : ℕ) → (j < at) ⊎ (at + n ≤ j) → get_or (put n l at v) j 0 ≡ get_or l j 0
unfolding put
get_d-put-other n l at v j out = get_d-put_from-other n l at 0 v j (⊎_elim (λ h. inl (omega arith)) (λ h. inr (omega arith)) out)

pub number-put-same : (n : ℕ) (l : List ℕ) (at v : ℕ) → at + n ≤ length l → v < 256 ^ n → number n (put n l at v) at ≡ v
unfolding put number
number-put-same n l at v h b = number-put_from-same n l at 0 v (omega arith) b

pub number-put-other : (n m : ℕ) (l : List ℕ) (at v b : ℕ) → (at + n ≤ b) ⊎ (b + m ≤ at) → number m (put n l at v) b ≡ number m l b
unfolding number
number-put-other n m l at v b out =
    number_from-ext m (put n l at v) l b 0
    (λ i p q. get_d-put-other n l at v i (⊎_elim (λ h. inr (omega arith)) (λ h. inl (omega arith)) out))

-- of bytes below 256, a number of n bytes is below 256 ^ n
pub number_small : (n : ℕ) (l : List ℕ) (at : ℕ) → ((i : ℕ) → get_or l i 0 < 256) → number n l at < 256 ^ n
unfolding number
number_small n l at small = number_from-small n l at 0 small

pub number-drop : (n d : ℕ) (l : List ℕ) (at : ℕ) → number n (drop d l) at ≡ number n l (d + at)
unfolding number
number-drop n d l at = number_from-drop n d l at 0
