-- The bytes that std makes of a number are its digits, and these put in their place are what the definition writes. Stated over the width n. Assumes nothing.
use Rattle.std.specs.Int.{bytes_low_first}
use Rattle.std.proofs.Common.{◌≡◌, sym, ap, ◌∙◌, List, [], ◌∷◌, ◌++◌, ℕ, zero, suc, ◌+◌, ◌/◌, ◌%◌, ◌≤◌, length, set, take, drop, take-append-drop, append_assoc, add-suc, arith, length-set}
use Rattle.std.proofs.lemmas.List.{drop-drop, drop-set-lt}
use Rattle.std.proofs.lemmas.Grind.{take-set_at}
use Rattle.le.specs.WordsLaws.{le_bytes-digits}
use Rattle.le.specs.Number.{put_from, put, digits}

put_from-digits : (n : ℕ) (l : List ℕ) (at k v : ℕ) → at + k + n ≤ length l → put_from n l at k v ≡ take (at + k) l ++ (digits n v ++ drop n (drop (at + k) l))
unfolding put_from digits
put_from-digits zero l at k v h = sym (take-append-drop (at + k) l)
put_from-digits (suc n) l at k v h =
    let d : ℕ = v % 256 in
    let m : List ℕ = set l (at + k) d in
    let next : at + suc k ≡ at + k + 1 = omega (arith, add-suc at k) in
    let in_m : at + suc k + n ≤ length m = omega (arith, add-suc at k, length-set l (at + k) d) in
    let front : take (at + suc k) m ≡ take (at + k) l ++ d ∷ [] = take-set_at l (at + k) (at + suc k) d next (omega arith) in
    let back : drop n (drop (at + suc k) m) ≡ drop (suc n) (drop (at + k) l) =
    ap (drop n) (drop-set-lt (at + suc k) l (at + k) d (omega (arith, next))) ∙ drop-drop n (at + suc k) l
    ∙ ap (λ j. drop j l) (omega (arith, add-suc at k)) ∙ sym (drop-drop (suc n) (at + k) l) in
    put_from-digits n m at (suc k) (v / 256) in_m
    ∙ rw (front, back) (append_assoc (take (at + k) l) (d ∷ []) (digits n (v / 256) ++ drop (suc n) (drop (at + k) l)))

pub put-digits : (n : ℕ) (l ds : List ℕ) (at v : ℕ) → at + n ≤ length l → ds ≡ bytes_low_first 0 n v → take at l ++ (ds ++ drop n (drop at l)) ≡ put n l at v
unfolding put
put-digits n l ds at v h e =
    let z : at + 0 ≡ at = omega arith in
    rw (e, le_bytes-digits n v) (sym (rw z at (put_from-digits n l at 0 v (omega arith))))
