-- Lists: what a heap's lists are in words and record, and that the audit by version v finds no list fault exactly then, in the lists that are read. By
-- induction on the lists and their chunks; the chunks not met before are a list that shrinks. Assumes nothing.
use Rattle.std.specs.Prelude.{◌≡◌, refl, List, [], ◌∷◌, Bool, true, false, ℕ, zero, suc, ◌+◌, ◌≤◌, ◌<◌, eqb, length, get_or, Ok, Err}
use Rattle.std.proofs.Common.{sym, ap, ◌∙◌, not-suc-le-zero, le_of_suc-le-suc, arith, ltb-true, eqb-true, lt-ltb, ne_eqb}
use Rattle.sizes.specs.Limits.{none64}
use Rattle.sizes.specs.Layout.{fwd_word}
use Rattle.machine.specs.Lists.{both, hd, cnt, cnt_all, has?, without, minus, tabulate}
use Rattle.machine.specs.Count.{ind-same, cnt-here, cnt-there, without-cnt, without-length}
use Rattle.machine.specs.Mixing.{stored}
use Rattle.machine.specs.MixingLaws.{stored-twice}
use Rattle.machine.specs.View.{up, chunks_by, kind_at, head_word, list_at}
use Rattle.machine.specs.Audit.{may_stand, may_end, good_from, skips_ok, list_fault}
use Rattle.machine.specs.declared.ListKind.{ListKind}
use Rattle.machine.specs.declared.Fault.TheVariants as A
use Rattle.sound.specs.Relation.{chain_by}
use Rattle.sound.specs.Release.{both_true}
use Rattle.audit_lists.specs.Linked.{links_in}
use Rattle.audit_walks.specs.Tests.{sound-if}

-- each chunk may stand where it stands, and the list may end where it ends
abbrev pub suits : ℕ → ListKind → List ℕ → List ℕ → ℕ → ℕ → List ℕ → Type 0
suits v k w r p n [] = may_end k r p n ≡ true
suits v k w r p n (c ∷ l) = (may_stand v k w r p n c ≡ true) × suits v k w r c (suc n) l

pub record Listed (v : ℕ) (k : ListKind) (w r left : List ℕ) (p n c : ℕ) (l : List ℕ) : Type 0 where
  pub head : c ≡ hd none64 l
  pub links : chain_by (links_in r k) w l
  pub good : suits v k w r p n l
  pub cnts : (x : ℕ) → cnt x (minus left l) + cnt x l ≡ cnt x left
  pub len : length (minus left l) + length l ≡ length left

-- ---- a good walk shows a list
pub list-sound : (v f : ℕ) (k : ListKind) (w r left : List ℕ) (p n c : ℕ) → length left < f
    → good_from v k w r left p n (chunks_by (links_in r k) f w c) ≡ true → Listed v k w r left p n c (chunks_by (links_in r k) f w c)
unfolding good_from
list-sound v zero k w r left p n c b e = absurd (not-suc-le-zero b)
list-sound v (suc f) k w r left p n c b e =
    go (λ z b. list-sound v f k w r (without c left) c (suc n) next b z) (eqb c none64) refl e
  where
    next : ℕ
    next = stored (links_in r k) c (get_or w (fwd_word c) 0)

    more : List ℕ
    more = chunks_by (links_in r k) f w next

    body : Bool → List ℕ
    body b = elim b [ true ↦ [] | false ↦ c ∷ more ]

    go : (good_from v k w r (without c left) c (suc n) more ≡ true → length (without c left) < f
        → Listed v k w r (without c left) c (suc n) next more)
        → (b : Bool) → eqb c none64 ≡ b → good_from v k w r left p n (body b) ≡ true → Listed v k w r left p n c (body b)
    go s true q e = record { head = eqb-true c none64 q; links = tt; good = e; cnts = λ x. omega arith; len = omega arith }
    go s false q e =
        let t = both_true (both (has? c left) (may_stand v k w r p n c)) _ e in
        let u = both_true (has? c left) (may_stand v k w r p n c) t.0 in
        let i : 1 ≤ cnt c left = ltb-true 0 (cnt c left) u.0 in
        let g : length left ≡ suc (length (without c left)) = without-length c left i in
        let y = s t.1 (omega arith) in
        record {
          head = refl;
          links = (sym (stored-twice (links_in r k) c (get_or w (fwd_word c) 0)) ∙ ap (stored (links_in r k) c) y.head, y.links);
          good = (u.1, y.good);
          cnts = λ x. omega (arith, y.cnts x, without-cnt c left i x);
          len = omega (arith, y.len, g);
        }

-- ---- a list is what is read, and good
list_read : (d f : ℕ) (w l : List ℕ) → length l < f → ((x : ℕ) → 1 ≤ cnt x l → x < 262144) → chain_by d w l → chunks_by d f w (hd none64 l) ≡ l
list_read d zero w l b s c = absurd (not-suc-le-zero b)
list_read d (suc f) w [] b s c = refl
list_read d (suc f) w (x ∷ l) b s c =
    let next : stored d x (get_or w (fwd_word x) 0) ≡ hd none64 l = ap (stored d x) c.0 ∙ stored-twice d x (hd none64 l) in
    rw (ne_eqb x none64 (λ e. omega (arith, s x (cnt-here x l), e)), chunks_by)
    (ap (λ (z : List ℕ). x ∷ z) (ap (chunks_by d f w) next ∙ list_read d f w l (omega arith) (λ y k. s y (cnt-there y x l k)) c.1))

list-complete : (v : ℕ) (k : ListKind) (w r left : List ℕ) (p n : ℕ) (l : List ℕ) → suits v k w r p n l → ((x : ℕ) → cnt x l ≤ cnt x left) → good_from v k w r left p n l ≡ true
unfolding good_from
list-complete v k w r left p n [] s h = s
list-complete v k w r left p n (c ∷ l) s h =
    let i : 1 ≤ cnt c left = omega (arith, h c, ind-same c) in
    rw (lt-ltb 0 (cnt c left) i, good_from) (rw s.0
    (list-complete v k w r (without c left) c (suc n) l s.1 (λ x. omega (arith, h x, without-cnt c left i x))))

minus-cnt : (x : ℕ) (left l : List ℕ) → ((y : ℕ) → cnt y l ≤ cnt y left) → cnt x (minus left l) + cnt x l ≡ cnt x left
minus-cnt x left [] h = omega arith
minus-cnt x left (c ∷ l) h =
    let i : 1 ≤ cnt c left = omega (arith, h c, ind-same c) in
    omega (arith, without-cnt c left i x, minus-cnt x (without c left) l (λ y. omega (arith, h y, without-cnt c left i y)))

-- ---- a list of the kind k: its head in the record, its links, its tests, its skip links; list number i
abbrev pub Suited : ℕ → ListKind → List ℕ → List ℕ → List ℕ → Type 0
Suited v k w r l = (up (get_or r (head_word k) 0) ≡ hd none64 l) × chain_by (links_in r k) w l × suits v k w r none64 0 l × (skips_ok v k w l ≡ true)

abbrev pub Suit : ℕ → List ℕ → List ℕ → ℕ → List ℕ → Type 0
Suit v w r i l = Suited v (kind_at i) w r l

-- all lists, from number i on
abbrev pub suit_all : ℕ → List ℕ → List ℕ → ℕ → List (List ℕ) → Type 0
suit_all v w r i [] = Unit {0}
suit_all v w r i (l ∷ ls) = Suit v w r i l × suit_all v w r (suc i) ls

abbrev pub minus_all : List ℕ → List (List ℕ) → List ℕ
minus_all left [] = left
minus_all left (l ∷ ls) = minus_all (minus left l) ls

pub suit-get : (v : ℕ) (w r : List ℕ) (i n : ℕ) (ls : List (List ℕ)) → n < length ls → suit_all v w r i ls → Suit v w r (i + n) (get_or ls n [])
suit-get v w r i n [] h s = absurd (not-suc-le-zero h)
suit-get v w r i zero (l ∷ ls) h s = let e : i + 0 ≡ i = omega arith in rw e s.0
suit-get v w r i (suc n) (l ∷ ls) h s = let e : i + suc n ≡ suc i + n = omega arith in rw e (suit-get v w r (suc i) n ls (le_of_suc-le-suc h) s.1)

pub suit-all : (v : ℕ) (w r : List ℕ) (i : ℕ) (ls : List (List ℕ)) → ((n : ℕ) → n < length ls → Suit v w r (i + n) (get_or ls n [])) → suit_all v w r i ls
suit-all v w r i [] h = tt
suit-all v w r i (l ∷ ls) h =
    let e : i + 0 ≡ i = omega arith in
    (rw e at (h 0 (omega arith)), suit-all v w r (suc i) ls (λ n b. let g : i + suc n ≡ suc i + n = omega arith in rw g at (h (suc n) (omega arith))))

pub lists-sound : (v n i : ℕ) (w r left : List ℕ) → length left < length w → list_fault v w r i left (tabulate n (list_at w r) i) ≡ Ok tt
    → suit_all v w r i (tabulate n (list_at w r) i)
    × ((x : ℕ) → cnt x (minus_all left (tabulate n (list_at w r) i)) + cnt_all x (tabulate n (list_at w r) i) ≡ cnt x left)
unfolding list_fault list_at
lists-sound v zero i w r left b e = (tt, λ x. omega arith)
lists-sound v (suc n) i w r left b e =
    let c : ℕ = up (get_or r (head_word (kind_at i)) 0) in
    let m : List ℕ = chunks_by (links_in r (kind_at i)) (length w) w c in
    let g : Bool = good_from v (kind_at i) w r left none64 0 m in
    let k : Bool = skips_ok v (kind_at i) w m in
    let s = sound-if (both g k) _ (Err (A.List (kind_at i))) refl e in
    let t = both_true g k s.0 in
    let l = list-sound v (length w) (kind_at i) w r left none64 0 c b t.0 in
    let u = lists-sound v n (suc i) w r (minus left m) (omega (arith, l.len)) s.1 in
    (((l.head, l.links, l.good, t.1), u.0), λ x. omega (arith, u.1 x, l.cnts x))

pub lists-complete : (v i : ℕ) (w r left : List ℕ) (ls : List (List ℕ)) → suit_all v w r i ls → ((x : ℕ) → cnt_all x ls ≤ cnt x left) → list_fault v w r i left ls ≡ Ok tt
unfolding list_fault
lists-complete v i w r left [] s h = refl
lists-complete v i w r left (l ∷ ls) s h =
    rw (list-complete v (kind_at i) w r left none64 0 l s.0.2 (λ x. omega (arith, h x)), list_fault) (rw s.0.3
    (lists-complete v (suc i) w r (minus left l) ls s.1 (λ x. omega (arith, h x, minus-cnt x left l (λ y. omega (arith, h y))))))

-- a list that is short enough and within the arena is the one that is read
pub lists-read : (v i : ℕ) (w r : List ℕ) (ls : List (List ℕ)) → suit_all v w r i ls → ((x : ℕ) → 1 ≤ cnt_all x ls → x < 262144)
    → ((l : List ℕ) → ((x : ℕ) → cnt x l ≤ cnt_all x ls) → length l < length w) → tabulate (length ls) (list_at w r) i ≡ ls
unfolding list_at
lists-read v i w r [] s h b = refl
lists-read v i w r (l ∷ ls) s h b =
    let e : list_at w r i ≡ l = rw s.0.0 (list_read (links_in r (kind_at i)) (length w) w l (b l (λ x. omega arith)) (λ x k. h x (omega arith)) s.0.1) in
    let g : tabulate (length ls) (list_at w r) (suc i) ≡ ls = lists-read v (suc i) w r ls s.1 (λ x k. h x (omega arith)) (λ m q. b m (λ x. omega (arith, q x))) in
    cc
