-- Laws of the marks: a mark says that a chunk was not met exactly where that is so, a chunk that is met gets its list's mark, and then fewer are not met.
-- Linear in counts. Assumes nothing.
use Rattle.std.specs.Prelude.{◌≡◌, refl, List, [], ◌∷◌, Bool, true, false, ℕ, zero, suc, ◌+◌, ◌*◌, ◌/◌, ◌%◌, ◌≤◌, ◌<◌, eqb, length, get_or, set}
use Rattle.std.proofs.Common.{sym, ap, ◌∙◌, ⊎_elim, le_of_suc-le-suc, not-suc-le-zero, arith, get_or-set_same, get_or-set_other, eqb-true, eq-eqb, ne_eqb, lt-ltb, le-ltb, ltb-true}
use Rattle.std.proofs.Math.ListN.{get_or-eq_default}
use Rattle.std.proofs.lemmas.Bool.{eqb-false}
use Rattle.machine.specs.Lists.{both, cnt, ind, has?, without}
use Rattle.machine.specs.Count.{eq?, ind-same, ind-other, without-cnt}
use Rattle.machine.specs.declared.ListKind.{ListKind}
use Rattle.machine.specs.declared.ListKind.TheVariants.{Cache, Fast, Bin}
use Rattle.audit_lists.specs.Listed.{unmet, mark_of}
use Rattle.sound.specs.Tiles.{zero_or, lt-or-le}
use Rattle.sound.specs.Release.{both_true}
use Rattle.audit_walks.specs.Marks.{unmet_mark, stacked_mark, binned_mark, Marks, bin_at}

-- the chunks that go to bins
abbrev pub bin_cnt : ListKind → ℕ → List ℕ → ℕ
bin_cnt (Cache k) x l = 0
bin_cnt (Fast k) x l = 0
bin_cnt (Bin j) x l = cnt x l

module _ (w m left : List ℕ) (b : ℕ → ℕ) (k : Marks w m left b) where
  pub unmet-has : (c : ℕ) → unmet m c ≡ has? c left
  unmet-has c = go (eqb (c % 16) 0) (eqb (get_or m (c / 16) 0) unmet_mark) refl refl
    where
      go : (x y : Bool) → eqb (c % 16) 0 ≡ x → eqb (get_or m (c / 16) 0) unmet_mark ≡ y → both x y ≡ has? c left
      go true true p q =
          let e = k.is c (eqb-true (c % 16) 0 p) in
          let o = eqb-true (get_or m (c / 16) 0) unmet_mark q in
          sym (lt-ltb 0 (cnt c left) (⊎_elim (λ z. ⊎_elim (λ y. omega (arith, e, o)) (λ y. omega (arith, e, o)) (zero_or (b c))) (λ z. omega (arith, e, o)) (zero_or (k.s c))))
      go true false p q = ⊎_elim
          (λ z. sym (le-ltb 0 (cnt c left) (omega arith)))
          (λ z. absurd (eqb-false (get_or m (c / 16) 0) unmet_mark q (omega (arith, k.is c (eqb-true (c % 16) 0 p), k.once c))))
          (zero_or (cnt c left))
      go false y p q = ⊎_elim
          (λ z. sym (le-ltb 0 (cnt c left) (omega arith)))
          (λ z. absurd (eqb-false (c % 16) 0 p (k.even c z)))
          (zero_or (cnt c left))

  pub unmet-inside : (c : ℕ) → unmet m c ≡ true → (c % 16 ≡ 0) × (c + 32 ≤ 8 * length w) × (1 ≤ cnt c left)
  unmet-inside c e =
      let i : 1 ≤ cnt c left = ltb-true 0 (cnt c left) (sym (unmet-has c) ∙ e) in
      (k.even c i, k.inside c i, i)

  -- the marks tell the bins
  pub bins-told : (x : ℕ) → x % 16 ≡ 0 → b x ≡ bin_at m x
  bins-told x e = go (b x) refl
    where
      is : get_or m (x / 16) 0 ≡ unmet_mark * cnt x left + stacked_mark * k.s x + binned_mark * b x
      is = k.is x e

      go : (n : ℕ) → b x ≡ n → b x ≡ bin_at m x
      go zero z = omega (arith, z, ap ind (ne_eqb (get_or m (x / 16) 0) binned_mark (λ q. omega (arith, is, k.once x, z, q))))
      go (suc n) z = omega (arith, z, k.once x, ap ind (eq-eqb (get_or m (x / 16) 0) binned_mark (omega (arith, is, k.once x, z))))

pub unmet-one : (m : List ℕ) (c : ℕ) → unmet m c ≡ true → (get_or m (c / 16) 0 ≡ unmet_mark) × (c / 16 < length m)
unmet-one m c e =
    let o : get_or m (c / 16) 0 ≡ unmet_mark = eqb-true (get_or m (c / 16) 0) unmet_mark (both_true (eqb (c % 16) 0) (eqb (get_or m (c / 16) 0) unmet_mark) e).1 in
    (o, ⊎_elim (λ z. z) (λ z. absurd (omega (arith, get_or-eq_default {A = ℕ} m 0 z))) (lt-or-le (c / 16) (length m)))

-- ---- c gets the mark v
marked : (w m left : List ℕ) (b : ℕ → ℕ) (c v : ℕ) (k : Marks w m left b) (s' b' : ℕ → ℕ) → unmet m c ≡ true
    → ((x : ℕ) → (x ≡ c → ⊥) → (s' x ≡ k.s x) × (b' x ≡ b x)) → stacked_mark * s' c + binned_mark * b' c ≡ v → s' c + b' c ≡ 1
    → Marks w (set m (c / 16) v) (without c left) b'
marked w m left b c v k s' b' e other here sum =
    let j = unmet-inside w m left b k c e in
    let z = unmet-one m c e in
    let wc : (x : ℕ) → cnt x left ≡ ind (eqb x c) + cnt x (without c left) = without-cnt c left j.2 in
    record {
      s = s';
      is = λ x x16. ⊎_elim
          (λ q. omega (
            arith,
            ap (λ (y : ℕ). get_or (set m (c / 16) v) (y / 16) 0) q,
            get_or-set_same m (c / 16) v 0 z.1,
            here,
            ap (λ (y : ℕ). s' y) q,
            ap (λ (y : ℕ). b' y) q,
            wc c,
            ind-same c,
            k.once c,
            ap (λ (y : ℕ). cnt y (without c left)) q,
          ))
          (λ q. omega (arith, k.is x x16, wc x, ind-other x c q, (other x q).0, (other x q).1, get_or-set_other m (c / 16) (x / 16) v 0 (λ y. q (omega (arith, j.0)))))
          (eq? x c);
      once = λ x. ⊎_elim
          (λ q. omega (arith, sum, ap (λ (y : ℕ). s' y) q, ap (λ (y : ℕ). b' y) q, wc c, ind-same c, k.once c, ap (λ (y : ℕ). cnt y (without c left)) q))
          (λ q. omega (arith, k.once x, wc x, (other x q).0, (other x q).1))
          (eq? x c);
      even = λ x i. k.even x (omega (arith, wc x));
      inside = λ x i. k.inside x (omega (arith, wc x));
    }

pub mark-step : (w m left : List ℕ) (b : ℕ → ℕ) (c : ℕ) (t : ListKind) (k : Marks w m left b) → unmet m c ≡ true
    → Marks w (set m (c / 16) (mark_of t)) (without c left) (λ x. b x + bin_cnt t x (c ∷ []))
mark-step w m left b c t k e = by t
  where
    j : 1 ≤ cnt c left
    j = (unmet-inside w m left b k c e).2

    stack : Marks w (set m (c / 16) stacked_mark) (without c left) (λ x. b x + 0)
    stack = marked w m left b c stacked_mark k (λ x. k.s x + ind (eqb x c)) (λ x. b x + 0) e (λ x q. (omega (arith, ind-other x c q), omega arith))
        (omega (arith, ind-same c, k.once c, j)) (omega (arith, ind-same c, k.once c, j))

    by : (t : ListKind) → Marks w (set m (c / 16) (mark_of t)) (without c left) (λ x. b x + bin_cnt t x (c ∷ []))
    by (Cache i) = stack
    by (Fast i) = stack
    by (Bin i) = marked w m left b c binned_mark k (λ x. k.s x) (λ x. b x + (ind (eqb x c) + 0)) e (λ x q. (refl, omega (arith, ind-other x c q)))
        (omega (arith, ind-same c, k.once c, j)) (omega (arith, ind-same c, k.once c, j))

-- ---- fewer are not met
cnt-mark : (m : List ℕ) (i v : ℕ) → (unmet_mark ≡ v → ⊥) → i < length m → get_or m i 0 ≡ unmet_mark → cnt unmet_mark m ≡ suc (cnt unmet_mark (set m i v))
cnt-mark [] i v n h e = absurd (not-suc-le-zero h)
cnt-mark (x ∷ m) zero v n h e = omega (arith, ap (λ (z : ℕ). ind (eqb unmet_mark z)) e, ind-other unmet_mark v n)
cnt-mark (x ∷ m) (suc i) v n h e = omega (arith, cnt-mark m i v n (le_of_suc-le-suc h) e)

pub mark-less : (m : List ℕ) (c v : ℕ) (k : ListKind) → v ≡ mark_of k → unmet m c ≡ true → cnt unmet_mark (set m (c / 16) v) < cnt unmet_mark m
mark-less m c v k e f =
    let o = unmet-one m c f in
    omega (arith, cnt-mark m (c / 16) v (λ z. two k (z ∙ e)) o.1 o.0)
  where
    two : (k : ListKind) → unmet_mark ≡ mark_of k → ⊥
    two (Cache j) z = omega (arith, z)
    two (Fast j) z = omega (arith, z)
    two (Bin j) z = omega (arith, z)

pub marks-same : (w m left left' : List ℕ) (b b' : ℕ → ℕ) → ((x : ℕ) → cnt x left ≡ cnt x left') → ((x : ℕ) → b x ≡ b' x) → Marks w m left b → Marks w m left' b'
marks-same w m left left' b b' e g k = record {
  s = k.s;
  is = λ x q. omega (arith, k.is x q, e x, g x);
  once = λ x. omega (arith, k.once x, e x, g x);
  even = λ x q. k.even x (omega (arith, e x));
  inside = λ x q. k.inside x (omega (arith, e x));
}
