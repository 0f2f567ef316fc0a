-- The ways through the tests of a chunk in its list, over plain lists: what the code has seen on each way decides the machine's test. Assumes nothing.
use Rattle.std.specs.Prelude.{◌≡◌, refl, List, Bool, true, false, ℕ, ◌≤◌, ◌<◌, eqb, ltb, leb, get_or}
use Rattle.std.proofs.Common.{sym, ap, ◌∙◌, eq-eqb, ne_eqb, lt-ltb, le-ltb}
use Rattle.sizes.specs.Limits.{none64}
use Rattle.sizes.specs.Sizes.{bin_of}
use Rattle.sizes.specs.Layout.{back_word}
use Rattle.machine.specs.Lists.{either}
use Rattle.machine.specs.View.{size_at}
use Rattle.machine.specs.Audit.{key_ok, may_stand}
use Rattle.machine.specs.declared.ListKind.{ListKind}
use Rattle.machine.specs.declared.ListKind.TheVariants.{Cache, Fast, Bin}
use Rattle.audit_lists.specs.Owns.{own_size}

-- ---- a list's kind, known
pub may_stand-by : (v : ℕ) (k k' : ListKind) (w r : List ℕ) (p n c : ℕ) (t : Bool) → k ≡ k' → t ≡ may_stand v k' w r p n c → t ≡ may_stand v k w r p n c
may_stand-by v k k' w r p n c t e h = h ∙ ap (λ (z : ListKind). may_stand v z w r p n c) (sym e)

-- ---- the size s of c, of which the list's kind is told
module _ (v : ℕ) (w r : List ℕ) (p n c s : ℕ) (e : s ≡ size_at w c) where
  pub own-not : (k : ListKind) → own_size k s ≡ false → false ≡ may_stand v k w r p n c
  own-not k f = by k (ap (own_size k) (sym e) ∙ f)
    where
      by : (k : ListKind) → own_size k (size_at w c) ≡ false → false ≡ may_stand v k w r p n c
      by (Cache j) f = rw (f, may_stand)
      by (Fast j) f = sym f
      by (Bin j) f = rw (f, may_stand)

  pub own-cache : (j : ℕ) → own_size (Cache j) s ≡ true → n < 7 → key_ok v w r c ≡ may_stand v (Cache j) w r p n c
  own-cache j f l = let g : own_size (Cache j) (size_at w c) ≡ true = ap (own_size (Cache j)) (sym e) ∙ f in rw (g, may_stand) (rw (lt-ltb n 7 l))

  pub own-cache-full : (j : ℕ) → own_size (Cache j) s ≡ true → 7 ≤ n → ltb n 7 ≡ may_stand v (Cache j) w r p n c
  own-cache-full j f l = let g : own_size (Cache j) (size_at w c) ≡ true = ap (own_size (Cache j)) (sym e) ∙ f in rw (g, may_stand) (rw (le-ltb n 7 l))

  pub own-fast : (j : ℕ) → own_size (Fast j) s ≡ true → true ≡ may_stand v (Fast j) w r p n c
  own-fast j f = sym (ap (own_size (Fast j)) (sym e) ∙ f)

-- ---- a chunk of a size that bin j owns; b is its back link
pub record BinSeen (j c : ℕ) (w : List ℕ) (s b : ℕ) : Type 0 where
  pub size : s ≡ size_at w c
  pub own : own_size (Bin j) s ≡ true
  pub back : b ≡ get_or w (back_word c) 0

module _ (v j p c : ℕ) (w r : List ℕ) (s b : ℕ) (h : BinSeen j c w s b) where
  own-true : either (eqb j 1) (eqb (bin_of (size_at w c)) j) ≡ true
  own-true = ap (own_size (Bin j)) (sym h.size) ∙ h.own

  pub bin-back : (b ≡ p → ⊥) → false ≡ may_stand v (Bin j) w r p 0 c
  bin-back n = let k = own-true in rw (k, may_stand) (rw (ne_eqb (get_or w (back_word c) 0) p (λ e. n (h.back ∙ e))))

  pub bin_small : b ≡ p → j < 64 → true ≡ may_stand v (Bin j) w r p 0 c
  bin_small e l = let k = own-true in rw (k, may_stand) (rw (eq-eqb (get_or w (back_word c) 0) p (sym h.back ∙ e)) (rw (lt-ltb j 64 l)))

  pub bin-first : b ≡ p → 64 ≤ j → p ≡ none64 → true ≡ may_stand v (Bin j) w r p 0 c
  bin-first e l n = let k = own-true in rw (k, may_stand) (rw (eq-eqb (get_or w (back_word c) 0) p (sym h.back ∙ e)) (rw (le-ltb j 64 l) (rw (eq-eqb p none64 n))))

  pub bin-order : (q : ℕ) → b ≡ p → 64 ≤ j → (p ≡ none64 → ⊥) → q ≡ size_at w p → leb s q ≡ may_stand v (Bin j) w r p 0 c
  bin-order q e l n g =
      let k = own-true in
      rw (k, may_stand) (rw (eq-eqb (get_or w (back_word c) 0) p (sym h.back ∙ e)) (rw (le-ltb j 64 l) (rw (ne_eqb p none64 n) (rw (h.size, g) refl))))
