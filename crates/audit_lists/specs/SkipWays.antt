-- The ways through the test of a list's skip links: what is walked on each way, and that what the code has seen there decides the machine's test.
-- Assumes nothing.
use Rattle.std.specs.Prelude.{◌≡◌, refl, List, Bool, true, ℕ, ◌≤◌, ◌<◌}
use Rattle.std.proofs.Common.{sym, ap, ◌∙◌, subst, arith, eq-eqb, ne_eqb, lt-ltb, le-ltb}
use Rattle.machine.specs.Writes.{stand?}
use Rattle.machine.specs.Skips.{ring, all_put, skips}
use Rattle.machine.specs.View.{size_at}
use Rattle.machine.specs.Audit.{skips_ok}
use Rattle.machine.specs.declared.ListKind.{ListKind}
use Rattle.machine.specs.declared.ListKind.TheVariants.{Cache, Fast, Bin}
use Rattle.skip_links.specs.Walk.{Walk, LargeWalk, Walked, LargeWalked}
use Rattle.audit_lists.specs.Linked.{head_of, list_of, KindWalk}

-- ---- what is walked from the head x
module _ (k : ListKind) (w r : List ℕ) (x : ℕ) (z : KindWalk k w r) (e : x ≡ head_of r k) where
  pub list-walk : (j : ℕ) → k ≡ Bin j → Walk w x (list_of w r k)
  list-walk j b = subst (λ (y : ℕ). Walk w y (list_of w r k)) (sym e) (z.walk j b)

  pub list-walked : (j : ℕ) → k ≡ Bin j → Walked w x
  list-walked j b = record { list = list_of w r k; walk = list-walk j b }

  pub large-walk : (j : ℕ) → k ≡ Bin j → 64 ≤ j → LargeWalk w x (list_of w r k)
  large-walk j b h = record { walk = list-walk j b; roomy = z.roomy j b h }

  pub large-walked : (j : ℕ) → k ≡ Bin j → 64 ≤ j → LargeWalked w x
  large-walked j b h = record { list = list_of w r k; walk = large-walk j b h }

-- ---- the test
module _ (v : ℕ) (w l : List ℕ) where
  by_kind : (k k' : ListKind) (t : Bool) → k ≡ k' → t ≡ skips_ok v k' w l → t ≡ skips_ok v k w l
  by_kind k k' t e h = h ∙ ap (λ (z : ListKind). skips_ok v z w l) (sym e)

  -- the version does not ask
  pub skips-unasked : (k : ListKind) → v < 3 → true ≡ skips_ok v k w l
  skips-unasked (Cache j) h = refl
  skips-unasked (Fast j) h = refl
  skips-unasked (Bin j) h = rw (lt-ltb v 3 h, skips_ok)

  -- unsorted; another small bin; a large one
  pub skips-unsorted : (k : ListKind) (j : ℕ) (t : Bool) → k ≡ Bin j → 3 ≤ v → j ≡ 1 → t ≡ stand? (all_put (λ y. size_at w y) l) w → t ≡ skips_ok v k w l
  skips-unsorted k j t e h one s =
      by_kind k (Bin j) t e (s ∙ sym (rw (le-ltb v 3 h, skips_ok) (rw (lt-ltb j 64 (omega arith), skips) (rw (eq-eqb j 1 one)))))

  pub skips-small : (k : ListKind) (j : ℕ) → k ≡ Bin j → 3 ≤ v → (j ≡ 1 → ⊥) → j < 64 → true ≡ skips_ok v k w l
  skips-small k j e h n s = by_kind k (Bin j) true e (sym (rw (le-ltb v 3 h, skips_ok) (rw (lt-ltb j 64 s, skips) (rw (ne_eqb j 1 n)))))

  pub skips-ring : (k : ListKind) (j : ℕ) (t : Bool) → k ≡ Bin j → 3 ≤ v → 64 ≤ j → t ≡ stand? (ring (λ y. size_at w y) l) w → t ≡ skips_ok v k w l
  skips-ring k j t e h g s = by_kind k (Bin j) t e (s ∙ sym (rw (le-ltb v 3 h, skips_ok) (rw (le-ltb j 64 g, skips))))
