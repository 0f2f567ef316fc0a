-- The audit of words has number 0, by whatever version: number 1 is for the shape alone. By the parts of the audit, each over its list. Assumes nothing.
use Rattle.std.specs.Prelude.{◌≡◌, refl, Bool, true, false, List, [], ◌∷◌, ℕ, suc, ◌+◌, ◌*◌, eqb, length, get_or, Ok, Err}
use Rattle.sizes.specs.Layout.{length_word, top_word}
use Rattle.sizes.specs.Limits.{none64}
use Rattle.machine.specs.Lists.{both, minus}
use Rattle.machine.specs.Heap.{Tile, starts, end_from, binned}
use Rattle.machine.specs.View.{size_at, tile_at, kind_at, edition_in, view}
use Rattle.machine.specs.Audit.{sound?, first, edition?, record_fault, tile_ok, tile_fault, good_from, skips_ok, list_fault, flag_ok, flag_fault, lists, audit_by, Audited}
use Rattle.machine.specs.Calls.{fault_numbers}
use Rattle.machine.specs.declared.{ListKind.ListKind}
use Rattle.machine.specs.declared.ListKind.TheVariants.{Cache, Fast, Bin}
use Rattle.machine.specs.declared.Fault.TheVariants as A

abbrev pub Zero : Audited → Type 0
Zero x = (fault_numbers x).no ≡ 0

zero-if : (t : Bool) (x y : Audited) → Zero x → Zero y → Zero (elim t [ true ↦ x | false ↦ y ])
zero-if true x y p q = p
zero-if false x y p q = q

zero-list : (k : ListKind) → Zero (Err (A.List k))
zero-list (Cache i) = refl
zero-list (Fast i) = refl
zero-list (Bin j) = refl

zero-tiles : (w : List ℕ) (top o : ℕ) (ts : List Tile) → Zero (tile_fault w top o ts)
unfolding tile_fault
zero-tiles w top o [] = zero-if (both (tile_ok w o) (both (eqb (o + size_at w o) (8 * length w)) (eqb top o))) (Ok tt) (Err (A.Tile o)) refl refl
zero-tiles w top o (t ∷ ts) = zero-if (tile_ok w o) (tile_fault w top (o + t.size) ts) (Err (A.Tile o)) (zero-tiles w top (o + t.size) ts) refl

zero-lists : (v : ℕ) (w r : List ℕ) (i : ℕ) (left : List ℕ) (ls : List (List ℕ)) → Zero (list_fault v w r i left ls)
unfolding list_fault
zero-lists v w r i left [] = refl
zero-lists v w r i left (l ∷ ls) =
    zero-if (both (good_from v (kind_at i) w r left none64 0 l) (skips_ok v (kind_at i) w l)) (list_fault v w r (suc i) (minus left l) ls) (Err (A.List (kind_at i)))
    (zero-lists v w r (suc i) (minus left l) ls) (zero-list (kind_at i))

zero_flags : (b : ℕ → ℕ) (top : Tile) (o q s : ℕ) (ts : List Tile) → Zero (flag_fault b top o q s ts)
unfolding flag_fault
zero_flags b top o q s [] = zero-if (flag_ok top q s 1) (Ok tt) (Err (A.Flag o)) refl refl
zero_flags b top o q s (t ∷ ts) =
    zero-if (flag_ok t q s (b o)) (flag_fault b top (o + t.size) (b o) t.size ts) (Err (A.Flag o)) (zero_flags b top (o + t.size) (b o) t.size ts) refl

zero-first : (x y : Audited) → Zero x → Zero y → Zero (first x y)
zero-first x y p q = zero-if (sound? x) y x q p

pub zero-audit : (v : ℕ) (w r : List ℕ) → Zero (audit_by v w r)
unfolding audit_by
zero-audit v w r =
    let h = view w r in
    zero-first (record_fault w r) _ (zero-if (both (eqb (get_or r length_word 0) (8 * length w)) (edition? (edition_in r))) (Ok tt) (Err A.Record) refl refl)
    (zero-first (tile_fault w (get_or r top_word 0) 0 h.tiles) _ (zero-tiles w (get_or r top_word 0) 0 h.tiles)
    (zero-first (list_fault v w r 0 (starts h) (lists h)) _ (zero-lists v w r 0 (starts h) (lists h))
    (zero_flags (binned h) (tile_at w (end_from 0 h.tiles)) 0 0 0 h.tiles)))
