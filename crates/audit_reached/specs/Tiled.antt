-- Where the audit finds no fault of the record or of a tile, record and tiles are good: these faults come first. By the audit's parts in turn. Assumes nothing.
use Rattle.std.specs.Prelude.{◌≡◌, refl, List, [], ◌∷◌, Bool, true, false, ◌⊎◌, ℕ, ◌+◌, ◌*◌, eqb, length, get_or, Ok, Err}
use Rattle.std.proofs.Common.{eqb-true}
use Rattle.sizes.specs.Limits.{plain, mixed}
use Rattle.sizes.specs.Layout.{length_word, top_word}
use Rattle.machine.specs.Lists.{both}
use Rattle.machine.specs.Heap.{Tile}
use Rattle.machine.specs.View.{tiles_of, edition_in}
use Rattle.machine.specs.Audit.{sound?, first, edition?, tile_ok, tile_fault, audit_by, Audited}
use Rattle.machine.specs.declared.Fault.TheVariants as A
use Rattle.sound.specs.Release.{both_true}
use Rattle.audit_walks.specs.Tests.{false-true, is-sound, not_sound}
use Rattle.audit.specs.Spelled.{edition-out}
use Rattle.audit_reached.specs.Reached.{tiled?}

-- words and record: the length, the edition and the tiles are good
pub record Tiled (w r : List ℕ) : Type 0 where
  pub long : get_or r length_word 0 ≡ 8 * length w
  pub edited : (edition_in r ≡ plain) ⊎ (edition_in r ≡ mixed)
  pub tiles : tile_fault w (get_or r top_word 0) 0 (tiles_of w) ≡ Ok tt

-- ---- the first part finds no fault that has no tiles, so it finds none, and the next is asked
tiled-first : (x y : Audited) → (tiled? x ≡ true → x ≡ Ok tt) → tiled? (first x y) ≡ true → (x ≡ Ok tt) × (tiled? y ≡ true)
tiled-first x y h e = go (sound? x) refl e
  where
    go : (b : Bool) → sound? x ≡ b → tiled? (elim b [ true ↦ y | false ↦ x ]) ≡ true → (x ≡ Ok tt) × (tiled? y ≡ true)
    go true q e = (is-sound x q, e)
    go false q e = not_sound x q (h e)

record-tiled : (b : Bool) (y : Audited) → tiled? (first (elim b [ true ↦ Ok tt | false ↦ Err A.Record ]) y) ≡ true → (b ≡ true) × (tiled? y ≡ true)
record-tiled true y e = (refl, e)
record-tiled false y e = false-true e

tile-tiled : (w : List ℕ) (top o : ℕ) (ts : List Tile) → tiled? (tile_fault w top o ts) ≡ true → tile_fault w top o ts ≡ Ok tt
unfolding tile_fault
tile-tiled w top o [] e = go (both (tile_ok w o) _) e
  where
    go : (b : Bool) → tiled? (elim b [ true ↦ Ok tt | false ↦ Err (A.Tile o) ]) ≡ true → ◌≡◌ {A = Audited} (elim b [ true ↦ Ok tt | false ↦ Err (A.Tile o) ]) (Ok tt)
    go true e = refl
    go false e = false-true e
tile-tiled w top o (t ∷ ts) e = go (tile_ok w o) (λ h. tile-tiled w top (o + t.size) ts h) e
  where
    next : Audited
    next = tile_fault w top (o + t.size) ts

    go : (b : Bool) → (tiled? next ≡ true → next ≡ Ok tt) → tiled? (elim b [ true ↦ next | false ↦ Err (A.Tile o) ]) ≡ true
        → ◌≡◌ {A = Audited} (elim b [ true ↦ next | false ↦ Err (A.Tile o) ]) (Ok tt)
    go true h e = h e
    go false h e = false-true e

pub tiled-good : (v : ℕ) (w r : List ℕ) → tiled? (audit_by v w r) ≡ true → Tiled w r
unfolding audit_by
tiled-good v w r e =
    let j = record-tiled (both (eqb (get_or r length_word 0) (8 * length w)) (edition? (edition_in r))) _ e in
    let t = tiled-first (tile_fault w (get_or r top_word 0) 0 (tiles_of w)) _ (tile-tiled w (get_or r top_word 0) 0 (tiles_of w)) j.1 in
    let p = both_true (eqb (get_or r length_word 0) (8 * length w)) (edition? (edition_in r)) j.0 in
    record { long = eqb-true (get_or r length_word 0) (8 * length w) p.0; edited = edition-out (edition_in r) p.1; tiles = t.0 }
