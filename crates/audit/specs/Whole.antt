-- The parts of the audit in turn: record, tiles, lists, flags; each way out is the machine's answer, and where that is sound the marks show the live blocks.
-- Assumes nothing.
use Rattle.std.specs.Prelude.{◌≡◌, refl, Bool, true, false, ℕ, zero, suc, ◌+◌, ◌*◌, ◌≤◌, eqb, ltb, length, get_or, Ok, Err}
use Rattle.std.proofs.Common.{sym, ◌∙◌, arith, eq-eqb, ne_eqb, lt-ltb, ltb-true}
use Rattle.std.proofs.Math.Path.{ap}
use mathlib.Core.List.{List}
use Rattle.sizes.specs.Layout.{length_word, top_word}
use Rattle.machine.specs.Lists.{both, cnt, cnt_all}
use Rattle.machine.specs.Heap.{end_from, total, binned, live?}
use Rattle.machine.specs.View.{tile_at, tiles_of, edition_in, view}
use Rattle.machine.specs.Audit.{sound?, first, edition?, record_fault, tile_fault, list_fault, flag_fault, audit_by, Audited}
use Rattle.machine.specs.declared.Fault.TheVariants as A
use Rattle.sound.specs.Tiles.{starts-once}
use Rattle.audit_lists.specs.Listed.{unmet}
use Rattle.audit_walks.specs.Tests.{not_sound, first-fault}
use Rattle.audit_walks.specs.Tiles.{tiles-sound, few}
use Rattle.audit_walks.specs.Marks.{Bytes, TilesDone, Flagging, FlagsDone, starts_of}
use Rattle.audit.specs.Lists.{minus_all}
use Rattle.audit.specs.Spelled.{lists_of, view-lists, total-lists, binned-later, lists_of-sound}
use Rattle.audit.specs.Done.{ListsDone, AuditDone, binned_of}
use Rattle.audit.specs.MarkLaws.{unmet-has, bins-told}

-- ---- an unmet chunk is a live block: a chunk, not the top, that no list has
live_test : (a b c : ℕ) → a + b ≡ c → c ≤ 1 → ltb 0 a ≡ both (ltb 0 c) (eqb b 0)
live_test zero b c e h = go (ltb 0 c) refl
  where
    go : (z : Bool) → ltb 0 c ≡ z → false ≡ both z (eqb b 0)
    go true q = sym (ne_eqb b 0 (λ n. omega (arith, ltb-true 0 c q)))
    go false q = refl
live_test (suc a) b c e h = lt-ltb 0 (suc a) (omega arith) ∙ sym (rw (lt-ltb 0 c (omega arith), both) (eq-eqb b 0 (omega arith)))

abbrev flag_part : List ℕ → List ℕ → Audited
flag_part w r = flag_fault (binned (view w r)) (tile_at w (end_from 0 (tiles_of w))) 0 0 0 (tiles_of w)

abbrev list_part : ℕ → List ℕ → List ℕ → Audited
list_part v w r = first (list_fault v w r 0 (starts_of w) (lists_of w r)) (flag_part w r)

abbrev tile_part : ℕ → List ℕ → List ℕ → Audited
tile_part v w r = first (tile_fault w (get_or r top_word 0) 0 (tiles_of w)) (list_part v w r)

pub flagging : (w r : List ℕ) (t : Audited) (m : List ℕ) → TilesDone w (get_or r top_word 0) t m → t ≡ Ok tt → Flagging w (get_or r top_word 0)
unfolding tiles_of
flagging w r t m d z =
    let k = tiles-sound (length w) w (get_or r top_word 0) 0 (sym d.is ∙ z) in
    record { tiles = k.0; at_top = k.1 }

-- the record says the arena's length, and an edition that there is
abbrev pub Told : List ℕ → List ℕ → Type 0
Told w r = (get_or r length_word 0 ≡ 8 * length w) × (edition? (edition_in r) ≡ true)

module _ (v : ℕ) (w r : List ℕ) where
  in_parts : audit_by v w r ≡ first (record_fault w r) (tile_part v w r)
  unfolding audit_by
  in_parts = ap (λ (ls : List (List ℕ)). first (record_fault w r) (first (tile_fault w (get_or r top_word 0) 0 (tiles_of w)) (first (list_fault v w r 0 (starts_of w) ls) (flag_part w r)))) (view-lists w r)

  pub audit-record : (m : List ℕ) → (get_or r length_word 0 ≡ 8 * length w → ⊥) → AuditDone v w r (Err A.Record) m
  audit-record m n = record { is = sym (in_parts ∙ ap (λ (z : Audited). first z (tile_part v w r)) rec); live = λ e. not_sound (Err A.Record) refl e }
    where
      rec : record_fault w r ≡ Err A.Record
      rec = rw (ne_eqb (get_or r length_word 0) (8 * length w) n, record_fault)

  pub audit-edition : (m : List ℕ) → get_or r length_word 0 ≡ 8 * length w → edition? (edition_in r) ≡ false → AuditDone v w r (Err A.Record) m
  audit-edition m e n = record { is = sym (in_parts ∙ ap (λ (z : Audited). first z (tile_part v w r)) rec); live = λ e. not_sound (Err A.Record) refl e }
    where
      rec : record_fault w r ≡ Err A.Record
      rec = rw (eq-eqb (get_or r length_word 0) (8 * length w) e, record_fault) (rw n)

  record-ok : Told w r → audit_by v w r ≡ tile_part v w r
  record-ok e = in_parts ∙ ap (λ (z : Audited). first z (tile_part v w r)) rec
    where
      rec : record_fault w r ≡ Ok tt
      rec = rw (eq-eqb (get_or r length_word 0) (8 * length w) e.0, record_fault) (rw e.1)

  pub audit-tile : (t : Audited) (m m' : List ℕ) → Told w r → TilesDone w (get_or r top_word 0) t m → sound? t ≡ false → AuditDone v w r t m'
  audit-tile t m m' e d z = record {
    is = sym (record-ok e ∙ ap (λ (x : Audited). first x (list_part v w r)) (sym d.is) ∙ first-fault t (list_part v w r) z);
    live = λ f. not_sound t z f;
  }

  tiles-ok : (t : Audited) (m : List ℕ) → Told w r → TilesDone w (get_or r top_word 0) t m → t ≡ Ok tt → audit_by v w r ≡ list_part v w r
  tiles-ok t m e d z = record-ok e ∙ ap (λ (x : Audited). first x (list_part v w r)) (sym d.is ∙ z)

  pub audit-list : (t l : Audited) (m m' m'' : List ℕ) → Told w r → TilesDone w (get_or r top_word 0) t m → t ≡ Ok tt → ListsDone v w r l m' → sound? l ≡ false
      → AuditDone v w r l m''
  audit-list t l m m' m'' e d z k y = record {
    is = sym (tiles-ok t m e d z ∙ ap (λ (x : Audited). first x (flag_part w r)) (sym k.is) ∙ first-fault l (flag_part w r) y);
    live = λ f. not_sound l y f;
  }

  live-marks : (t l : Audited) (m m' : List ℕ) → TilesDone w (get_or r top_word 0) t m → t ≡ Ok tt → ListsDone v w r l m' → l ≡ Ok tt → (x : ℕ) → unmet m' x ≡ live? (view w r) x
  live-marks t l m m' d z k y x =
      let g = flagging w r t m d z in
      let c = (lists_of-sound v w r (starts_of w) (few w (tiles_of w) g.tiles) (sym k.is ∙ y)).1 x in
      unmet-has w m' (minus_all (starts_of w) (lists_of w r)) (binned_of w r) (k.marks y) x
      ∙ live_test (cnt x (minus_all (starts_of w) (lists_of w r))) (total x (view w r)) (cnt x (starts_of w))
      (omega (arith, c, total-lists x (view w r) refl, ap (cnt_all x) (view-lists w r))) (starts-once (tiles_of w) 0 x g.tiles.sizes)

  pub audit-flag : (t l f : Audited) (m m' : List ℕ) → Told w r → TilesDone w (get_or r top_word 0) t m → t ≡ Ok tt → ListsDone v w r l m' → l ≡ Ok tt
      → FlagsDone w m' f → AuditDone v w r f m'
  audit-flag t l f m m' e d z k y g = record {
    is = g (binned (view w r)) (λ x i. binned-later w r x ∙ bins-told w m' _ (binned_of w r) (k.marks y) x ((d.marks z).marks.even x i))
        ∙ sym (tiles-ok t m e d z ∙ ap (λ (x : Audited). first x (flag_part w r)) (sym k.is ∙ y));
    live = λ _. live-marks t l m m' d z k y;
  }

-- ---- marks that were written
pub bytes-kept : (a m m' : List ℕ) → length m' ≡ length m → Bytes a m → Bytes a m'
bytes-kept a m m' e b = record { arena = b.arena; room = omega (arith, b.room) }
