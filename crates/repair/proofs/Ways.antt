-- Each way through a repair of bytes is the definition's. Assumes nothing.
use Rattle.std.specs.Prelude.{◌≡◌, refl, Bool, true, false, List, ℕ, Ok, Err}
use Rattle.std.proofs.Common.{sym, ◌∙◌}
use Rattle.std.proofs.Math.Path.{ap}
use Rattle.le.specs.Number.{bytes}
use Rattle.le.specs.Arena.{arena_words}
use Rattle.le.specs.ArenaLaws.{bytes-arena_words}
use Rattle.machine.specs.Heap.{record_of}
use Rattle.machine.specs.Writes.{Ran, ran, heap_of, writes, apply}
use Rattle.machine.specs.View.{view}
use Rattle.machine.specs.Audit.{sound?, audit_by, Audited}
use Rattle.machine.specs.Calls.{shape?, words_of}
use Rattle.calls.specs.Ways.{Octets}
use Rattle.repair.specs.declared.Unmended.TheVariants.{Shape, Faulty}
use Rattle.repair.specs.Repair.{free?, repair}
use Rattle.audit_reached.specs.Reached.{tiled?}
use Rattle.repair.specs.RepairCall.{AfterRepair, after_repair, left, mended, repaired, repair_by}
use Rattle.repair.specs.Told.{Mended}

pub by_shape : (v : ℕ) (a r : List ℕ) → shape? a r ≡ false → after_repair a r (Err Shape) ≡ repair_by v a r
unfolding repair_by
by_shape v a r e = rw (e, repair_by)

pub left_is : (a : List ℕ) (s : Ran (Unit {0})) → left a s ≡ after_repair (bytes 8 (apply (writes s) (arena_words a))) (bytes 4 (record_of (heap_of s))) (Ok tt)
left_is a (ran h ws x) = refl

module _ (v : ℕ) (a r q : List ℕ) (x : Audited) (e : shape? a r ≡ true) (k : q ≡ words_of r) (is : x ≡ audit_by v (arena_words a) q) where
  asked : repaired v a r x ≡ repair_by v a r
  unfolding repair_by
  asked = rw (e, repair_by) (ap (repaired v a r) (is ∙ ap (audit_by v (arena_words a)) k))

  pub by-sound : sound? x ≡ true → after_repair a r (Ok tt) ≡ repair_by v a r
  by-sound s = sym (rw (s, repaired)) ∙ asked

  pub by-faulty : sound? x ≡ false → tiled? x ≡ false → after_repair a r (Err Faulty) ≡ repair_by v a r
  by-faulty s j = sym (rw (s, repaired) (rw j)) ∙ asked

  pub by-mended : sound? x ≡ false → tiled? x ≡ true → (b c p : List ℕ) → Octets b → c ≡ bytes 4 p → Mended v (arena_words a) q (arena_words b) p
      → after_repair b c (Ok tt) ≡ repair_by v a r
  by-mended s j b c p o h m =
      let g : Ran (Unit {0}) = repair (free? v (arena_words a) q) (view (arena_words a) q) in
      ap (λ (l : List ℕ). after_repair l c (Ok tt)) (sym (bytes-arena_words b o.even o.small) ∙ ap (bytes 8) m.words)
      ∙ ap (λ (l : List ℕ). after_repair (bytes 8 (apply (writes g) (arena_words a))) l (Ok tt)) (h ∙ ap (bytes 4) m.rec)
      ∙ sym (left_is a g)
      ∙ ap (λ (l : List ℕ). left a (repair (free? v (arena_words a) l) (view (arena_words a) l))) k
      ∙ sym (rw (s, repaired) (rw j)) ∙ asked

-- ---- the four of them
pub repair-cases : (P : AfterRepair → Type 0) (v : ℕ) (a r : List ℕ)
    → (shape? a r ≡ false → P (after_repair a r (Err Shape)))
    → (shape? a r ≡ true → sound? (audit_by v (arena_words a) (words_of r)) ≡ true → P (after_repair a r (Ok tt)))
    → (shape? a r ≡ true → tiled? (audit_by v (arena_words a) (words_of r)) ≡ false → P (after_repair a r (Err Faulty)))
    → (shape? a r ≡ true → tiled? (audit_by v (arena_words a) (words_of r)) ≡ true → P (mended v a r))
    → P (repair_by v a r)
unfolding repair_by
repair-cases P v a r one same eleven ok = by (shape? a r) (sound? x) (tiled? x) refl refl refl
  where
    x : Audited
    x = audit_by v (arena_words a) (words_of r)

    by : (s t u : Bool) → shape? a r ≡ s → sound? x ≡ t → tiled? x ≡ u
        → P (elim s [ true ↦ elim t [ true ↦ after_repair a r (Ok tt) | false ↦ elim u [ true ↦ mended v a r | false ↦ after_repair a r (Err Faulty) ] ] | false ↦ after_repair a r (Err Shape) ])
    by false t u e q k = one e
    by true true u e q k = same e q
    by true false false e q k = eleven e k
    by true false true e q k = ok e k
