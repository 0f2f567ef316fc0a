-- Flags: the audit finds no flag fault exactly where the relation's flags hold of the tiles with the top, whose P is set. By induction on the tiles.
-- Assumes nothing.
use Rattle.std.specs.Prelude.{◌≡◌, refl, List, [], ◌∷◌, ◌++◌, Bool, true, false, ℕ, zero, suc, ◌+◌, ◌≤◌, eqb, Ok, Err}
use Rattle.std.proofs.Common.{arith, eqb-true, eq-eqb, ne_eqb}
use Rattle.std.proofs.lemmas.Bool.{eqb-false}
use Rattle.machine.specs.Lists.{both}
use Rattle.machine.specs.Heap.{Tile, tile, end_from}
use Rattle.machine.specs.Audit.{flag_ok, flag_fault}
use Rattle.machine.specs.declared.Fault.TheVariants as A
use Rattle.sound.specs.Relation.{flags}
use Rattle.sound.specs.Release.{both_true}
use Rattle.audit_walks.specs.Tests.{sound-if}
use Rattle.audit_walks.specs.Tiles.{noted}

-- one tile; q: how often the bins have the one before, s: its size; b: how often they have this one
record Flagged (t : Tile) (q s b : ℕ) : Type 0 where
  one : t.p + q ≡ 1
  apart : q + b ≤ 1
  note : t.p ≡ 0 → t.prev ≡ s

flag-sound : (t : Tile) (q s b : ℕ) → q ≤ 1 → b ≤ 1 → flag_ok t q s b ≡ true → Flagged t q s b
flag-sound t q s b hq hb e = go (eqb q 0) refl e
  where
    go : (z : Bool) → eqb q 0 ≡ z → elim z [ true ↦ eqb t.p 1 | false ↦ both (eqb t.p 0) (both (eqb t.prev s) (eqb b 0)) ] ≡ true → Flagged t q s b
    go true k e = record {
      one = omega (arith, eqb-true q 0 k, eqb-true t.p 1 e);
      apart = omega (arith, eqb-true q 0 k);
      note = λ z. absurd (omega (arith, eqb-true t.p 1 e));
    }
    go false k e =
        let x = both_true (eqb t.p 0) (both (eqb t.prev s) (eqb b 0)) e in
        let y = both_true (eqb t.prev s) (eqb b 0) x.1 in
        let n : q ≡ 0 → ⊥ = eqb-false q 0 k in
        record { one = omega (arith, eqb-true t.p 0 x.0); apart = omega (arith, eqb-true b 0 y.1); note = λ _. eqb-true t.prev s y.0 }

flag-complete : (t : Tile) (q s b : ℕ) → Flagged t q s b → flag_ok t q s b ≡ true
flag-complete t zero s b k = eq-eqb t.p 1 (omega (arith, k.one))
flag-complete t (suc q) s b k =
    rw (ne_eqb (suc q) 0 (λ z. omega (arith, z)), flag_ok)
    (rw (eq-eqb t.p 0 (omega (arith, k.one))) (rw (eq-eqb t.prev s (k.note (omega (arith, k.one)))) (eq-eqb b 0 (omega (arith, k.apart)))))

-- z: the top's size
pub flags-sound : (b : ℕ → ℕ) (top : Tile) (z o q s : ℕ) (ts : List Tile) → ((x : ℕ) → b x ≤ 1) → b (end_from o ts) ≡ 0 → q ≤ 1 → noted ts
    → flag_fault b top o q s ts ≡ Ok tt → flags b o q s (ts ++ tile z 1 0 ∷ []) × (top.p ≡ 1)
unfolding flag_fault
flags-sound b top z o q s [] h n hq m e =
    let k = flag-sound top q s 1 hq (omega arith) (sound-if (flag_ok top q s 1) (Ok tt) (Err (A.Flag o)) refl e).0 in
    ((omega (arith, k.apart), omega (arith, k.apart), (λ y. absurd (omega (arith, y)), λ y. refl), tt), omega (arith, k.one, k.apart))
flags-sound b top z o q s (t ∷ ts) h n hq m e =
    let i = sound-if (flag_ok t q s (b o)) _ (Err (A.Flag o)) refl e in
    let k = flag-sound t q s (b o) hq (h o) i.0 in
    let r = flags-sound b top z (o + t.size) (b o) t.size ts h n (h o) m.1 i.1 in
    ((k.one, k.apart, (k.note, m.0), r.0), r.1)

pub flags-complete : (b : ℕ → ℕ) (top : Tile) (z o q s : ℕ) (ts : List Tile) → top.p ≡ 1 → flags b o q s (ts ++ tile z 1 0 ∷ []) → flag_fault b top o q s ts ≡ Ok tt
unfolding flag_fault
flags-complete b top z o q s [] e k =
    rw (flag-complete top q s 1 (record { one = omega (arith, k.0, e); apart = omega (arith, k.0); note = λ y. absurd (omega (arith, y, e)) }), flag_fault)
flags-complete b top z o q s (t ∷ ts) e k =
    rw (flag-complete t q s (b o) (record { one = k.0; apart = k.1; note = k.2.0 }), flag_fault)
    (flags-complete b top z (o + t.size) (b o) t.size ts e k.3)

pub flags-noted : (b : ℕ → ℕ) (o q s : ℕ) (ts us : List Tile) → flags b o q s (ts ++ us) → noted ts
flags-noted b o q s [] us k = tt
flags-noted b o q s (t ∷ ts) us k = (k.2.1, flags-noted b (o + t.size) (b o) t.size ts us k.3)
