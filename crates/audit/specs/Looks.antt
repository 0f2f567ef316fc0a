-- What a call finds before it writes: a fault, or in a sound heap whether the block is live; by version v of the rules, and by the newest. Assumes nothing.
use Rattle.std.specs.Prelude.{◌≡◌, refl, Bool, true, false, List, ℕ, leb, Result, Ok, Err}
use Rattle.std.proofs.Common.{sym, ap, ◌∙◌, arith}
use Rattle.sizes.specs.Limits.{newest}
use Rattle.sizes.specs.Offsets.{chunk_of}
use Rattle.machine.specs.Lists.{both}
use Rattle.machine.specs.Heap.{live?}
use Rattle.machine.specs.View.{view}
use Rattle.machine.specs.Audit.{sound?, audit_by, audit_of, Audited}
use Rattle.machine.specs.declared.Fault.{Fault}
use Rattle.audit_lists.specs.Listed.{unmet}
use Rattle.audit.specs.Done.{AuditDone}

-- whether mem is a live block's: tested in 64 bits, never cut
abbrev pub live_mem? : List ℕ → List ℕ → ℕ → Bool
live_mem? w r m = both (leb 16 m) (live? (view w r) (chunk_of m))

unfoldable pub look_by : ℕ → List ℕ → List ℕ → ℕ → Result Bool Fault
look_by v w r m = elim (audit_by v w r) [ Ok u ↦ Ok (live_mem? w r m) | Err f ↦ Err f ]

abbrev pub look_at : List ℕ → List ℕ → ℕ → Result Bool Fault
look_at w r m = look_by newest w r m

-- ---- what a look answers
pub look-faulty : (v : ℕ) (w r : List ℕ) (f : Fault) (m : List ℕ) (mem : ℕ) → AuditDone v w r (Err f) m → Err f ≡ look_by v w r mem
unfolding look_by
look-faulty v w r f m mem d = ap (λ (x : Audited). elim x [ Ok u ↦ Ok (live_mem? w r mem) | Err g ↦ Err g ]) d.is

-- what the marks say of mem, in a sound heap
live-marks : (v : ℕ) (w r m : List ℕ) (mem : ℕ) → AuditDone v w r (Ok tt) m → both (leb 16 mem) (unmet m (chunk_of mem)) ≡ live_mem? w r mem
live-marks v w r m mem d = ap (both (leb 16 mem)) (d.live refl (chunk_of mem))

pub look-sound : (v : ℕ) (w r m : List ℕ) (mem : ℕ) (t : Bool) → AuditDone v w r (Ok tt) m → t ≡ both (leb 16 mem) (unmet m (chunk_of mem)) → Ok t ≡ look_by v w r mem
unfolding look_by
look-sound v w r m mem t d q =
    ap Ok (q ∙ live-marks v w r m mem d) ∙ ap (λ (x : Audited). elim x [ Ok u ↦ Ok (live_mem? w r mem) | Err g ↦ Err g ]) d.is

pub look-live : (v : ℕ) (w r m : List ℕ) (mem : ℕ) (t : Bool) → AuditDone v w r (Ok tt) m → t ≡ both (leb 16 mem) (unmet m (chunk_of mem)) → t ≡ true → Ok true ≡ look_by v w r mem
look-live v w r m mem t d q z = ap Ok (sym z) ∙ look-sound v w r m mem t d q

pub look-dead : (v : ℕ) (w r m : List ℕ) (mem : ℕ) (t : Bool) → AuditDone v w r (Ok tt) m → t ≡ both (leb 16 mem) (unmet m (chunk_of mem)) → t ≡ false → Ok false ≡ look_by v w r mem
look-dead v w r m mem t d q z = ap Ok (sym z) ∙ look-sound v w r m mem t d q

-- ---- what a look tells
pub look-is-faulty : (w r : List ℕ) (f : Fault) (mem : ℕ) → Err f ≡ look_at w r mem → sound? (audit_of w r) ≡ false
unfolding look_by
look-is-faulty w r f mem e = go (audit_of w r) e
  where
    go : (x : Audited) → ◌≡◌ {A = Result Bool Fault} (Err f) (elim x [ Ok u ↦ Ok (live_mem? w r mem) | Err g ↦ Err g ]) → sound? x ≡ false
    go (Ok u) e = absurd (let z : ◌≡◌ {A = ℕ} 0 1 = cc in omega arith)
    go (Err g) e = refl

same : {x y : Bool} → ◌≡◌ {A = Result Bool Fault} (Ok x) (Ok y) → y ≡ x
same e = cc

pub look-tells : (w r : List ℕ) (mem : ℕ) (t : Bool) → Ok t ≡ look_at w r mem → (sound? (audit_of w r) ≡ true) × (live_mem? w r mem ≡ t)
unfolding look_by
look-tells w r mem t e = go (audit_of w r) e
  where
    go : (x : Audited) → ◌≡◌ {A = Result Bool Fault} (Ok t) (elim x [ Ok u ↦ Ok (live_mem? w r mem) | Err g ↦ Err g ]) → (sound? x ≡ true) × (live_mem? w r mem ≡ t)
    go (Ok u) e = (refl, same e)
    go (Err g) e = absurd (let z : ◌≡◌ {A = ℕ} 0 1 = cc in omega arith)

pub look-is-live : (w r : List ℕ) (mem : ℕ) → Ok true ≡ look_at w r mem → (sound? (audit_of w r) ≡ true) × (live_mem? w r mem ≡ true)
look-is-live w r mem e = look-tells w r mem true e

pub look-is-dead : (w r : List ℕ) (mem : ℕ) → Ok false ≡ look_at w r mem → (sound? (audit_of w r) ≡ true) × (live_mem? w r mem ≡ false)
look-is-dead w r mem e = look-tells w r mem false e

-- ---- the audit's answer in a look
abbrev pub fault_of : Result Bool Fault → Audited
fault_of (Ok t) = Ok tt
fault_of (Err f) = Err f

pub fault-of-look : (v : ℕ) (w r : List ℕ) (mem : ℕ) (l : Result Bool Fault) → l ≡ look_by v w r mem → fault_of l ≡ audit_by v w r
unfolding look_by
fault-of-look v w r mem l e = ap fault_of e ∙ go (audit_by v w r)
  where
    go : (x : Audited) → fault_of (elim x [ Ok u ↦ Ok (live_mem? w r mem) | Err g ↦ Err g ]) ≡ x
    go (Ok u) = refl
    go (Err g) = refl
