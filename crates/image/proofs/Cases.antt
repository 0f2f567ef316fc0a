-- What holds of each way through a reading holds of the reading. By its tests in turn. Assumes nothing.
use Rattle.std.specs.Prelude.{◌≡◌, Bool, List, Err}
use Rattle.std.proofs.Math.Path.{refl}
use Rattle.std.proofs.Common.{subst}
use Rattle.std.proofs.Math.Bool.{true, false}
use Prim.Native.Nat.{ℕ}
use Rattle.image.specs.declared.Unread.TheVariants.{NoMark, NoVersion, WrongLength}
use Rattle.image.specs.Image.{known?, marked?, version_in, record_in, arena_in, fits?, AfterReading, after_reading, heap_read, read_call}
use Rattle.image.specs.Ways.{read-no-mark, read-no-version, read-wrong-length, read_through}

pub read-cases {ℓ} : (P : AfterReading → Type ℓ) (f a r : List ℕ)
    → (marked? f ≡ false → P (after_reading a r (Err NoMark)))
    → (marked? f ≡ true → known? (version_in f) ≡ false → P (after_reading a r (Err NoVersion)))
    → (marked? f ≡ true → known? (version_in f) ≡ true → fits? f a r ≡ false → P (after_reading a r (Err WrongLength)))
    → (marked? f ≡ true → known? (version_in f) ≡ true → fits? f a r ≡ true → P (heap_read (version_in f) (arena_in f) (record_in f)))
    → P (read_call f a r)
read-cases P f a r six seven one ok = by (marked? f) (known? (version_in f)) (fits? f a r) refl refl refl
  where
    by : (m v t : Bool) → marked? f ≡ m → known? (version_in f) ≡ v → fits? f a r ≡ t → P (read_call f a r)
    by false v t e q s = subst P (read-no-mark f a r e) (six e)
    by true false t e q s = subst P (read-no-version f a r e q) (seven e q)
    by true true false e q s = subst P (read-wrong-length f a r e q s) (one e q s)
    by true true true e q s = subst P (read_through f a r e q s) (ok e q s)
