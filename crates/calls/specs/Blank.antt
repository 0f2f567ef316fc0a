-- The record with no chunk in any list: of an opened arena, and of one whose open was refused. Assumes nothing.
use Rattle.std.specs.Prelude.{◌≡◌, refl, List, [], ◌∷◌, ◌++◌, ℕ, zero, suc, ◌+◌, ◌/◌, ◌%◌, ◌^◌, length, set, replicate}
use Rattle.std.proofs.Common.{ap}
use Rattle.sizes.specs.Limits.{none32}
use Rattle.machine.specs.Heap.{opened, halves, record_of}
use Rattle.machine.specs.Calls.{closed_record}

-- length n and top t, counts 0, the key q, the edition d, all else none
unfoldable pub blank : ℕ → ℕ → ℕ → ℕ → List ℕ
blank n t q d = (n ∷ t ∷ none32 ∷ []) ++ (replicate 64 none32 ++ (replicate 64 0 ++ (replicate 262 none32 ++ (halves q ++ d ∷ []))))

-- all none, before anything is written
unfoldable pub empty : List ℕ
empty = replicate 396 none32

pub empty-length : (l : List ℕ) → l ≡ empty → length l ≡ 396
unfolding empty
empty-length l e = ap length e

-- the first k counts are set to 0
unfoldable pub zeroed : ℕ → List ℕ → List ℕ
zeroed zero l = l
zeroed (suc k) l = set (zeroed k l) (67 + k) 0

pub zeroed-blank : (n t q d : ℕ) → set (set (set (zeroed 64 (set (set empty 0 n) 1 t)) 393 (q % 2 ^ 32)) 394 (q / 2 ^ 32)) 395 d ≡ blank n t q d
unfolding zeroed blank empty
zeroed-blank n t q d = refl

pub opened-blank : (n q d : ℕ) → record_of (opened n q d) ≡ blank n 0 q d
unfolding record_of blank
opened-blank n q d = refl

pub closed-blank : closed_record ≡ blank 0 none32 0 0
unfolding closed_record blank
closed-blank = refl
