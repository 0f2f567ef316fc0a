-- Where a chunk stands in a bin, as code knows it. Definitions only.
use Rattle.std.specs.Prelude.{◌≡◌, List, ◌++◌, ◌⊎◌, ℕ, ◌≤◌}
use Rattle.sizes.specs.Limits.{none64, unsorted}
use Rattle.sizes.specs.Sizes.{bin_of}
use Rattle.machine.specs.Lists.{hd, lst, cnt}
use Rattle.machine.specs.Heap.{Heap, bin}

-- between the chunks p and n of bin j, whose two parts are xs and ys; none64 at either end
pub record Gap (h : Heap) (j : ℕ) (xs ys : List ℕ) (p n : ℕ) : Type 0 where
  pub parts : bin h j ≡ xs ++ ys
  pub left : p ≡ lst none64 xs
  pub right : n ≡ hd none64 ys

-- bin j has c
pub record InBin (h : Heap) (j c : ℕ) : Type 0 where
  pub here : 1 ≤ cnt c (bin h j)
  pub low : 1 ≤ j

-- and is unsorted or the bin of size z: what the size tells of a binned chunk
pub record Home (h : Heap) (j c z : ℕ) : Type 0 where
  pub here : 1 ≤ cnt c (bin h j)
  pub low : 1 ≤ j
  pub which : (j ≡ unsorted) ⊎ (j ≡ bin_of z)

-- p and n are such neighbours; c is binned in such a bin
pub record Between (h : Heap) (j p n : ℕ) : Type 0 where
  pub xs : List ℕ
  pub ys : List ℕ
  pub gap : Gap h j xs ys p n

pub record Binned (h : Heap) (c z : ℕ) : Type 0 where
  pub bin-no : ℕ
  pub home : Home h bin-no c z

abbrev pub home-in : (h : Heap) (j c z : ℕ) → Home h j c z → InBin h j c
home-in h j c z m = record { here = m.here; low = m.low }
