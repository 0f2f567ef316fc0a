-- What images of versions 1 and 2 lack: the skip links of the bins. The writes that put them there. Definitions only.
use Rattle.std.specs.Prelude.{List, [], ◌++◌, ℕ, zero, suc}
use Rattle.sizes.specs.Limits.{unsorted, first_large}
use Rattle.machine.specs.Heap.{Heap, bin, size_of}
use Rattle.machine.specs.Writes.{Write}
use Rattle.machine.specs.Skips.{ring, all_put}

-- the rings of n bins from number j on; all ones for the large chunks of unsorted, and the rings of bins 64 to 126
abbrev pub rings_from : ℕ → ℕ → Heap → List Write
rings_from zero j h = []
rings_from (suc n) j h = ring (λ x. size_of h x) (bin h j) ++ rings_from n (suc j) h

abbrev pub skips_of : Heap → List Write
skips_of h = all_put (λ x. size_of h x) (bin h unsorted) ++ rings_from 63 first_large h
