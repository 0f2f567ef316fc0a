-- What the audit's tests of one list speak of: the marks, the place of a list's end. Definitions only.
use Rattle.std.specs.Prelude.{List, Bool, ℕ, ◌/◌, ◌%◌, eqb, get_or}
use Rattle.sizes.specs.Layout.{cache_count, bin_last}
use Rattle.machine.specs.Lists.{both}
use Rattle.machine.specs.declared.ListKind.{ListKind}
use Rattle.machine.specs.declared.ListKind.TheVariants.{Cache, Fast, Bin}
use Rattle.audit_walks.specs.Marks.{unmet_mark, stacked_mark, binned_mark}

-- c is a chunk, not the top, that no list had yet
abbrev pub unmet : List ℕ → ℕ → Bool
unmet m c = both (eqb (c % 16) 0) (eqb (get_or m (c / 16) 0) unmet_mark)

abbrev pub mark_of : ListKind → ℕ
mark_of (Cache k) = stacked_mark
mark_of (Fast k) = stacked_mark
mark_of (Bin j) = binned_mark

-- the word of the record that a list's end is held against; a fast list has none
abbrev pub tail_word : ListKind → ℕ
tail_word (Cache k) = cache_count k
tail_word (Fast k) = 0
tail_word (Bin j) = bin_last j
