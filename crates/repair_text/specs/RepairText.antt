-- What heapmend makes of a file: what was read of it is mended by the rules of its version; a line is printed for each number that this changes, and the image of what it leaves
-- is the newest version's. Definitions only.
use Rattle.std.specs.Prelude.{List, [], ℕ, replicate, Ok, Err}
use Rattle.sizes.specs.Limits.{record_bytes}
use Rattle.text.specs.Text.{question_text}
use Rattle.image.specs.Image.{image, version_in, length_in, read_call, AfterReading, after_reading, reading_numbers}
use Rattle.repair.specs.RepairCall.{AfterRepair, after_repair, repair_by, repair_numbers}
use Rattle.repair_text.specs.Changes.{all_changes}

-- ---- a number of refusal, or what was read and what is left of it: arena bytes and record bytes of each
pub data Mending : Type 0 where
  refused : ℕ → Mending
  mends : List ℕ → List ℕ → List ℕ → List ℕ → Mending

abbrev pub mends_to : List ℕ → List ℕ → AfterRepair → Mending
mends_to a r (after_repair b q (Ok u)) = mends a r b q
mends_to a r (after_repair b q (Err x)) = refused (repair_numbers (Err x)).no

-- of a file of version v: 6, 7 and 1 as reading it is refused, then 11
abbrev pub mends_read : ℕ → AfterReading → Mending
mends_read v (after_reading a r (Err u)) = refused (reading_numbers (Err u)).no
mends_read v (after_reading a r (Ok x)) = mends_to a r (repair_by v a r)

unfoldable pub mending : List ℕ → Mending
mending f = mends_read (version_in f) (read_call f (replicate (length_in f) 0) (replicate record_bytes 0))

-- ---- the lines: what the repair changed, or `? N`
abbrev pub lines_of : Mending → List ℕ
lines_of (refused n) = question_text n
lines_of (mends a r b q) = all_changes a r b q

-- ---- the image of what is left; there is none of a file that is refused
abbrev pub image_of : Mending → List ℕ
image_of (refused n) = []
image_of (mends a r b q) = image b q

abbrev pub mend_text : List ℕ → List ℕ
mend_text f = lines_of (mending f)

abbrev pub mended_image : List ℕ → List ℕ
mended_image f = image_of (mending f)
