-- What the picture of a heap must show: a rectangle for each tile, whose place and width are the tile's. Definitions only.
use Rattle.std.specs.Prelude.{◌≡◌, ℕ, true, List, ◌++◌, replicate, Ok, Err}
use Rattle.sizes.specs.Limits.{record_bytes}
use Rattle.machine.specs.Calls.{words_of}
use Rattle.text.specs.Text.{question_text}
use Rattle.image.specs.Image.{version_in, length_in, read_call, AfterReading, after_reading, reading_numbers}
use Rattle.audit_reached.specs.Reached.{tiled?}
use Rattle.image_text.specs.ImageText.{arena_text}
use Rattle.image_text.specs.declared.Form.TheVariants.{Rects}

-- a text in which the rectangles of all tiles stand, one behind the other, by rising offset; v: the version of the rules; w: the record's words
pub record HasRects (v : ℕ) (a w text : List ℕ) : Type 0 where
  pub before : List ℕ
  pub after : List ℕ
  pub is : text ≡ before ++ (arena_text Rects v a w ++ after)

abbrev pub Shows : ℕ → List ℕ → List ℕ → List ℕ → Type 0
Shows v a r text = HasRects v a (words_of r) text

-- ---- what is printed of what was read of a file of version v: `? N`; or a picture, which shows the tiles unless the fault is record or tile
abbrev pub Pictured : ℕ → AfterReading → List ℕ → Type 0
Pictured v (after_reading a r (Err u)) text = text ≡ question_text (reading_numbers (Err u)).no
Pictured v (after_reading a r (Ok x)) text = tiled? x ≡ true → Shows v a r text

-- ---- of a file, as image_text reads it
abbrev pub PictureOf : List ℕ → List ℕ → Type 0
PictureOf f text = Pictured (version_in f) (read_call f (replicate (length_in f) 0) (replicate record_bytes 0)) text
