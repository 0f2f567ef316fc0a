-- What heapimage prints of a file: its version and length, with -v the edition, the audit's answer, and a line for each tile with its state, by the rules of that
-- version. Definitions only.
use Rattle.std.specs.Prelude.{◌≡◌, List, [], ◌∷◌, ◌++◌, Bool, true, false, ℕ, ◌+◌, ◌-◌, ltb, length, replicate, Ok, Err}
use Rattle.le.specs.Arena.{arena_words}
use Rattle.sizes.specs.Limits.{record_bytes}
use Rattle.machine.specs.Heap.{Tile}
use Rattle.machine.specs.View.{kind_at, tiles_of, edition_in}
use Rattle.machine.specs.Audit.{audit_by, Audited}
use Rattle.machine.specs.Calls.{shape?, words_of}
use Rattle.machine.specs.declared.{ListKind.ListKind}
use Rattle.machine.specs.declared.ListKind.TheVariants.{Cache, Fast, Bin}
use Rattle.machine.specs.declared.Fault.TheVariants as A
use Rattle.text.specs.Text.{newline, blank, decimal, field, question_text}
use Rattle.image_text.specs.declared.Form.{Form}
use Rattle.image_text.specs.declared.Form.TheVariants.{Lines, Rects}
use Rattle.image_text.specs.declared.State.{State}
use Rattle.image_text.specs.declared.State.TheVariants.{Top, Marked}
use Rattle.audit_reached.specs.Reached.{first_mark, reached_in, reached_mark, tiled?}
use Rattle.image.specs.Image.{version_in, length_in, read_call, AfterReading, after_reading, reading_numbers}

-- ---- the words: image, edition, sound, fault, record, tile, flag, cache, fast, bin, live, top
abbrev pub image_word : List ℕ
image_word = 105 ∷ 109 ∷ 97 ∷ 103 ∷ 101 ∷ []

abbrev pub edition_name : List ℕ
edition_name = 101 ∷ 100 ∷ 105 ∷ 116 ∷ 105 ∷ 111 ∷ 110 ∷ []

abbrev pub sound_word : List ℕ
sound_word = 115 ∷ 111 ∷ 117 ∷ 110 ∷ 100 ∷ []

abbrev pub fault_word : List ℕ
fault_word = 102 ∷ 97 ∷ 117 ∷ 108 ∷ 116 ∷ []

abbrev pub record_word : List ℕ
record_word = 114 ∷ 101 ∷ 99 ∷ 111 ∷ 114 ∷ 100 ∷ []

abbrev pub tile_word : List ℕ
tile_word = 116 ∷ 105 ∷ 108 ∷ 101 ∷ []

abbrev pub flag_word : List ℕ
flag_word = 102 ∷ 108 ∷ 97 ∷ 103 ∷ []

abbrev pub cache_word : List ℕ
cache_word = 99 ∷ 97 ∷ 99 ∷ 104 ∷ 101 ∷ []

abbrev pub fast_word : List ℕ
fast_word = 102 ∷ 97 ∷ 115 ∷ 116 ∷ []

abbrev pub bin_word : List ℕ
bin_word = 98 ∷ 105 ∷ 110 ∷ []

abbrev pub live_word : List ℕ
live_word = 108 ∷ 105 ∷ 118 ∷ 101 ∷ []

abbrev pub top_word : List ℕ
top_word = 116 ∷ 111 ∷ 112 ∷ []

-- ---- image VERSION LENGTH
unfoldable pub head_text : ℕ → ℕ → List ℕ
head_text v n = image_word ++ (field v ++ (field n ++ (newline ∷ [])))

-- with -v the edition in the record r as well: edition D
unfoldable pub edition_text : List ℕ → List ℕ
edition_text r = edition_name ++ (field (edition_in (words_of r)) ++ (newline ∷ []))

unfoldable pub first_text : Bool → ℕ → ℕ → List ℕ → List ℕ
first_text e v n r = head_text v n ++ elim e [ true ↦ edition_text r | false ↦ [] ]

-- ---- the audit's answer: sound; fault, and what and where. A file that is read has a good shape
unfoldable pub list_text : ListKind → List ℕ
list_text (Cache k) = cache_word ++ field k
list_text (Fast k) = fast_word ++ field k
list_text (Bin j) = bin_word ++ field j

abbrev pub after_fault : List ℕ → List ℕ
after_fault t = fault_word ++ (blank ∷ (t ++ (newline ∷ [])))

unfoldable pub audit_text : Audited → List ℕ
audit_text (Ok u) = sound_word ++ (newline ∷ [])
audit_text (Err A.Record) = after_fault record_word
audit_text (Err (A.Tile o)) = after_fault (tile_word ++ field o)
audit_text (Err (A.List k)) = after_fault (list_text k)
audit_text (Err (A.Flag o)) = after_fault (flag_word ++ field o)
audit_text (Err A.Shape) = []

-- ---- OFFSET SIZE STATE, by rising offset, the top last. The state is the list that reaches the chunk (each is walked up to its first bad chunk), or live
unfoldable pub state_text : ℕ → List ℕ
state_text i = elim (ltb i 200) [ true ↦ list_text (kind_at i) | false ↦ live_word ]

-- what may be told of a tile: of the top its name; of a chunk, by its mark, the state of a list's number
abbrev pub Told : State → List ℕ → Type 0
Told Top t = t ≡ top_word
Told (Marked m) t = (i : ℕ) × (m ≡ reached_mark i) × (t ≡ state_text i)

-- what is told: a mark below the first list's is that of no list
unfoldable pub mark_text : ℕ → List ℕ
mark_text m = elim (ltb m first_mark) [ true ↦ live_word | false ↦ list_text (kind_at (m - first_mark)) ]

abbrev pub told_text : State → List ℕ
told_text Top = top_word
told_text (Marked m) = mark_text m

unfoldable pub tile_text : ℕ → ℕ → List ℕ → List ℕ
tile_text o s t = decimal 20 o ++ (field s ++ (blank ∷ (t ++ (newline ∷ []))))

-- ---- the same as a rectangle, 1 high, in a strip of the whole arena: <rect class="STATE" x="OFFSET" width="SIZE" height="1"><title>OFFSET SIZE STATE</title></rect>
abbrev pub class_is : List ℕ
class_is = 60 ∷ 114 ∷ 101 ∷ 99 ∷ 116 ∷ 32 ∷ 99 ∷ 108 ∷ 97 ∷ 115 ∷ 115 ∷ 61 ∷ 34 ∷ []

abbrev pub place_is : List ℕ
place_is = 34 ∷ 32 ∷ 120 ∷ 61 ∷ 34 ∷ []

abbrev pub width_is : List ℕ
width_is = 34 ∷ 32 ∷ 119 ∷ 105 ∷ 100 ∷ 116 ∷ 104 ∷ 61 ∷ 34 ∷ []

abbrev pub title_is : List ℕ
title_is = 34 ∷ 32 ∷ 104 ∷ 101 ∷ 105 ∷ 103 ∷ 104 ∷ 116 ∷ 61 ∷ 34 ∷ 49 ∷ 34 ∷ 62 ∷ 60 ∷ 116 ∷ 105 ∷ 116 ∷ 108 ∷ 101 ∷ 62 ∷ []

abbrev pub rect_ends : List ℕ
rect_ends = 60 ∷ 47 ∷ 116 ∷ 105 ∷ 116 ∷ 108 ∷ 101 ∷ 62 ∷ 60 ∷ 47 ∷ 114 ∷ 101 ∷ 99 ∷ 116 ∷ 62 ∷ 10 ∷ []

unfoldable pub rect_text : ℕ → ℕ → List ℕ → List ℕ
rect_text o s t =
    class_is ++ (t ++ (place_is ++ (decimal 20 o ++ (width_is ++ (decimal 20 s ++ (title_is ++ (decimal 20 o ++ (field s ++ (blank ∷ (t ++ rect_ends))))))))))

abbrev pub form_text : Form → ℕ → ℕ → List ℕ → List ℕ
form_text Lines = tile_text
form_text Rects = rect_text

-- ---- of all tiles. f: the form; list: the number of the list that reaches the chunk at an offset; n: the arena's length
unfoldable pub tiles_text : Form → (ℕ → ℕ) → ℕ → ℕ → List Tile → List ℕ
tiles_text f list n o [] = form_text f o (n - o) top_word
tiles_text f list n o (t ∷ ts) = form_text f o t.size (state_text (list o)) ++ tiles_text f list n (o + t.size) ts

-- those of arena bytes a, with the lists of the record's words w by the rules of version v
abbrev pub arena_text : Form → ℕ → List ℕ → List ℕ → List ℕ
arena_text f v a w = tiles_text f (reached_in v (arena_words a) w) (length a) 0 (tiles_of (arena_words a))

-- ---- arena bytes a and record bytes r, of a good shape, of which the audit by the rules of version v says x
pub record AuditedBy (v : ℕ) (a r : List ℕ) (x : Audited) : Type 0 where
  pub shape : shape? a r ≡ true
  pub is : x ≡ audit_by v (arena_words a) (words_of r)

-- the text of that heap, with -v or without
unfoldable pub heap_text : Bool → ℕ → List ℕ → List ℕ → Audited → List ℕ
heap_text e v a r x = first_text e v (length a) r ++ (audit_text x ++ elim (tiled? x) [ true ↦ arena_text Lines v a (words_of r) | false ↦ [] ])

-- ---- a file: what is read of it, of version v, into buffers of the right lengths, or `? N`
abbrev pub read_text : Bool → ℕ → AfterReading → List ℕ
read_text e v (after_reading a r (Err u)) = question_text (reading_numbers (Err u)).no
read_text e v (after_reading a r (Ok x)) = heap_text e v a r x

unfoldable pub image_text : Bool → List ℕ → List ℕ
image_text e f = read_text e (version_in f) (read_call f (replicate (length_in f) 0) (replicate record_bytes 0))
