-- The text of a heap: first lines, answer and tiles, one behind the other. Assumes nothing.
use mathlib.Core.Path.{◌≡◌}
use mathlib.Core.List.{List, ◌++◌, append-nil}
use mathlib.Core.Bool.{Bool, true, false}
use Prim.Native.Nat.{ℕ}
use lib.ListN.{length}
use Rattle.machine.specs.Calls.{words_of}
use Rattle.audit_reached.specs.Reached.{tiled?}
use Rattle.image_text.specs.declared.Form.TheVariants.{Lines}
use Rattle.image_text.specs.ImageText.{head_text, edition_text, first_text, audit_text, arena_text, heap_text}
use Rattle.machine.specs.Audit.{Audited}

module _ (e : Bool) (v n : ℕ) (r : List ℕ) where
  pub first_short : e ≡ false → head_text v n ≡ first_text e v n r
  unfolding first_text
  first_short k = rw (k, append-nil)

  pub first-long : e ≡ true → head_text v n ++ edition_text r ≡ first_text e v n r
  unfolding first_text
  first-long k = rw k

module _ (e : Bool) (v : ℕ) (a r : List ℕ) (x : Audited) where
  pub heap-short : tiled? x ≡ false → first_text e v (length a) r ++ audit_text x ≡ heap_text e v a r x
  unfolding heap_text
  heap-short t = rw (t, append-nil)

  pub heap-long : (q : List ℕ) → tiled? x ≡ true → q ≡ words_of r
      → first_text e v (length a) r ++ (audit_text x ++ arena_text Lines v a q) ≡ heap_text e v a r x
  unfolding heap_text
  heap-long q t w = rw (t, w)
