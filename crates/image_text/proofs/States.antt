-- The state that a mark tells: the number of its list is the mark less the first list's, or there is none. By cases on the number. Assumes nothing.
use mathlib.Core.Path.{◌≡◌, refl}
use mathlib.Core.List.{List}
use mathlib.Core.Bool.{Bool, true, false}
use Prim.Native.Nat.{ℕ, ◌+◌, ◌-◌, ◌≤◌, ◌<◌}
use native.Mathlib.Omega.{arith}
use mathlib.Core.Logic.{inl, inr}
use borrow.Author.Tests.{le-ltb, lt-ltb}
use Rattle.std.proofs.Common.{◌∙◌, sym}
use Rattle.std.proofs.lemmas.Bool.{cases_lt}
use lib.Dec.{ltb}
use Rattle.machine.specs.View.{kind_at}
use Rattle.audit_walks.specs.Marks.{unmet_mark}
use Rattle.audit_reached.specs.Reached.{first_mark, reached_mark}
use Rattle.image_text.specs.declared.State.{State}
use Rattle.image_text.specs.declared.State.TheVariants.{Top, Marked}
use Rattle.image_text.specs.ImageText.{list_text, live_word, mark_text, state_text, told_text, Told}

pub state-live : (v i : ℕ) → v < first_mark → v ≡ reached_mark i → state_text i ≡ live_word
unfolding state_text
state-live v i l e = go (ltb i 200) e
  where
    go : (b : Bool) → v ≡ elim b [ true ↦ first_mark + i | false ↦ unmet_mark ] → elim b [ true ↦ list_text (kind_at i) | false ↦ live_word ] ≡ live_word
    go true e = absurd (omega arith)
    go false e = refl

pub state-listed : (v i : ℕ) → first_mark ≤ v → v ≡ reached_mark i → state_text i ≡ list_text (kind_at (v - first_mark))
unfolding state_text
state-listed v i l e = go (ltb i 200) e
  where
    go : (b : Bool) → v ≡ elim b [ true ↦ first_mark + i | false ↦ unmet_mark ]
        → elim b [ true ↦ list_text (kind_at i) | false ↦ live_word ] ≡ list_text (kind_at (v - first_mark))
    go true e = let s : v - first_mark ≡ i = omega arith in rw s
    go false e = absurd (omega arith)

mark-is : (v i : ℕ) → v ≡ reached_mark i → mark_text v ≡ state_text i
unfolding mark_text
mark-is v i e = elim (cases_lt v first_mark) [
  | inl l ↦ rw (mark_text, lt-ltb v first_mark l) (sym (state-live v i l e))
  | inr l ↦ rw (mark_text, le-ltb v first_mark l) (sym (state-listed v i l e))
]

pub told : (s : State) (t : List ℕ) → Told s t → told_text s ≡ t
told Top t e = sym e
told (Marked m) t (i, e, h) = mark-is m i e ∙ sym h
