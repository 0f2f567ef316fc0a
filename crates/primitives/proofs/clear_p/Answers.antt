-- `primitives::clear_p` meets its contract: the size word is written with the size that was read, then the note. Assumes nothing.
use mathlib.Core.Path.{ap, ◌∙◌}
use mathlib.Core.List.{List}
use Prim.Native.Nat.{ℕ}
use Rattle.le.specs.Arena.{arena_words}
use Rattle.machine.specs.Writes.{size, note, put}
use Rattle.primitives.proofs.clear_p.Goals as goal

pub returns : goal.returns
returns c =
    let s = c.args in
    c.set_note.ensures
    ∙ ap (λ (w : List ℕ). put (note s.n.0 s.s) w)
    (c.set_size.ensures ∙ ap (λ (x : ℕ). put (size s.n.0 x 0) (arena_words s.a.now)) c.size_at-z.ensures)
