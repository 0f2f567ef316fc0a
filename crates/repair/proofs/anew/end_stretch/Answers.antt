-- `anew::end_stretch` meets its contract: with no free byte before the chunk one size word, else two and the previous size. Assumes nothing.
use mathlib.Core.Path.{sym, ap, ◌∙◌}
use mathlib.Core.List.{List}
use Prim.Native.Nat.{ℕ}
use Rattle.machine.specs.Writes.{size, note, put}
use Rattle.repair.proofs.AnewTurn.{stretch-none, stretch-free}
use Rattle.repair.proofs.anew.end_stretch.Goals as goal

pub returns-then-g-eq0 : goal.returns-then-g-eq0
returns-then-g-eq0 c =
    c.set_size.ensures ∙ sym (stretch-none c.args.o c.args.g c.args.s _ c.if-g-eq0.true)

pub returns : goal.returns
returns c =
    let o = c.args.o in
    let g = c.args.g in
    c.set_note.ensures
    ∙ ap (λ (x : List ℕ). put (note o g) x) (c.set_size-3.ensures
    ∙ ap (λ (x : List ℕ). put (size o c.args.s 0) x) c.set_size-2.ensures)
    ∙ sym (stretch-free o g c.args.s _ c.if-g-eq0.false c.requires.2)
