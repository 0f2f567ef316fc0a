-- `open` is the machine's open: refused for the record's size, refused for the arena's, refused for the edition, or done. Assumes nothing.
use mathlib.Core.Path.{sym, ◌∙◌, ap}
use native.Mathlib.Omega.{arith}
use lib.ListN.{length}
use borrow.Author.Tests.{eq-eqb, ne_eqb}
use mathlib.Core.Path.{refl}
use Rattle.le.specs.Number.{bytes}
use Rattle.calls.specs.Blank.{empty}
use Rattle.calls.specs.Ways.{kept, allowed-true, open-small, open-refused, open-edition, open_done}
use Rattle.calls.proofs.call_open.open.Goals as goal

pub returns-then-control-ne-RECORD_BYTES : goal.returns-then-control-ne-RECORD_BYTES
returns-then-control-ne-RECORD_BYTES c = open-small _ _ _ _ (ne_eqb _ _ c.if-control-ne-RECORD_BYTES.true)

pub fill-requires : goal.fill-requires
unfolding empty
fill-requires c = refl

pub shape_of-control-then-not-allowed : goal.shape_of-control-then-not-allowed
shape_of-control-then-not-allowed c = c.write_words.auto.b

pub returns-then-not-allowed : goal.returns-then-not-allowed
returns-then-not-allowed c =
    kept _ _ _ _ (c.write_words.ensures ∙ ap (bytes 4) c.fill.ensures)
    (open-refused _ _ _ _ (eq-eqb _ _ c.if-control-ne-RECORD_BYTES.false) (sym c.allowed.ensures ∙ c.if-not-allowed.true))

pub fill-requires-then-not-is_edition : goal.fill-requires-then-not-is_edition
unfolding empty
fill-requires-then-not-is_edition c = refl

pub shape_of-control-then-not-is_edition : goal.shape_of-control-then-not-is_edition
shape_of-control-then-not-is_edition c = c.write_words-then-not-is_edition.auto.b

pub returns-then-not-is_edition : goal.returns-then-not-is_edition
returns-then-not-is_edition c =
    kept _ _ _ _ (c.write_words-then-not-is_edition.ensures ∙ ap (bytes 4) c.fill-then-not-is_edition.ensures)
    (open-edition _ _ _ _ (eq-eqb _ _ c.if-control-ne-RECORD_BYTES.false) (sym c.allowed.ensures ∙ c.if-not-allowed.false) (sym c.is_edition.ensures ∙ c.if-not-is_edition.true))

pub overflow_cast-n : goal.overflow_cast-n
overflow_cast-n c = let l = allowed-true (length c.args.arena.now) (sym c.allowed.ensures ∙ c.if-not-allowed.false) in omega arith

pub fill-requires-2 : goal.fill-requires-2
unfolding empty
fill-requires-2 c = refl

pub set_size-requires : goal.set_size-requires
set_size-requires c = let l = allowed-true (length c.args.arena.now) (sym c.allowed.ensures ∙ c.if-not-allowed.false) in (refl, omega arith, omega arith)

pub shape_of-arena : goal.shape_of-arena
shape_of-arena c = c.set_size.auto.a

pub shape_of-control : goal.shape_of-control
shape_of-control c = c.write_words-2.auto.b

pub returns : goal.returns
returns c =
    let f = sym c.allowed.ensures ∙ c.if-not-allowed.false in
    let l = allowed-true (length c.args.arena.now) f in
    kept _ _ _ _ (c.write_words-2.ensures ∙ ap (bytes 4) c.fill-2.ensures)
    (open_done _ _ _ _ _ (eq-eqb _ _ c.if-control-ne-RECORD_BYTES.false) f (sym c.is_edition.ensures ∙ c.if-not-is_edition.false) (record { even = omega (arith, c.set_size.auto.a); small = λ i. omega (arith, c.slice_known-4-1.given i) }) c.set_size.ensures)
