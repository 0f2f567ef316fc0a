-- `image_skips::write_puts` meets its contract. The invariant: with all ones for the large chunks from x on the words are those at the end. The measure is how
-- many chunks these are. Assumes nothing.
use mathlib.Core.Path.{refl, sym, ◌∙◌}
use native.Mathlib.Omega.{arith}
use Rattle.machine.specs.Heap.{size_of}
use Rattle.primitives.specs.Rings.{linked-length}
use Rattle.image_skips.specs.SkipTurns.{putting-start, putting-end, putting-size, putting-next, putting-fewer, putting-bytes}
use Rattle.image_skips.proofs.write_puts.Goals as goal

pub bounds-r-at : goal.bounds-r-at
bounds-r-at c = omega (arith, c.bin_first-at.ensures, linked-length _ _ _ c.requires.linked)

pub loop-x-init : goal.loop-x-init
loop-x-init c = (refl, λ h o. putting-start h _ _ _ _ o c.bin_first-at.ensures c.link_of-x.ensures)

pub size_at-z-requires : goal.size_at-z-requires
size_at-z-requires c =
    let p = putting-bytes _ (c.loop-x.invariant.1 c.requires.heap c.requires.linked) c.loop-x-test.true in
    (p.0, omega (arith, p.1))

pub put_skips-requires : goal.put_skips-requires
put_skips-requires c =
    let p = putting-bytes _ (c.loop-x.invariant.1 c.requires.heap c.requires.linked) c.loop-x-test.true in
    let e = c.size_at-z.ensures in
    (p.0, omega (arith, p.2, e), omega (arith, p.3, e))

pub fwd_at-x-requires : goal.fwd_at-x-requires
fwd_at-x-requires c =
    let p = putting-bytes _ (c.loop-x.invariant.1 c.requires.heap c.requires.linked) c.loop-x-test.true in
    (p.0, omega (arith, p.1, c.put_skips.auto.a))

pub loop-x-smaller : goal.loop-x-smaller
loop-x-smaller c =
    let P = c.loop-x.invariant.1 c.requires.heap c.requires.linked in
    putting-fewer P c.loop-x-test.true (c.put_skips.ensures (λ y. size_of c.requires.heap y) (sym (c.size_at-z.ensures ∙ putting-size P c.loop-x-test.true))) c.fwd_at-x.ensures

pub loop-x-preserved : goal.loop-x-preserved
loop-x-preserved c = (
  c.put_skips.auto.a ∙ c.loop-x.invariant.0,
  λ h o.
      let P = c.loop-x.invariant.1 h o in
      putting-next P c.loop-x-test.true (c.put_skips.ensures (λ y. size_of h y) (sym (c.size_at-z.ensures ∙ putting-size P c.loop-x-test.true))) c.fwd_at-x.ensures,
)

pub shape_of-a : goal.shape_of-a
shape_of-a c = c.loop-x.invariant.0

pub returns : goal.returns
returns c = λ h o. putting-end (c.loop-x.invariant.1 h o) c.loop-x-test.false
