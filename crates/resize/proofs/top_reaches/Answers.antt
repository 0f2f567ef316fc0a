-- `resize::top_reaches` meets its contract: by the record's top, and its length. Assumes nothing.
use native.Mathlib.Omega.{arith}
use Prim.Native.Nat.{◌+◌}
use lib.ListN.{get_or}
use borrow.Author.Tests.{eq-eqb, ne_eqb}
use Rattle.sizes.specs.Layout.{top_word}
use Rattle.resize.proofs.top_reaches.Goals as goal

pub overflow_cast-top : goal.overflow_cast-top
overflow_cast-top c = omega (arith, c.shared_slice_known-1.given 1)

pub overflow_cast-result : goal.overflow_cast-result
overflow_cast-result c = omega (arith, c.shared_slice_known-then-c-z-1.given 0)

pub overflow_add-result-then-c-z : goal.overflow_add-result-then-c-z
overflow_add-result-then-c-z c = omega (arith, c.shared_slice_known-then-c-z-1.given 0)

pub returns-then-c-z : goal.returns-then-c-z
returns-then-c-z c = let s = c.args in rw (eq-eqb (s.c.0 + s.z) (get_or s.r.now top_word 0) c.if-c-z.true)

pub returns : goal.returns
returns c = let s = c.args in rw (ne_eqb (s.c.0 + s.z) (get_or s.r.now top_word 0) c.if-c-z.false)
