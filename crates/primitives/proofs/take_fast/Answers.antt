-- `primitives::take_fast` meets its contract: `take-fast-gave` says what the head and its link come to. Assumes nothing.
use mathlib.Core.Path.{refl}
use Prim.Native.Nat.{◌+◌}
use native.Mathlib.Omega.{arith}
use Rattle.primitives.specs.Stacks.{ok-length, fast-inside, fast-narrow, take-fast-gave}
use borrow.Author.Rules.{rules}
use Rattle.primitives.proofs.take_fast.Goals as goal

pub bounds-r-k : goal.bounds-r-k
bounds-r-k c = omega (arith, ok-length _ _ _ c.requires.1.ok)

pub overflow_cast-c : goal.overflow_cast-c
overflow_cast-c c = let g = c.slice_known-2-1.given (131 + c.args.k) in search rules

pub edition_in-d-requires : goal.edition_in-d-requires
edition_in-d-requires c = ok-length _ _ _ c.requires.1.ok

pub stack_link_at-requires : goal.stack_link_at-requires
stack_link_at-requires c =
    let i = fast-inside _ _ _ c.requires.1.ok c.args.k c.requires.0 c.requires.1.holds in
    (omega arith, omega arith, omega arith)

pub word_of-requires : goal.word_of-requires
word_of-requires c =
    fast-narrow _ _ _ c.requires.1.ok c.args.k _ _ c.requires.0 c.requires.1.holds c.edition_in-d.ensures c.stack_link_at.ensures

pub bounds-r-k-2 : goal.bounds-r-k-2
bounds-r-k-2 c = omega (arith, ok-length _ _ _ c.requires.1.ok)

pub returns : goal.returns
returns c =
    record {
      does = λ h o m.
          take-fast-gave h _ _ o c.args.k _ _ _ _ _ c.requires.0 m refl c.edition_in-d.ensures c.stack_link_at.ensures c.word_of.ensures refl;
    }
