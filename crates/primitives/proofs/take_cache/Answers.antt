-- `primitives::take_cache` meets its contract: `take-cache-gave` says what the head, its link and its key come to. Assumes nothing.
use mathlib.Core.Path.{refl}
use Prim.Native.Nat.{◌+◌}
use native.Mathlib.Omega.{arith}
use lib.ListN.{length-set}
use Rattle.primitives.specs.Stacks.{ok-length, cache-inside, cache-narrow, cache-some, take-cache-gave}
use borrow.Author.Rules.{rules}
use Rattle.primitives.proofs.take_cache.Goals as goal

pub bounds-r-k : goal.bounds-r-k
bounds-r-k c = omega (arith, ok-length _ _ _ c.requires.1.ok)

pub overflow_cast-c : goal.overflow_cast-c
overflow_cast-c c = let g = c.slice_known-3-1.given (3 + c.args.k) in search rules

pub bounds-r-k-2 : goal.bounds-r-k-2
bounds-r-k-2 c = omega (arith, ok-length _ _ _ c.requires.1.ok)

pub edition_in-d-requires : goal.edition_in-d-requires
edition_in-d-requires c = ok-length _ _ _ c.requires.1.ok

pub stack_link_at-requires : goal.stack_link_at-requires
stack_link_at-requires c =
    let i = cache-inside _ _ _ c.requires.1.ok c.args.k c.requires.0 c.requires.1.holds in
    (omega arith, omega arith, omega arith)

pub word_of-requires : goal.word_of-requires
word_of-requires c =
    cache-narrow _ _ _ c.requires.1.ok c.args.k _ _ c.requires.0 c.requires.1.holds c.edition_in-d.ensures c.stack_link_at.ensures

pub bounds-r-k-3 : goal.bounds-r-k-3
bounds-r-k-3 c = omega (arith, ok-length _ _ _ c.requires.1.ok)

pub overflow_sub-r : goal.overflow_sub-r
overflow_sub-r c = cache-some _ _ _ c.requires.1.ok c.args.k c.requires.0 c.requires.1.holds

pub bounds-r-k-4 : goal.bounds-r-k-4
bounds-r-k-4 c = simp length-set (omega (arith, ok-length _ _ _ c.requires.1.ok))

pub set_key-requires : goal.set_key-requires
set_key-requires c =
    let i = cache-inside _ _ _ c.requires.1.ok c.args.k c.requires.0 c.requires.1.holds in
    (omega arith, omega arith)

pub returns : goal.returns
returns c =
    record {
      does = λ h o m.
          take-cache-gave h _ _ o c.args.k _ _ _ _ _ _ c.requires.0 m refl c.edition_in-d.ensures c.stack_link_at.ensures
          c.word_of.ensures refl c.set_key.ensures;
    }
