-- `primitives::push_fast` meets its contract: `push-fast-gave` says what the link and the word come to. Assumes nothing.
use mathlib.Core.Path.{refl}
use native.Mathlib.Omega.{arith}
use lib.ListN.{length}
use Rattle.primitives.specs.Chunks.{Inside}
use Rattle.primitives.specs.Stacks.{ok-length, loose-inside, push-fast-gave}
use Rattle.primitives.proofs.push_fast.Goals as goal

pub bounds-r-k : goal.bounds-r-k
bounds-r-k c = omega (arith, ok-length _ _ _ c.requires.1.ok)

pub edition_in-d-requires : goal.edition_in-d-requires
edition_in-d-requires c = ok-length _ _ _ c.requires.1.ok

pub set_stack_link-requires : goal.set_stack_link-requires
set_stack_link-requires c =
    let inside : Inside (length c.args.a.now) c.args.c.0 = loose-inside _ _ _ c.requires.1.ok c.args.c.0 c.requires.1.holds in
    let i = inside in (omega arith, omega arith, omega arith)

pub overflow_cast-r : goal.overflow_cast-r
overflow_cast-r c =
    let inside : Inside (length c.args.a.now) c.args.c.0 = loose-inside _ _ _ c.requires.1.ok c.args.c.0 c.requires.1.holds in
    record { fits = omega (arith, (inside).small) }

pub bounds-r-k-2 : goal.bounds-r-k-2
bounds-r-k-2 c = omega (arith, ok-length _ _ _ c.requires.1.ok)

pub returns : goal.returns
returns c =
    record {
      does = λ h o m.
          push-fast-gave h _ _ o c.args.k c.args.c.0 _ _ _ _ c.requires.0 c.link_of.ensures c.edition_in-d.ensures
          c.set_stack_link.ensures refl;
    }
