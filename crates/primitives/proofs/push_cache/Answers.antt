-- `primitives::push_cache` meets its contract: `push-cache-gave` says what the link, the key and the two words come to. Assumes nothing.
use mathlib.Core.Path.{refl}
use native.Mathlib.Omega.{arith}
use lib.ListN.{length, length-set}
use Rattle.primitives.specs.Chunks.{Inside}
use Rattle.primitives.specs.Stacks.{ok-length, ok-cache_count, loose-inside, push-cache-gave}
use Rattle.primitives.proofs.push_cache.Goals as goal

pub bounds-r-k : goal.bounds-r-k
bounds-r-k c = omega (arith, ok-length _ _ _ c.requires.1.ok)

pub bounds-r-k-2 : goal.bounds-r-k-2
bounds-r-k-2 c = omega (arith, ok-length _ _ _ c.requires.1.ok)

pub edition_in-d-requires : goal.edition_in-d-requires
edition_in-d-requires c = ok-length _ _ _ c.requires.1.ok

pub set_stack_link-requires : goal.set_stack_link-requires
set_stack_link-requires c =
    let inside : Inside (length c.args.a.now) c.args.c.0 = loose-inside _ _ _ c.requires.1.ok c.args.c.0 c.requires.1.holds.0 in
    let i = inside in (omega arith, omega arith, omega arith)

pub key_in-requires : goal.key_in-requires
key_in-requires c = ok-length _ _ _ c.requires.1.ok

pub set_key-requires : goal.set_key-requires
set_key-requires c =
    let inside : Inside (length c.args.a.now) c.args.c.0 = loose-inside _ _ _ c.requires.1.ok c.args.c.0 c.requires.1.holds.0 in
    let i = inside in (omega arith, omega (arith, c.set_stack_link.auto.a))

pub overflow_cast-r : goal.overflow_cast-r
overflow_cast-r c =
    let inside : Inside (length c.args.a.now) c.args.c.0 = loose-inside _ _ _ c.requires.1.ok c.args.c.0 c.requires.1.holds.0 in
    record { fits = omega (arith, (inside).small) }

pub bounds-r-k-3 : goal.bounds-r-k-3
bounds-r-k-3 c = omega (arith, ok-length _ _ _ c.requires.1.ok)

pub overflow_add-r-2 : goal.overflow_add-r-2
overflow_add-r-2 c = omega (arith, ok-cache_count _ _ _ c.requires.1.ok c.args.k c.requires.0, c.requires.1.holds.1)

pub bounds-r-k-4 : goal.bounds-r-k-4
bounds-r-k-4 c = simp length-set (omega (arith, ok-length _ _ _ c.requires.1.ok))

pub returns : goal.returns
returns c =
    record {
      does = λ h o m.
          push-cache-gave h _ _ o c.args.k c.args.c.0 _ _ _ _ _ _ c.requires.0 c.link_of.ensures c.edition_in-d.ensures
          c.set_stack_link.ensures c.key_in.ensures c.set_key.ensures refl;
    }
