-- `primitives::cache_takes` meets its contract: by the size, and by the count of its list. Assumes nothing.
use mathlib.Core.Path.{ap}
use Prim.Native.Nat.{ℕ}
use native.Mathlib.Omega.{arith}
use lib.Dec.{ltb}
use lib.ListN.{get_or}
use borrow.Author.Tests.{lt-leb, le-leb}
use Rattle.sizes.specs.Limits.{most_cached, cache_room}
use Rattle.sizes.specs.Layout.{cache_count}
use Rattle.primitives.proofs.cache_takes.Goals as goal

pub returns-then-z-gt-MOST_CACHED : goal.returns-then-z-gt-MOST_CACHED
returns-then-z-gt-MOST_CACHED c = rw (lt-leb c.args.z most_cached c.if-z-gt-MOST_CACHED.true)

pub cache_list-requires : goal.cache_list-requires
cache_list-requires c = (c.requires.0, c.if-z-gt-MOST_CACHED.false)

pub bounds-r-cache_list : goal.bounds-r-cache_list
bounds-r-cache_list c = omega (arith, c.cache_list.ensures.1, c.requires.1)

pub returns : goal.returns
returns c =
    rw (le-leb c.args.z most_cached c.if-z-gt-MOST_CACHED.false) (ap (λ (k : ℕ). ltb (get_or c.args.r.now (cache_count k) 0) cache_room) c.cache_list.ensures.0)
