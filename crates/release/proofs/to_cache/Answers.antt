-- `release::to_cache` meets its contract: on the cache list where the test says so, else nothing. Assumes nothing.
use mathlib.Core.Path.{refl}
use Prim.Native.Nat.{◌≤◌}
use Rattle.primitives.specs.CacheList.{takes-small}
use Rattle.primitives.specs.Stacks.{ok-length, loose-inside}
use Rattle.release_join.specs.Reads.{size-inside}
use Rattle.release.specs.Release.{loose-least, takes-loose, cached-gave, cached-only, passed_is}
use Rattle.release.proofs.to_cache.Goals as goal

-- c's size as it was read

pub size_at-z-requires : goal.size_at-z-requires
size_at-z-requires c = size-inside (loose-inside _ _ _ c.requires.ok _ c.requires.holds)

pub cache_takes-requires : goal.cache_takes-requires
cache_takes-requires c =
    let least : 32 ≤ c.size_at-z.result = loose-least _ _ _ _ _ c.requires.ok c.requires.holds c.size_at-z.ensures in
    (least, ok-length _ _ _ c.requires.ok)

pub cache_list-k-requires : goal.cache_list-k-requires
cache_list-k-requires c =
    let least : 32 ≤ c.size_at-z.result = loose-least _ _ _ _ _ c.requires.ok c.requires.holds c.size_at-z.ensures in
    (least, takes-small _ _ _ _ c.requires.ok _ c.cache_takes.ensures c.if-cache_takes.true)

pub push_cache-requires : goal.push_cache-requires
push_cache-requires c = (
  c.cache_list-k.ensures.1,
  record {
    heap = c.requires.heap;
    ok = c.requires.ok;
    holds = takes-loose _ _ _ _ _ c.requires.ok c.requires.holds c.size_at-z.ensures _ c.cache_takes.ensures c.if-cache_takes.true _ c.cache_list-k.ensures.0;
  },
)

pub returns-then-cache_takes : goal.returns-then-cache_takes
returns-then-cache_takes c =
    let k = c.cache_list-k.ensures in
    record {
      does = record { does = λ h o lo. cached-gave h _ _ _ _ o lo c.size_at-z.ensures _ c.cache_takes.ensures c.if-cache_takes.true _ k.0 c.push_cache.ensures };
      list = k.1;
      only = cached-only _ _ _ _ _ c.requires.ok c.requires.holds c.size_at-z.ensures _ c.cache_takes.ensures c.if-cache_takes.true _ k.0 c.push_cache.ensures k.1;
    }

pub returns : goal.returns
returns c = record { arena = refl; rec = refl; past = λ h o lo. passed_is h _ _ _ _ o lo c.size_at-z.ensures _ c.cache_takes.ensures c.if-cache_takes.false }
