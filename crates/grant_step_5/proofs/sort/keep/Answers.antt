-- `grant_step_5::keep` meets its contract: cached where the test says so, else granted. Assumes nothing.
use native.Mathlib.Omega.{arith}
use Rattle.primitives.specs.Stacks.{ok-length, loose-inside}
use Rattle.primitives.specs.CacheList.{takes-small, takes-room}
use Rattle.grant_step_5.specs.Keep.{keep-granted-gave, keep-cached-gave}
use Rattle.grant_step_5.proofs.sort.keep.Goals as goal

pub cache_takes-requires : goal.cache_takes-requires
cache_takes-requires c = (c.args.b.least, ok-length _ _ _ c.requires.ok)

pub cache_list-requires : goal.cache_list-requires
cache_list-requires c = (c.args.b.least, takes-small _ _ _ _ c.requires.ok _ c.cache_takes.ensures c.if-cache_takes.true)

pub push_cache-requires : goal.push_cache-requires
push_cache-requires c =
    let p = c.requires in
    (c.cache_list.ensures.1, record { heap = p.heap; ok = p.ok; holds = (p.holds, takes-room _ _ _ _ p.ok _ c.cache_takes.ensures c.if-cache_takes.true _ c.cache_list.ensures.0) })

pub returns-then-cache_takes : goal.returns-then-cache_takes
returns-then-cache_takes c = record { does = λ h o lo. keep-cached-gave h _ _ _ _ o _ c.cache_takes.ensures c.if-cache_takes.true _ c.cache_list.ensures.0 lo _ _ c.push_cache.ensures }

pub overflow_cast-result : goal.overflow_cast-result
overflow_cast-result c = let i = loose-inside _ _ _ c.requires.ok _ c.requires.holds in record { fits = omega arith }

pub returns : goal.returns
returns c = record { does = λ h o lo. keep-granted-gave h _ _ _ _ o _ c.cache_takes.ensures c.if-cache_takes.false }
