-- `release::release` meets its contract: on the cache, and then its list's two words alone changed; or past it. Assumes nothing.
use Rattle.release.specs.Release.{on-gave, past-has, past-does}
use Rattle.release.proofs.release.Goals as goal

pub to_cache-requires : goal.to_cache-requires
to_cache-requires c = record { heap = c.requires.heap; ok = c.requires.ok; holds = c.requires.holds.1 }

pub release_past-requires : goal.release_past-requires
release_past-requires c = past-has _ _ _ _ _ _ c.to_cache.ensures c.in_default.is c.requires

pub returns : goal.returns
returns c = record { does = past-does _ _ _ _ _ _ c.to_cache.ensures c.in_default.is c.release_past.ensures; changes = tt }

pub returns-in-Some : goal.returns-in-Some
returns-in-Some c =
    let on = on-gave _ _ _ _ _ _ _ c.to_cache.ensures c.in-Some.is in
    record { does = on.0; changes = on.1 }
