-- When the cache takes one more chunk. A definition only.
use Rattle.std.specs.Prelude.{Bool, ℕ, ltb, leb}
use Rattle.sizes.specs.Limits.{most_cached, cache_room}
use Rattle.machine.specs.Lists.{both}

-- of size z, where its list has n
abbrev pub cache_takes : ℕ → ℕ → Bool
cache_takes n z = both (leb z most_cached) (ltb n cache_room)
