-- What comes of c, a loose chunk, when the cache is tried: c goes on its list, or the cache has no room for it. Definitions only.
use Rattle.std.specs.Prelude.{◌≡◌, List, ℕ, ◌<◌, Option, Some, None}
use Rattle.sizes.specs.Limits.{cache_lists}
use Rattle.machine.specs.Heap.{Heap}
use Rattle.machine.specs.Writes.{giving}
use Rattle.machine.specs.Release.{release_past, release}
use Rattle.sound.specs.Relation.{Loose}
use Rattle.record_words.specs.CacheOnly.{CacheOnly}
use Rattle.primitives.specs.Follow.{Ok, Does}

-- cache list k has c first now: all that release does
pub record OnCache (c k : ℕ) (w r v q : List ℕ) : Type 0 where
  pub does : Does (Unit {0}) (λ h. Loose h c) (λ h. giving tt (release c h)) w r tt v q
  pub list : k < cache_lists
  pub only : CacheOnly k r q

-- nothing changed, and release goes past the cache
pub record Passed (c : ℕ) (w r v q : List ℕ) : Type 0 where
  pub arena : v ≡ w
  pub rec : q ≡ r
  pub past : (h : Heap) → Ok h w r → Loose h c → release c h ≡ release_past c h

-- the list that c went on, if any
abbrev pub Comes : ℕ → Option ℕ → List ℕ → List ℕ → List ℕ → List ℕ → Type 0
Comes c (Some k) w r v q = OnCache c k w r v q
Comes c None w r v q = Passed c w r v q
