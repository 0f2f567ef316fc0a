-- What becomes of a chunk of the size that is asked for, as the code does it, follows the machine: cached where the cache takes it, else granted. Assumes nothing.
use Rattle.std.specs.Prelude.{◌≡◌, Bool, true, false, List, ℕ, ◌<◌, length, get_or}
use Rattle.std.proofs.Common.{sym, ap, ◌∙◌}
use Rattle.sizes.specs.Layout.{cache_count}
use Rattle.sizes.specs.Sizes.{cache_of}
use Rattle.machine.specs.Heap.{Heap, stack}
use Rattle.machine.specs.Writes.{giving}
use Rattle.machine.specs.Primitives.{push_cache}
use Rattle.machine.specs.Grant.{keep}
use Rattle.machine.specs.declared.{Turn.Turn}
use Rattle.machine.specs.declared.Turn.TheVariants as T
use Rattle.sound.specs.Relation.{Loose}
use Rattle.primitives.specs.Follow.{Ok, Gave, Does}
use Rattle.primitives.specs.FollowLaws.{gave-by, gave-giving, gave-none}
use Rattle.primitives.specs.Room.{cache_takes}
use Rattle.primitives.specs.CacheList.{takes-is, takes-room}

module _ (h : Heap) (w r : List ℕ) (b c : ℕ) (o : Ok h w r) (t : Bool) (et : t ≡ cache_takes (get_or r (cache_count (cache_of b)) 0) b) where
  pub keep-granted-gave : t ≡ false → Gave Turn (keep b c h) (T.Granted c) w w r
  unfolding keep
  keep-granted-gave n = gave-by (rw (takes-is h w r b o t et ∙ n, keep)) (gave-none h (T.Granted c) w r o.rec)

  pub keep-cached-gave : t ≡ true → (k : ℕ) → k ≡ cache_of b → Loose h c → (v q : List ℕ)
      → Does (Unit {0}) (λ h. Loose h c × (length (stack h k) < 7)) (push_cache k c) w r tt v q → Gave Turn (keep b c h) T.Cached w v q
  unfolding keep
  keep-cached-gave y k ek lo v q d =
      gave-by (rw (takes-is h w r b o t et ∙ y, keep) (ap (λ (k : ℕ). giving T.Cached (push_cache k c h)) (sym ek)))
      (gave-giving (push_cache k c h) tt T.Cached (d.does h o (lo, takes-room h w r b o t et y k ek)))
