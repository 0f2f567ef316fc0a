-- A cache list is emptied chunk by chunk, and the lists one after another, as the machine's emptying does it: by the laws of a drain.
-- A cache list's length is its count in the record. Assumes nothing.
use Rattle.std.specs.Prelude.{◌≡◌, refl, true, List, ◌∷◌, ℕ, suc, ◌+◌, ◌-◌, ◌≤◌, ◌<◌, get_or, Option, Some}
use Rattle.std.proofs.Common.{subst, arith}
use Rattle.sizes.specs.Limits.{none64}
use Rattle.sizes.specs.Layout.{cache_count}
use Rattle.machine.specs.Lists.{hd, some?}
use Rattle.machine.specs.Heap.{Heap, stack}
use Rattle.machine.specs.Writes.{Ran}
use Rattle.machine.specs.Primitives.{take_cache}
use Rattle.machine.specs.Release.{release_past, drains, emptying}
use Rattle.sound.specs.Relation.{Mem, Loose, Good}
use Rattle.sound.specs.Moves.{nil, one, any}
use Rattle.sound.specs.Leaves.{Leaves, Cached}
use Rattle.sound.specs.Drain.{Taken, take_cache-taken}
use Rattle.sound.specs.Release.{release_past-leaves}
use Rattle.primitives.specs.Follow.{answer, Gave, Does}
use Rattle.primitives.specs.Stacks.{ok-cache_count}
use Rattle.primitives.specs.Reach.{Reach, Way, way-here}
use Rattle.consolidate.specs.Drain.{drain_of, drain-fewer, drains-next, drains-done}

-- ---- how a cache list's head is taken
pub take_head : (k : ℕ) (h : Heap) → answer (take_cache k h) ≡ Some (hd none64 (stack h k))
take_head k h = refl

pub take-takes : (h : Heap) (w : List ℕ) (k c : ℕ) (l : List ℕ) → Good h → Mem h w → stack h k ≡ c ∷ l → k < 74 → Cached k → Leaves h w (take_cache k h) (λ a g. Taken h k c l g) (any (one c)) nil
take-takes h w k c l g m e hk mk = take_cache-taken h w k c l g m e mk

-- ---- what falls with each turn: a cache list's count in the record
pub cache-less : (k : ℕ) → k < 64
    → {o₀ : Ran (Unit {0})} {w₀ w r : List ℕ} {c s : ℕ} {u q v q' : List ℕ} (R : Reach (Unit {0}) o₀ (drain_of take_cache release_past k) w₀ w r) → some?
    (stack R.heap k) ≡ true
    → Does (Option ℕ) (λ h. some? (stack h k) ≡ true) (take_cache k) w r (Some c) u q → Does ℕ (λ h. Good h × Loose h c) (release_past c) u q s v q'
    → get_or q' (cache_count k) 0 < get_or r (cache_count k) 0
cache-less k hk {o₀} {w₀} {w} {r} {c} {s} {u} {q} {v} {q'} R m P D =
    let L = drain-fewer take_cache release_past Cached take_head take-takes release_past-leaves k (omega arith) hk R.heap w r R.ok R.good m P D in
    omega (arith, ok-cache_count L.heap v q' L.ok k hk, ok-cache_count R.heap w r R.ok k hk, L.fewer)

-- ---- the outer loop: what is left of emptying when k lists are empty
abbrev pub from_cache : ℕ → Heap → Ran (Unit {0})
from_cache k = drains take_cache release_past (64 - k) k

pub emptying-start : (w r : List ℕ) → Way (Unit {0}) emptying (from_cache 0) w r w r
unfolding emptying
emptying-start w r = way-here (drains take_cache release_past 64 0) w r

module _ (k : ℕ) {o₀ : Ran (Unit {0})} {w₀ w r : List ℕ} where
  pub cache-list : k < 64 → {v q : List ℕ} → Reach (Unit {0}) o₀ (from_cache k) w₀ w r → Does (Unit {0}) Good (drain_of take_cache release_past k) w r tt v q
      → Reach (Unit {0}) o₀ (from_cache (k + 1)) w₀ v q
  cache-list hk {v} {q} R D =
      let n : ℕ = 64 - (k + 1) in
      let e : 64 - k ≡ suc n = omega arith in
      let i : suc k ≡ k + 1 = omega arith in
      subst (λ (i : ℕ). Reach (Unit {0}) o₀ (drains take_cache release_past n i) w₀ v q) i
      (drains-next take_cache release_past Cached take_head take-takes release_past-leaves k (omega arith) hk n (subst (λ (m : ℕ). Reach (Unit {0}) o₀ (drains take_cache release_past m k) w₀ w r) e R) D)

  pub cache-end : 64 ≤ k → Reach (Unit {0}) o₀ (from_cache k) w₀ w r → Gave (Unit {0}) o₀ tt w₀ w r
  cache-end hk R =
      let e : 64 - k ≡ 0 = omega arith in
      drains-done take_cache release_past k (subst (λ (m : ℕ). Reach (Unit {0}) o₀ (drains take_cache release_past m k) w₀ w r) e R)
