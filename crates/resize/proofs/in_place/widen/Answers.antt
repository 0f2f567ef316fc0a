-- `resize::widen` meets its contract: the size of both together is written, and what stands then is finished. Assumes nothing.
use mathlib.Core.Path.{◌≡◌, ap}
use Prim.Native.Nat.{ℕ, ◌+◌}
use native.Mathlib.Omega.{arith}
use Rattle.le.specs.Arena.{arena_words}
use Rattle.machine.specs.View.{size_at}
use Rattle.release_join.specs.Reads.{arena-words-within, size-inside}
use Rattle.resize.specs.Widen.{own-inside, behind-inside, both_small, both-enough, widen-has, widen-gave}
use Rattle.resize.proofs.in_place.widen.Goals as goal

pub overflow_add-c : goal.overflow_add-c
overflow_add-c c = let k = behind-inside _ _ _ _ _ _ c.requires.ok c.requires.holds _ (arena-words-within c.args.a.now) in omega arith

pub size_at-requires : goal.size_at-requires
size_at-requires c = size-inside (behind-inside _ _ _ _ _ _ c.requires.ok c.requires.holds _ (arena-words-within c.args.a.now))

pub overflow_add-s : goal.overflow_add-s
overflow_add-s c =
    let both : c.args.z + c.size_at.result ≡ c.args.z + size_at (arena_words c.args.a.now) (c.args.c.0 + c.args.z) = ap (λ (y : ℕ). c.args.z + y) c.size_at.ensures in
    omega (arith, both_small _ _ _ _ _ _ c.requires.ok c.requires.holds _ (both))

pub set_own_size-requires : goal.set_own_size-requires
set_own_size-requires c =
    let both : c.args.z + c.size_at.result ≡ c.args.z + size_at (arena_words c.args.a.now) (c.args.c.0 + c.args.z) = ap (λ (y : ℕ). c.args.z + y) c.size_at.ensures in
    let k = own-inside _ _ _ _ _ _ c.requires.ok c.requires.holds _ (arena-words-within c.args.a.now) in
    (omega arith, omega arith, omega (arith, both_small _ _ _ _ _ _ c.requires.ok c.requires.holds _ (both)))

pub finish-requires : goal.finish-requires
finish-requires c =
    let both : c.args.z + c.size_at.result ≡ c.args.z + size_at (arena_words c.args.a.now) (c.args.c.0 + c.args.z) = ap (λ (y : ℕ). c.args.z + y) c.size_at.ensures in
    let p = c.requires in (
      both-enough _ _ _ _ _ _ p.ok p.holds _ (both),
      widen-has _ _ _ _ _ _ p.ok p.holds _ (both) c.set_own_size.ensures,
    )

pub returns : goal.returns
returns c =
    let both : c.args.z + c.size_at.result ≡ c.args.z + size_at (arena_words c.args.a.now) (c.args.c.0 + c.args.z) = ap (λ (y : ℕ). c.args.z + y) c.size_at.ensures in
    record { does = λ h o W. widen-gave h _ _ _ _ _ o W _ (both) c.set_own_size.ensures c.finish.ensures }
