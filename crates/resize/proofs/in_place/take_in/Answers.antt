-- `resize::take_in` meets its contract: the chunk behind leaves its bin, and is taken in. Assumes nothing.
use native.Mathlib.Omega.{arith}
use lib.ListN.{length}
use Rattle.le.specs.Arena.{arena_words}
use Rattle.release_join.specs.Reads.{arena-words-within, size-inside}
use Rattle.release_join.specs.Ahead.{Nearby}
use Rattle.resize.specs.Widen.{reaches-nearby, reaches-binned, taken-has, take-in-gave}
use Rattle.resize.proofs.in_place.take_in.Goals as goal

pub overflow_add-n : goal.overflow_add-n
overflow_add-n c =
    let near : Nearby (length c.args.a.now) (arena_words c.args.a.now) c.args.r.now c.args.c.0 c.args.z = reaches-nearby _ _ _ _ _ _ c.requires.ok c.requires.holds _ (arena-words-within c.args.a.now) in
    let k = near in omega arith

pub size_at-zn-requires : goal.size_at-zn-requires
size_at-zn-requires c =
    let near : Nearby (length c.args.a.now) (arena_words c.args.a.now) c.args.r.now c.args.c.0 c.args.z = reaches-nearby _ _ _ _ _ _ c.requires.ok c.requires.holds _ (arena-words-within c.args.a.now) in
    size-inside (near).after

pub unlink_wherever-requires : goal.unlink_wherever-requires
unlink_wherever-requires c =
    let p = c.requires in
    record { heap = p.heap; ok = p.ok; holds = reaches-binned _ _ _ _ _ _ p.ok p.holds _ c.size_at-zn.ensures }

pub widen-requires : goal.widen-requires
widen-requires c =
    let p = c.requires in
    taken-has _ _ _ _ _ _ p.ok p.holds _ c.size_at-zn.ensures c.unlink_wherever.ensures

pub returns : goal.returns
returns c = record { does = λ h o R. take-in-gave h _ _ _ _ _ o R _ c.size_at-zn.ensures c.unlink_wherever.ensures c.widen.ensures }
