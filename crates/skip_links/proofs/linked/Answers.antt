-- `skip_links::linked` meets its contract: two words are asked for, the second if the first stands. Assumes nothing.
use Rattle.le.specs.Arena.{arena_words}
use Rattle.machine.specs.Writes.{skip_fwd, skip_back}
use Rattle.skip_links.specs.RingTurn.{two-stand, first-falls}
use Rattle.skip_links.proofs.linked.Goals as goal

pub returns-then-skip_fwd_at-c : goal.returns-then-skip_fwd_at-c
returns-then-skip_fwd_at-c c =
    let a = c.args in
    two-stand (skip_fwd a.q.0 a.c.0) (skip_back a.c.0 a.q.0) (arena_words a.a.now) c.skip_fwd_at.ensures c.if-skip_fwd_at-c.true c.skip_back_at.ensures

pub returns-else-skip_fwd_at-c : goal.returns-else-skip_fwd_at-c
returns-else-skip_fwd_at-c c =
    let a = c.args in
    first-falls (skip_fwd a.q.0 a.c.0) (skip_back a.c.0 a.q.0) (arena_words a.a.now) c.skip_fwd_at.ensures c.if-skip_fwd_at-c.false
