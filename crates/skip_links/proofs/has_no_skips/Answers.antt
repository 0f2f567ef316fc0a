-- `skip_links::has_no_skips` meets its contract: two words are asked for, the second if the first stands. Assumes nothing.
use Rattle.le.specs.Arena.{arena_words}
use Rattle.sizes.specs.Limits.{none64}
use Rattle.machine.specs.Writes.{skip_fwd, skip_back}
use Rattle.skip_links.specs.RingTurn.{two-stand, first-falls}
use Rattle.skip_links.proofs.has_no_skips.Goals as goal

pub returns-then-skip_fwd_at : goal.returns-then-skip_fwd_at
returns-then-skip_fwd_at c =
    let a = c.args in
    two-stand (skip_fwd a.c.0 none64) (skip_back a.c.0 none64) (arena_words a.a.now) c.skip_fwd_at.ensures c.if-skip_fwd_at.true c.skip_back_at.ensures

pub returns-else-skip_fwd_at : goal.returns-else-skip_fwd_at
returns-else-skip_fwd_at c =
    let a = c.args in
    first-falls (skip_fwd a.c.0 none64) (skip_back a.c.0 none64) (arena_words a.a.now) c.skip_fwd_at.ensures c.if-skip_fwd_at.false
