-- `skip_links::set_no_skips` meets its contract: two writes, one after the other. Assumes nothing.
use mathlib.Core.Path.{ap, ◌∙◌}
use Rattle.sizes.specs.Limits.{none64}
use Rattle.machine.specs.Writes.{skip_back, put}
use Rattle.skip_links.proofs.set_no_skips.Goals as goal

pub returns : goal.returns
returns c = c.set_skip_back.ensures ∙ ap (put (skip_back c.args.c.0 none64)) c.set_skip_fwd.ensures
