-- `skip_links::set_linked` meets its contract: two writes, one after the other. Assumes nothing.
use mathlib.Core.Path.{ap, ◌∙◌}
use Rattle.machine.specs.Writes.{skip_back, put}
use Rattle.skip_links.proofs.set_linked.Goals as goal

pub returns : goal.returns
returns c = c.set_skip_back.ensures ∙ ap (put (skip_back c.args.c.0 c.args.q.0)) c.set_skip_fwd.ensures
