-- `script_run::call_within` meets its contract: the call is made on the first part, and the rest of the bytes stays. Assumes nothing.
use Rattle.script_run.proofs.Steps.{within}
use Rattle.script_run.proofs.call_within.Goals as goal

pub returns : goal.returns
returns c = within _ _ _ _ c.call.ensures
