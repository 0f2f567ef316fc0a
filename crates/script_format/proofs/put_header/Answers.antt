-- `script_format::put_header` meets its contract: the text that is copied is the header. Assumes nothing.
use Rattle.script_format.specs.Format.{header}
use Rattle.script_format.proofs.put_header.Goals as goal

pub returns-clause-adds : goal.returns-clause-adds
unfolding header
returns-clause-adds c = c.bytes.ensures.adds
