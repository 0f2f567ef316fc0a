-- `look_by`: each class of marks is cleared and long enough. Assumes nothing.
use native.Mathlib.Omega.{arith}
use Rattle.audit.specs.Zeros.{zeros-ask}
use Rattle.audit.proofs.call_look.look_by.Goals as goal

pub look_with-requires : goal.look_with-requires
look_with-requires c =
    zeros-ask 32 c.args.a.now c.args.r.now c.requires.0 (omega (arith, c.if-a-le512.true)) c.requires.1

pub returns-then-a-le512 : goal.returns-then-a-le512
returns-then-a-le512 c = c.look_with.ensures

pub look_with-requires-then-a-le8192 : goal.look_with-requires-then-a-le8192
look_with-requires-then-a-le8192 c =
    zeros-ask 512 c.args.a.now c.args.r.now c.requires.0 (omega (arith, c.if-a-le8192.true)) c.requires.1

pub returns-then-a-le8192 : goal.returns-then-a-le8192
returns-then-a-le8192 c = c.look_with-then-a-le8192.ensures

pub look_with-requires-then-a-le49152 : goal.look_with-requires-then-a-le49152
look_with-requires-then-a-le49152 c =
    zeros-ask 3072 c.args.a.now c.args.r.now c.requires.0 (omega (arith, c.if-a-le49152.true)) c.requires.1

pub returns-then-a-le49152 : goal.returns-then-a-le49152
returns-then-a-le49152 c = c.look_with-then-a-le49152.ensures

pub look_with-requires-2 : goal.look_with-requires-2
look_with-requires-2 c =
    zeros-ask 16384 c.args.a.now c.args.r.now c.requires.0 (omega (arith, c.requires.0.small)) c.requires.1

pub returns : goal.returns
returns c = c.look_with-2.ensures
