-- `SizeWord::make` meets its contract, with P and without. Assumes nothing.
use native.Mathlib.Omega.{arith}
use Rattle.sizes.proofs.SizeWord.make.Goals as goal

pub returns-then-p : goal.returns-then-p
returns-then-p c = rw c.if-p.true

pub returns-else-p : goal.returns-else-p
returns-else-p c = rw c.if-p.false (omega arith)
