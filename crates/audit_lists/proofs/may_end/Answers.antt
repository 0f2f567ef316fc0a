-- `audit_lists::may_end` meets its contract, kind by kind. Assumes nothing.
use mathlib.Core.Path.{ap, ◌∙◌}
use Prim.Native.Nat.{ℕ}
use native.Mathlib.Omega.{arith}
use lib.ListN.{get_or}
use lib.Dec.{eqb}
use Rattle.audit_lists.specs.ByKind.{may_end-by}
use Rattle.machine.specs.declared.ListKind.TheVariants.{Cache, Bin}
use Rattle.machine.specs.View.{up}
use Rattle.audit_lists.specs.Listed.{tail_word}
use Rattle.audit_lists.proofs.may_end.Goals as goal

pub bounds-r-j : goal.bounds-r-j
bounds-r-j c = omega (arith, ap tail_word c.in-Cache.is)

pub bin_last-i-requires : goal.bin_last-i-requires
bin_last-i-requires c = omega (arith, ap tail_word c.in-Bin.is)

pub bounds-r-i : goal.bounds-r-i
bounds-r-i c = omega (arith, ap tail_word c.in-Bin.is, c.bin_last-i.ensures)

pub returns-in-Cache : goal.returns-in-Cache
returns-in-Cache c = may_end-by c.args.k (Cache _) c.args.r.now c.args.p.0 c.args.n c.in-Cache.is

pub returns-in-Bin : goal.returns-in-Bin
returns-in-Bin c = ap (λ (v : ℕ). eqb v c.args.p.0) (c.link_of.ensures ∙ ap (λ (n : ℕ). up (get_or c.args.r.now n 0)) c.bin_last-i.ensures) ∙ may_end-by c.args.k (Bin _) c.args.r.now c.args.p.0 c.args.n c.in-Bin.is
