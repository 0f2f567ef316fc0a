-- `audit_lists::head` meets its contract, kind by kind. Assumes nothing.
use mathlib.Core.Path.{ap, ◌∙◌}
use Prim.Native.Nat.{ℕ}
use native.Mathlib.Omega.{arith}
use lib.ListN.{get_or}
use Rattle.audit_lists.specs.ByKind.{head-by}
use Rattle.machine.specs.declared.ListKind.TheVariants.{Cache, Fast, Bin}
use Rattle.machine.specs.View.{up, head_word}
use Rattle.audit_lists.proofs.head.Goals as goal

pub bounds-r-j : goal.bounds-r-j
bounds-r-j c = omega (arith, ap head_word c.in-Cache.is)

pub bounds-r-j-in-Fast : goal.bounds-r-j-in-Fast
bounds-r-j-in-Fast c = omega (arith, ap head_word c.in-Fast.is)

pub bin_first-i-requires : goal.bin_first-i-requires
bin_first-i-requires c = omega (arith, ap head_word c.in-Bin.is)

pub bounds-r-i : goal.bounds-r-i
bounds-r-i c = omega (arith, ap head_word c.in-Bin.is, c.bin_first-i.ensures)

pub returns-in-Cache : goal.returns-in-Cache
returns-in-Cache c = c.link_of.ensures ∙ head-by c.args.k (Cache _) c.args.r.now c.in-Cache.is

pub returns-in-Fast : goal.returns-in-Fast
returns-in-Fast c = c.link_of-in-Fast.ensures ∙ head-by c.args.k (Fast _) c.args.r.now c.in-Fast.is

pub returns-in-Bin : goal.returns-in-Bin
returns-in-Bin c = c.link_of-in-Bin.ensures ∙ ap (λ (n : ℕ). up (get_or c.args.r.now n 0)) c.bin_first-i.ensures ∙ head-by c.args.k (Bin _) c.args.r.now c.in-Bin.is
