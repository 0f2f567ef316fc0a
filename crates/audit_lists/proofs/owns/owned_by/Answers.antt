-- `owns::owned_by` meets its contract, kind by kind. Assumes nothing.
use mathlib.Core.Path.{subst}
use Rattle.machine.specs.declared.ListKind.TheVariants.{Cache, Fast, Bin}
use Rattle.audit_lists.specs.Owns.{Numbered}
use Rattle.audit_lists.specs.OwnsLaws.{cache-owns, owns-by}
use Rattle.audit_lists.proofs.owns.owned_by.Goals as goal

pub owned_by_bin-requires : goal.owned_by_bin-requires
owned_by_bin-requires c = subst Numbered c.in-Bin.is c.requires

pub returns-in-Cache : goal.returns-in-Cache
returns-in-Cache c = owns-by _ (Cache _) _ _ c.in-Cache.is (cache-owns _ _ c.stack_size-s.ensures)

pub returns-in-Fast : goal.returns-in-Fast
returns-in-Fast c = owns-by _ (Fast _) _ _ c.in-Fast.is c.owned_by_fast.ensures

pub returns-in-Bin : goal.returns-in-Bin
returns-in-Bin c = owns-by _ (Bin _) _ _ c.in-Bin.is c.owned_by_bin.ensures
