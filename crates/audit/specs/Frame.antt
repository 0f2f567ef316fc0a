-- What lies in live blocks does not matter to the audit: words that agree outside the usable words of live blocks pass it, and spell the same heap.
-- Assumes nothing.
use Rattle.std.specs.Prelude.{◌≡◌, List, ℕ, Ok}
use Rattle.std.proofs.Common.{sym, ◌∙◌}
use Rattle.machine.specs.Heap.{Heap}
use Rattle.machine.specs.View.{view}
use Rattle.machine.specs.Audit.{audit_of}
use Rattle.sound.specs.Relation.{Sound}
use Rattle.sound.specs.Usable.{Agrees, agrees-mem}
use Rattle.audit.specs.Exact.{audit-read, audit-complete}

module _ (h : Heap) (w v r : List ℕ) (s : Sound h w r) (a : Agrees h w v) where
  pub frame-sound : Sound h v r
  frame-sound = record { good = s.good; mem = agrees-mem h w v s.good s.mem a; rec = s.rec }

  pub frame-audit : audit_of v r ≡ Ok tt
  frame-audit = audit-complete h v r frame-sound

  pub frame-view : view v r ≡ view w r
  frame-view = audit-read h v r frame-sound ∙ sym (audit-read h w r s)
