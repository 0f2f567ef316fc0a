-- Where the audit's answer has tiles to show, the shape is good, and so are the tiles. Assumes nothing.
use Rattle.std.proofs.Common.{◌≡◌, ℕ, true, List, length, get_or, sym, ap, ◌∙◌, Ok}
use Rattle.le.specs.Arena.{arena_words}
use Rattle.sizes.specs.Layout.{top_word}
use Rattle.machine.specs.View.{tiles_of}
use Rattle.machine.specs.Audit.{tile_fault, audit_by, Audited}
use Rattle.machine.specs.Calls.{words_of}
use Rattle.audit_walks.specs.Marks.{ArenaBytes}
use Rattle.audit_reached.specs.Reached.{tiled?}
use Rattle.audit_reached.specs.Tiled.{tiled-good}
use Rattle.calls.specs.Ways.{allowed-true, shape-long, shape-allowed}
use Rattle.image_text.specs.ImageText.{AuditedBy}

-- arena bytes a and record bytes r whose tiles are shown, by the rules of version v
pub record Shown (v : ℕ) (a r : List ℕ) : Type 0 where
  pub arena : ArenaBytes a
  pub long : length r ≡ 1584
  pub tiled : tiled? (audit_by v (arena_words a) (words_of r)) ≡ true

pub words-shown : (v : ℕ) (w r : List ℕ) → tiled? (audit_by v w r) ≡ true → tile_fault w (get_or r top_word 0) 0 (tiles_of w) ≡ Ok tt
words-shown v w r e = (tiled-good v w r e).tiles

pub tiled-shown : (v : ℕ) (a r : List ℕ) (x : Audited) → AuditedBy v a r x → tiled? x ≡ true → Shown v a r
tiled-shown v a r x k e =
    let l = allowed-true (length a) (shape-allowed a r k.shape) in
    record { arena = record { even = l.0; least = l.1; small = l.2 }; long = shape-long a r k.shape; tiled = sym (ap tiled? k.is) ∙ e }
