-- `audit` is the machine's: number 1 for a bad shape, else the audit of its words. Assumes nothing.
use mathlib.Core.Path.{sym, ◌∙◌}
use lib.ListN.{length}
use Rattle.calls.specs.Ways.{allowed-true, shape-long, shape-allowed, audit-shape, audit-good}
use borrow.Author.Rules.{rules}
use Rattle.calls.proofs.call_audit.audit.Goals as goal

pub returns-then-not-shaped : goal.returns-then-not-shaped
returns-then-not-shaped c = audit-shape _ _ (sym c.shaped.ensures ∙ c.if-not-shaped.true)

pub read_words-requires : goal.read_words-requires
read_words-requires c = (shape-long c.args.arena.now c.args.control.now (sym c.shaped.ensures ∙ c.if-not-shaped.false), search rules)

pub audit_words-requires : goal.audit_words-requires
audit_words-requires c =
    let l = allowed-true (length c.args.arena.now) (shape-allowed c.args.arena.now c.args.control.now (sym c.shaped.ensures ∙ c.if-not-shaped.false)) in
    (record { even = l.0; least = l.1; small = l.2 }, search rules)

pub returns : goal.returns
returns c = audit-good _ _ _ _ (sym c.shaped.ensures ∙ c.if-not-shaped.false) c.read_words.ensures c.audit_words.ensures
