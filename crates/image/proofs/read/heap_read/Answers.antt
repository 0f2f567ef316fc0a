-- `heap_read` meets its contract: as it is by the newest rules or unsound, else with what it lacks. Assumes nothing.
use mathlib.Core.Path.{sym, ◌∙◌}
use mathlib.Core.Logic.{inl, inr}
use native.Mathlib.Omega.{arith}
use lib.ListN.{length}
use borrow.Author.Rules.{rules}
use Rattle.calls.specs.Ways.{allowed-true, shape-long, shape-allowed}
use Rattle.image.proofs.Older.{read-as-it-is, read-old, read-completed}
use Rattle.image.proofs.read.heap_read.Goals as goal

pub read_words-requires : goal.read_words-requires
read_words-requires c = (shape-long c.args.arena.now c.args.control.now c.requires.0, search rules)

pub audit_by-x-requires : goal.audit_by-x-requires
audit_by-x-requires c =
    let l = allowed-true (length c.args.arena.now) (shape-allowed c.args.arena.now c.args.control.now c.requires.0) in
    (record { even = l.0; least = l.1; small = l.2 }, search rules)

pub returns-then-v-ge-VERSION : goal.returns-then-v-ge-VERSION
returns-then-v-ge-VERSION c = read-as-it-is _ _ _ _ _ c.read_words.ensures c.audit_by-x.ensures (inl c.if-v-ge-VERSION.true)

pub returns-then-not-is_sound : goal.returns-then-not-is_sound
returns-then-not-is_sound c = read-as-it-is _ _ _ _ _ c.read_words.ensures c.audit_by-x.ensures (inr (sym c.is_sound.ensures ∙ c.if-not-is_sound.true))

pub complete-requires : goal.complete-requires
complete-requires c =
    read-old _ _ _ _ _ c.read_words.ensures c.audit_by-x.ensures c.requires.0 (λ i. omega (arith, c.shared_slice_known-1.given i)) c.requires.1 c.if-v-ge-VERSION.false (sym c.is_sound.ensures ∙ c.if-not-is_sound.false)

pub returns : goal.returns
returns c =
    let l = allowed-true (length c.args.arena.now) (shape-allowed c.args.arena.now c.args.control.now c.requires.0) in
    read-completed _ _ _ _ _ c.read_words.ensures c.audit_by-x.ensures c.requires.0 (λ i. omega (arith, c.shared_slice_known-1.given i)) c.requires.1 c.if-v-ge-VERSION.false (sym c.is_sound.ensures ∙ c.if-not-is_sound.false) _
    (record { even = omega (arith, c.complete.auto.arena, l.0); small = λ i. omega (arith, c.slice_known-2-1.given i) }) c.complete.ensures
