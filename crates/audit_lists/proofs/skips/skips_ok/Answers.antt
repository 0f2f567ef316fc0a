-- `skips::skips_ok` meets its contract: each way is a lemma of SkipWays. Assumes nothing.
use mathlib.Core.Path.{sym, ap, ◌∙◌, subst}
use Prim.Native.Nat.{◌<◌}
use Rattle.le.specs.Arena.{arena_words}
use Rattle.sizes.specs.Layout.{key_low}
use Rattle.machine.specs.View.{head_word}
use Rattle.machine.specs.declared.ListKind.{ListKind}
use Rattle.audit_lists.specs.Linked.{head_of, list_of}
use Rattle.audit_lists.specs.SkipWays.{list-walk, list-walked, large-walk, large-walked, skips-unasked, skips-unsorted, skips-small, skips-ring}
use Rattle.audit_lists.proofs.skips.skips_ok.Goals as goal

pub returns-then-v-lt-SKIPS_FROM : goal.returns-then-v-lt-SKIPS_FROM
returns-then-v-lt-SKIPS_FROM c =
    let w = arena_words c.args.a.now in
    skips-unasked c.args.v w (list_of w c.args.r.now c.args.k) c.args.k c.if-v-lt-SKIPS_FROM.true

pub head-x-requires : goal.head-x-requires
head-x-requires c =
    (c.requires.0, subst (λ (z : ListKind). head_word z < key_low) c.in-Bin.is c.requires.1)

pub puts_stand-requires : goal.puts_stand-requires
puts_stand-requires c =
    let w = arena_words c.args.a.now in
    let r = c.args.r.now in
    let k = c.in-Bin.is in
    let h = c.head-x.ensures ∙ ap (head_of r) (sym k) in
    list-walked c.args.k w r _ c.requires.2 h _ k

pub returns-then-b-eq-UNSORTED : goal.returns-then-b-eq-UNSORTED
returns-then-b-eq-UNSORTED c =
    let w = arena_words c.args.a.now in
    let r = c.args.r.now in
    let k = c.in-Bin.is in
    let h = c.head-x.ensures ∙ ap (head_of r) (sym k) in
    skips-unsorted c.args.v w _ c.args.k _ _ k c.if-v-lt-SKIPS_FROM.false c.if-b-eq-UNSORTED.true (c.puts_stand.ensures _ (list-walk c.args.k w r _ c.requires.2 h _ k))

pub returns-then-b-lt-LARGE_BIN : goal.returns-then-b-lt-LARGE_BIN
returns-then-b-lt-LARGE_BIN c =
    let k = c.in-Bin.is in
    skips-small c.args.v (arena_words c.args.a.now) _ c.args.k _ k c.if-v-lt-SKIPS_FROM.false c.if-b-eq-UNSORTED.false c.if-b-lt-LARGE_BIN.true

pub ring_stands-requires : goal.ring_stands-requires
ring_stands-requires c =
    let w = arena_words c.args.a.now in
    let r = c.args.r.now in
    let k = c.in-Bin.is in
    let h = c.head-x.ensures ∙ ap (head_of r) (sym k) in
    large-walked c.args.k w r _ c.requires.2 h _ k c.if-b-lt-LARGE_BIN.false

pub returns-else-b-lt-LARGE_BIN : goal.returns-else-b-lt-LARGE_BIN
returns-else-b-lt-LARGE_BIN c =
    let w = arena_words c.args.a.now in
    let r = c.args.r.now in
    let k = c.in-Bin.is in
    let h = c.head-x.ensures ∙ ap (head_of r) (sym k) in
    skips-ring c.args.v w _ c.args.k _ _ k c.if-v-lt-SKIPS_FROM.false c.if-b-lt-LARGE_BIN.false (c.ring_stands.ensures _ (large-walk c.args.k w r _ c.requires.2 h _ k c.if-b-lt-LARGE_BIN.false))
