-- `repair_by` meets its contract: refused for the shape, left as it is, refused for record or tiles, or mended (`Ways`). Assumes nothing.
use mathlib.Core.Path.{◌≡◌, refl, sym, ap, ◌∙◌}
use mathlib.Core.Bool.{true}
use native.Mathlib.Omega.{arith}
use lib.ListN.{length, replicate}
use borrow.Author.Rules.{rules}
use Rattle.machine.specs.Calls.{shape?}
use Rattle.audit_walks.specs.Marks.{ArenaBytes}
use Rattle.audit.specs.Zeros.{zeros-ask}
use Rattle.calls.specs.Ways.{allowed-true, shape-long, shape-allowed}
use Rattle.audit_reached.specs.Reached.{tiled?}
use Rattle.repair.proofs.Ways.{by_shape, by-sound, by-faulty, by-mended}
use Rattle.repair.proofs.mend.repair_by.Goals as goal

pub returns-then-not-shaped : goal.returns-then-not-shaped
returns-then-not-shaped c = by_shape _ _ _ (sym c.shaped.ensures ∙ c.if-not-shaped.true)

pub read_words-requires : goal.read_words-requires
read_words-requires c =
    let shape : shape? c.args.arena.now c.args.control.now ≡ true = sym c.shaped.ensures ∙ c.if-not-shaped.false in
    let long : length c.args.control.now ≡ 1584 = shape-long c.args.arena.now c.args.control.now shape in
    (long, search rules)

pub audit_marks-x-requires : goal.audit_marks-x-requires
audit_marks-x-requires c =
    let shape : shape? c.args.arena.now c.args.control.now ≡ true = sym c.shaped.ensures ∙ c.if-not-shaped.false in
    let arena : ArenaBytes c.args.arena.now = let l = allowed-true (length c.args.arena.now) (shape-allowed c.args.arena.now c.args.control.now shape) in record { even = l.0; least = l.1; small = l.2 } in
    let z = zeros-ask 16384 c.args.arena.now (replicate 396 0) arena arena.small refl in
    (z.0, search rules, z.2)

pub returns-then-is_sound : goal.returns-then-is_sound
returns-then-is_sound c =
    let shape : shape? c.args.arena.now c.args.control.now ≡ true = sym c.shaped.ensures ∙ c.if-not-shaped.false in
    by-sound _ _ _ _ _ shape c.read_words.ensures c.audit_marks-x.ensures.is (sym c.is_sound.ensures ∙ c.if-is_sound.true)

pub returns-then-not-tiled : goal.returns-then-not-tiled
returns-then-not-tiled c =
    let shape : shape? c.args.arena.now c.args.control.now ≡ true = sym c.shaped.ensures ∙ c.if-not-shaped.false in
    by-faulty _ _ _ _ _ shape c.read_words.ensures c.audit_marks-x.ensures.is (sym c.is_sound.ensures ∙ c.if-is_sound.false)
    (sym c.tiled.ensures ∙ c.if-not-tiled.true)

pub mend-requires : goal.mend-requires
mend-requires c =
    let shape : shape? c.args.arena.now c.args.control.now ≡ true = sym c.shaped.ensures ∙ c.if-not-shaped.false in
    let arena : ArenaBytes c.args.arena.now = let l = allowed-true (length c.args.arena.now) (shape-allowed c.args.arena.now c.args.control.now shape) in record { even = l.0; least = l.1; small = l.2 } in (
      record { arena = arena; room = omega (arith, c.clear_marks.auto.m, c.audit_marks-x.auto.m, arena.small) },
      search rules,
      sym (ap tiled? c.audit_marks-x.ensures.is) ∙ sym c.tiled.ensures ∙ c.if-not-tiled.false,
      c.clear_marks.ensures,
    )

pub write_words-requires : goal.write_words-requires
write_words-requires c =
    let shape : shape? c.args.arena.now c.args.control.now ≡ true = sym c.shaped.ensures ∙ c.if-not-shaped.false in
    let long : length c.args.control.now ≡ 1584 = shape-long c.args.arena.now c.args.control.now shape in
    (long, search rules)

pub returns : goal.returns
returns c =
    let shape : shape? c.args.arena.now c.args.control.now ≡ true = sym c.shaped.ensures ∙ c.if-not-shaped.false in
    let arena : ArenaBytes c.args.arena.now = let l = allowed-true (length c.args.arena.now) (shape-allowed c.args.arena.now c.args.control.now shape) in record { even = l.0; least = l.1; small = l.2 } in
    by-mended _ _ _ _ _ shape c.read_words.ensures c.audit_marks-x.ensures.is (sym c.is_sound.ensures ∙ c.if-is_sound.false)
    (sym c.tiled.ensures ∙ c.if-not-tiled.false) _ _ _
    (record { even = omega (arith, c.mend.auto.a, arena.even); small = λ i. omega (arith, c.slice_known-3-1.given i) })
    c.write_words.ensures c.mend.ensures
