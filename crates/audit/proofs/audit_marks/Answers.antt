-- `audit_marks` meets its contract: each way out is a lemma of Whole. Assumes nothing.
use mathlib.Core.Path.{◌≡◌, refl, sym, ap, ◌∙◌}
use Rattle.std.proofs.lemmas.Result.{err_from_is_err_and}
use Prim.Native.Nat.{◌*◌}
use native.Mathlib.Omega.{arith}
use lib.ListN.{length, get_or}
use Rattle.le.specs.Arena.{arena_words}
use Rattle.machine.specs.Audit.{edition?}
use Rattle.audit_walks.specs.TileTurn.{arena-length}
use Rattle.audit.specs.Whole.{Told, audit-record, audit-edition, audit-tile, audit-list, flagging, audit-flag, bytes-kept}
use Rattle.audit.proofs.audit_marks.Goals as goal

pub overflow_cast-r : goal.overflow_cast-r
overflow_cast-r c = omega (arith, c.shared_slice_known-3-1.given 0)

pub returns-then-r-a : goal.returns-then-r-a
returns-then-r-a c =
    let len = arena-length c.args.a.now c.requires.0.arena in
    audit-record c.args.v (arena_words c.args.a.now) c.args.r.now _ (λ e. c.if-r-a.true (e ∙ len))

pub returns-then-not-is_edition : goal.returns-then-not-is_edition
returns-then-not-is_edition c =
    let e : get_or c.args.r.now 0 0 ≡ 8 * length (arena_words c.args.a.now) = omega (arith, c.if-r-a.false, arena-length c.args.a.now c.requires.0.arena) in
    audit-edition c.args.v (arena_words c.args.a.now) c.args.r.now _ e (sym (c.is_edition.ensures ∙ ap edition? c.edition_in.ensures) ∙ c.if-not-is_edition.true)

pub overflow_cast-top : goal.overflow_cast-top
overflow_cast-top c = omega (arith, c.shared_slice_known-4-1.given 1)

pub returns-in_err-tile_fault : goal.returns-in_err-tile_fault
returns-in_err-tile_fault c =
    let w = arena_words c.args.a.now in
    let e : Told w c.args.r.now = (omega (arith, c.if-r-a.false, arena-length c.args.a.now c.requires.0.arena), sym (c.is_edition.ensures ∙ ap edition? c.edition_in.ensures) ∙ c.if-not-is_edition.false) in
    let p = err_from_is_err_and c.from_residual.result c.from_residual.ensures.1 in
    rw (p.1, p.2) (audit-tile c.args.v w c.args.r.now _ _ _ e c.in_err-tile_fault.ensures refl)

pub list_fault-requires : goal.list_fault-requires
list_fault-requires c =
    let t = c.in_ok-tile_fault in
    (bytes-kept c.args.a.now c.args.m.now _ c.tile_fault.auto.m c.requires.0, c.requires.1, t.ensures.marks refl)

pub returns-in_err-list_fault : goal.returns-in_err-list_fault
returns-in_err-list_fault c =
    let w = arena_words c.args.a.now in
    let e : Told w c.args.r.now = (omega (arith, c.if-r-a.false, arena-length c.args.a.now c.requires.0.arena), sym (c.is_edition.ensures ∙ ap edition? c.edition_in.ensures) ∙ c.if-not-is_edition.false) in
    let p = err_from_is_err_and c.from_residual-in_err-list_fault.result c.from_residual-in_err-list_fault.ensures.1 in
    rw (p.1, p.2) (audit-list c.args.v w c.args.r.now _ _ _ _ _ e c.in_ok-tile_fault.ensures refl c.in_err-list_fault.ensures refl)

pub flag_fault-requires : goal.flag_fault-requires
flag_fault-requires c =
    let w = arena_words c.args.a.now in
    (bytes-kept c.args.a.now c.args.m.now _ (c.list_fault.auto.m ∙ c.tile_fault.auto.m) c.requires.0, flagging w c.args.r.now _ _ c.in_ok-tile_fault.ensures refl)

pub returns : goal.returns
returns c =
    let w = arena_words c.args.a.now in
    let e : Told w c.args.r.now = (omega (arith, c.if-r-a.false, arena-length c.args.a.now c.requires.0.arena), sym (c.is_edition.ensures ∙ ap edition? c.edition_in.ensures) ∙ c.if-not-is_edition.false) in
    audit-flag c.args.v w c.args.r.now _ _ _ _ _ e c.in_ok-tile_fault.ensures refl c.in_ok-list_fault.ensures refl c.flag_fault.ensures
