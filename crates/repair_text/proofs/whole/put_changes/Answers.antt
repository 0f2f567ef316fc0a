-- `whole::put_changes` meets its contract: the record's lines, and the arena's behind them. There is room for both: an arena has at most 262,144 bytes. Assumes nothing.
use native.Mathlib.Omega.{arith}
use lib.ListN.{length}
use borrow.Author.Rules.{rules}
use Rattle.calls.specs.Ways.{allowed-true, shape-long, shape-allowed}
use Rattle.repair_text.proofs.whole.put_changes.Goals as goal

pub put_record_changes-requires : goal.put_record_changes-requires
put_record_changes-requires c =
    (shape-long c.args.arena0.now c.args.control0.now c.requires.control0_value.0, shape-long c.args.arena.now c.args.control.now c.requires.control0_value.1, search rules)

pub put_arena_changes-requires : goal.put_arena_changes-requires
put_arena_changes-requires c =
    let l = allowed-true (length c.args.arena0.now) (shape-allowed c.args.arena0.now c.args.control0.now c.requires.control0_value.0) in
    (omega arith, search rules, l.2, omega arith)

pub returns : goal.returns
returns c =
    let l = allowed-true (length c.args.arena0.now) (shape-allowed c.args.arena0.now c.args.control0.now c.requires.control0_value.0) in
    record { upper_bound = omega arith; out_after = search rules }
