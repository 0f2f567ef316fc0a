-- `script_run::begin` meets its contract: lent bytes and record are cleared, and the header is put. Assumes nothing.
use native.Mathlib.Omega.{arith}
use borrow.Author.Rules.{rules}
use Rattle.std.proofs.Common.{◌≡◌, length}
use Rattle.std.proofs.Math.ListN.{replicate}
use Rattle.script_run.proofs.Steps.{begun}
use Rattle.script_run.proofs.begin.Goals as goal

pub returns : goal.returns
returns c =
    let a : c.fill.new.self ≡ replicate (length c.args.arena.now) 0 = search rules in
    let r : c.fill-2.new.self ≡ replicate (length c.args.control.now) 0 = search rules in
    record {
      out_after = begun _ _ c.requires.buffers.arena_room c.requires.buffers.record_room a r c.no_bytes.ensures (search rules);
      within = record { opens = search rules; prints = omega (arith, c.put_header.ensures.exact) };
    }
