-- `script_run::feed_piece` meets its contract: before the first byte nothing is fed, each turn feeds one more, and at the end all are.
use Rattle.std.proofs.Common.{◌≡◌, ◌∙◌, length, take, arith, rules}
use Rattle.std.proofs.Math.Seq.{take-length}
use Rattle.script_run.specs.Run.{run_of}
use Rattle.script_run.proofs.Steps.{none-fed, one-fed}
use Rattle.script_run.proofs.feed_piece.Goals as goal

pub loop-b-init : goal.loop-b-init
loop-b-init c = record {
  buffers = search rules;
  out_len = search rules;
  within = record { opens = c.requires.opened_bound; prints = search rules };
  fed = none-fed (take c.args.log.printed c.args.out.now) c.args.piece.now _;
}

pub feed-log-requires : goal.feed-log-requires
feed-log-requires c = record {
  buffers = search rules;
  opened_bound = c.loop-b.invariant.within.opens;
  printed_in_bounds = omega (arith, c.loop-b.invariant.within.prints, c.loop-b.invariant.out_len, c.requires.piece_in_bounds);
}

pub loop-b-preserved : goal.loop-b-preserved
loop-b-preserved c =
    let a = c.args in
    let h = c.loop-b in
    let f = c.feed-log in
    record {
      buffers = search rules;
      out_len = search rules;
      within = record { opens = f.ensures.within.opens; prints = omega (arith, f.ensures.within.prints, h.invariant.within.prints) };
      fed = one-fed (take a.log.printed a.out.now) a.piece.now h.b-index (run_of a.arena.now a.control.now a.log) c.loop-b-test.true h.invariant.fed f.ensures.out_after;
    }

pub returns : goal.returns
returns c =
    let a = c.args in
    let h = c.loop-b in
    let e : h.b-index ≡ length a.piece.now = omega arith in
    record {
      out_after = h.invariant.fed ∙ rw (e, take-length);
      within = record { opens = h.invariant.within.opens; prints = omega (arith, h.invariant.within.prints, h.invariant.out_len, c.requires.piece_in_bounds) };
    }
