-- `script_run::feed_piece`: state and printed bytes are those of the bytes of the piece that were fed.
use Rattle.std.proofs.Common.{◌≡◌, ◌+◌, ◌*◌, length, take}
use Rattle.script_run.specs.Run.{step, behind, piece_step, run_of, Buffers, Within}
use Rattle.script_run.proofs.feed_piece.Given as goal

abbrev pub invariant-loop-b : goal.invariant-loop-b
invariant-loop-b l = record {
  buffers : Buffers l.arena l.control;
  out_len : length l.out ≡ length l.initial.out;
  within : Within l.log (l.initial.log.printed + 86 * l.b-index);
  fed : step (run_of l.arena l.control l.log) (take l.log.printed l.out)
      ≡ behind (take l.initial.log.printed l.initial.out) (piece_step (take l.b-index l.piece) (run_of l.initial.arena l.initial.control l.initial.log));
}
