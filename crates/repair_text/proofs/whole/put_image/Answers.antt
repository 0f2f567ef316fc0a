-- `whole::put_image` meets its contract: the bytes lent are as many as the image has, so it is written. Assumes nothing.
use mathlib.Core.Path.{◌≡◌, sym, ap, ◌∙◌}
use Prim.Native.Nat.{ℕ, ◌+◌, ◌≤◌}
use native.Mathlib.Omega.{arith}
use lib.ListN.{length, take}
use lib.Seq.{length-take-le, take_at}
use Rattle.calls.specs.Ways.{allowed-true, shape-allowed}
use Rattle.image.specs.Ways.{write-through}
use Rattle.image.proofs.Inverse.{file_left}
use Rattle.repair_text.proofs.whole.put_image.Goals as goal

pub slice_bounds-write_image-end : goal.slice_bounds-write_image-end
slice_bounds-write_image-end c =
    let room : 1593 + length c.args.arena.now ≤ length c.args.mended.now = omega (arith, (allowed-true (length c.args.arena.now) (shape-allowed c.args.arena.now c.args.control.now c.requires.control_value)).2, c.requires.mended_len) in
    room

pub slice_bounds-write_image-end-2 : goal.slice_bounds-write_image-end-2
slice_bounds-write_image-end-2 c =
    let room : 1593 + length c.args.arena.now ≤ length c.args.mended.now = omega (arith, (allowed-true (length c.args.arena.now) (shape-allowed c.args.arena.now c.args.control.now c.requires.control_value)).2, c.requires.mended_len) in
    sym (length-take-le _ _ (room))

pub returns : goal.returns
returns c =
    let room : 1593 + length c.args.arena.now ≤ length c.args.mended.now = omega (arith, (allowed-true (length c.args.arena.now) (shape-allowed c.args.arena.now c.args.control.now c.requires.control_value)).2, c.requires.mended_len) in
    let n : ℕ = 1593 + length c.args.arena.now in
    let long : length (take n c.args.mended.now) ≡ n = length-take-le _ _ (room) in
    let written = c.write_image.ensures ∙ sym (write-through _ _ _ c.requires.control_value (omega (arith, long))) in
    record { upper_bound = omega (arith, room, c.requires.mended_len); mended_after = take_at _ _ n (omega (arith, c.write_image.auto.file, long)) ∙ ap file_left written }
