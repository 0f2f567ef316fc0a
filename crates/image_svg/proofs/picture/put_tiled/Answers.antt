-- `picture::put_tiled` meets its contract: the rectangles stand between what is put before and behind them. Assumes nothing.
use Rattle.std.proofs.Common.{rules}
use Rattle.image_svg.proofs.Pictures.{rects-in}
use Rattle.image_svg.proofs.picture.put_tiled.Goals as goal

pub returns : goal.returns
returns c =
    record { grows = search rules; has_rects = rects-in c.args.v c.args.a.now c.args.r.now _ c.bytes.ensures.adds.written c.put_reached.ensures.written c.bytes-2.ensures.adds.written }
