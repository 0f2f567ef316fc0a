-- `tiles::tile_ok` meets its contract, test by test. Assumes nothing.
use native.Mathlib.Omega.{arith}
use borrow.Author.Tests.{lt-ltb, le-ltb}
use Rattle.audit_walks.specs.TileWord.{word_ok}
use Rattle.sizes.specs.SizeWord.{low_of_word}
use Rattle.audit_walks.proofs.tiles.tile_ok.Goals as goal

pub returns-then-low-gt-P : goal.returns-then-low-gt-P
returns-then-low-gt-P c = let x = c.args.x.0 in rw (le-ltb (low_of_word x) 2 (omega (arith, c.if-low-gt-P.true, c.low.ensures)), word_ok)

pub returns : goal.returns
returns c = let x = c.args.x.0 in rw (lt-ltb (low_of_word x) 2 (omega (arith, c.if-low-gt-P.false, c.low.ensures)), word_ok) (rw c.size.ensures)
