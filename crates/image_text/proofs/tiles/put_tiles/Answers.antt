-- `tiles::put_tiles` meets its contract: the loop keeps LinesIn, and the top's line ends the text. The measure is what is left before the top. Assumes nothing.
use Rattle.std.proofs.Common.{refl, arith, ◌∙◌}
use Rattle.le.specs.Arena.{arena_words}
use Rattle.image_text.specs.declared.State.TheVariants.{Marked}
use Rattle.image_text.specs.ImageText.{state_text}
use Rattle.image_text.proofs.States.{told}
use Rattle.image_text.proofs.Lines.{lines-enter, lines-low, lines-size, lines-turn, lines-last}
use Rattle.image_text.proofs.tiles.put_tiles.Goals as goal

pub loop-o-init : goal.loop-o-init
loop-o-init c =
    (refl, refl, lines-enter _ (arena_words c.args.a.now) c.args.m.now _ _ _ _ c.requires.bytes.1)

pub size_at-s-requires : goal.size_at-s-requires
size_at-s-requires c =
    let l = c.loop-o in
    let low = lines-low _ c.args.a.now c.args.m.now _ _ _ _ _ _ _ c.requires.bytes.0.arena l.invariant.2 in
    (omega (arith, l.invariant.2.even), omega (arith, low.0, low.1))

pub bounds-m-o : goal.bounds-m-o
bounds-m-o c =
    let l = c.loop-o in
    let low = lines-low _ c.args.a.now c.args.m.now _ _ _ _ _ _ _ c.requires.bytes.0.arena l.invariant.2 in
    omega (arith, low.0, low.1, c.requires.bytes.0.room)

pub put_tile-requires : goal.put_tile-requires
put_tile-requires c =
    let l = c.loop-o in
    let low = lines-low _ c.args.a.now c.args.m.now _ _ _ _ _ _ _ c.requires.bytes.0.arena l.invariant.2 in
    omega (arith, low.0, low.1, l.invariant.0, l.invariant.2.room, c.requires.a_in_bounds)

pub overflow_add-o : goal.overflow_add-o
overflow_add-o c =
    let l = c.loop-o in
    let w = arena_words c.args.a.now in
    let low = lines-low _ c.args.a.now c.args.m.now _ _ _ _ _ _ _ c.requires.bytes.0.arena l.invariant.2 in
    let z = lines-size _ w c.args.m.now _ _ _ _ _ _ _ l.invariant.2 c.loop-o-test.true in
    omega (arith, z.1, low.1, c.requires.bytes.0.arena.small, c.size_at-s.ensures)

pub loop-o-smaller : goal.loop-o-smaller
loop-o-smaller c =
    let l = c.loop-o in
    let w = arena_words c.args.a.now in
    let z = lines-size _ w c.args.m.now _ _ _ _ _ _ _ l.invariant.2 c.loop-o-test.true in
    omega (arith, z.0, z.1, c.size_at-s.ensures, c.loop-o-test.true)

pub loop-o-preserved : goal.loop-o-preserved
loop-o-preserved c =
    let l = c.loop-o in
    let said = c.put_tile.ensures in (
      said.room ∙ l.invariant.0,
      said.same ∙ l.invariant.1,
      lines-turn _ (arena_words c.args.a.now) c.args.m.now _ _ _ _ _ _ _ l.invariant.2 _ _ _ c.size_at-s.ensures c.loop-o-test.true said.within
          (λ j m. let e = told (Marked _) (state_text j) (j, m, refl) in said.written ∙ rw e),
    )

pub overflow_sub-a : goal.overflow_sub-a
overflow_sub-a c =
    let l = c.loop-o in
    let low = lines-low _ c.args.a.now c.args.m.now _ _ _ _ _ _ _ c.requires.bytes.0.arena l.invariant.2 in
    omega (arith, low.1)

pub put_tile-requires-2 : goal.put_tile-requires-2
put_tile-requires-2 c =
    let l = c.loop-o in
    let low = lines-low _ c.args.a.now c.args.m.now _ _ _ _ _ _ _ c.requires.bytes.0.arena l.invariant.2 in
    omega (arith, low.0, low.1, l.invariant.0, l.invariant.2.room, c.requires.a_in_bounds)

pub returns : goal.returns
returns c =
    let l = c.loop-o in
    let low = lines-low _ c.args.a.now c.args.m.now _ _ _ _ _ _ _ c.requires.bytes.0.arena l.invariant.2 in
    let said = c.put_tile-2.ensures in
    record {
      upper_bound = omega (arith, low.0, low.1, l.invariant.2.room, said.within);
      by_index = λ v r h. record {
        within = omega (arith, low.0, low.1, l.invariant.2.room, said.within);
        written = lines-last _ (arena_words c.args.a.now) c.args.m.now _ _ _ _ _ _ _ l.invariant.2 _ c.loop-o-test.false said.written v r h;
        room = said.room ∙ l.invariant.0;
        same = said.same ∙ l.invariant.1;
      };
    }
