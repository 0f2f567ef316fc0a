-- `release_join::join` meets its contract: by the two ways, with the chunk before taken in or not. Either leaves the heap open. Assumes nothing.
use native.Mathlib.Omega.{arith}
use mathlib.Core.Path.{◌≡◌, sym, ap, ◌∙◌}
use Rattle.le.specs.Arena.{arena_words}
use lib.ListN.{length}
use Rattle.sizes.specs.SizeWord.{size_of_word}
use Rattle.machine.specs.View.{size_at}
use Rattle.primitives.specs.Chunks.{Inside}
use Rattle.primitives.specs.Stacks.{loose-inside}
use Rattle.release_join.specs.Reads.{size-inside}
use Rattle.release_join.specs.Join.{Behind, behind, absorbed-has, join-prev-gave, join-open, join-here-gave}
use Rattle.release_join.proofs.join.Goals as goal

pub size_word_at-w-requires : goal.size_word_at-w-requires
size_word_at-w-requires c =
    let at : Inside (length c.args.a.now) c.args.c.0 = loose-inside _ _ _ c.requires.ok _ c.requires.holds.1 in
    size-inside (at)

pub join_rest-requires : goal.join_rest-requires
join_rest-requires c =
    let size-read : c.size-z.result ≡ size_at (arena_words c.args.a.now) c.args.c.0 = c.size-z.ensures ∙ ap size_of_word c.size_word_at-w.ensures in (
      record {
        heap = c.requires.heap;
        ok = c.requires.ok;
        holds = join-open _ _ _ _ _ c.requires.ok c.requires.holds.0 c.requires.holds.1 c.size_word_at-w.ensures
            (sym c.has_p.ensures ∙ c.if-has_p.true);
      },
      size-read,
    )

pub returns-then-has_p : goal.returns-then-has_p
returns-then-has_p c =
    record {
      does = λ h o g. join-here-gave h _ _ _ _ o g.0 g.1 c.size_word_at-w.ensures
          (sym c.has_p.ensures ∙ c.if-has_p.true) c.join_rest.ensures;
    }

pub note_at-d-requires : goal.note_at-d-requires
note_at-d-requires c =
    let at : Inside (length c.args.a.now) c.args.c.0 = loose-inside _ _ _ c.requires.ok _ c.requires.holds.1 in
    let k = at in omega arith

pub overflow_sub-q : goal.overflow_sub-q
overflow_sub-q c =
    let size-read : c.size-z.result ≡ size_at (arena_words c.args.a.now) c.args.c.0 = c.size-z.ensures ∙ ap size_of_word c.size_word_at-w.ensures in
    let back : Behind c.requires.heap (arena_words c.args.a.now) c.args.c.0 c.note_at-d.result c.size-z.result = behind _ _ _ _ _ c.requires.ok c.requires.holds.0 c.requires.holds.1 c.size_word_at-w.ensures _ _ (sym c.has_p.ensures ∙ c.if-has_p.false) c.note_at-d.ensures (size-read) in
    omega (arith, (back).low)

pub overflow_add-s : goal.overflow_add-s
overflow_add-s c =
    let size-read : c.size-z.result ≡ size_at (arena_words c.args.a.now) c.args.c.0 = c.size-z.ensures ∙ ap size_of_word c.size_word_at-w.ensures in
    let back : Behind c.requires.heap (arena_words c.args.a.now) c.args.c.0 c.note_at-d.result c.size-z.result = behind _ _ _ _ _ c.requires.ok c.requires.holds.0 c.requires.holds.1 c.size_word_at-w.ensures _ _ (sym c.has_p.ensures ∙ c.if-has_p.false) c.note_at-d.ensures (size-read) in
    omega (arith, (back).small)

pub absorb-requires : goal.absorb-requires
absorb-requires c =
    let size-read : c.size-z.result ≡ size_at (arena_words c.args.a.now) c.args.c.0 = c.size-z.ensures ∙ ap size_of_word c.size_word_at-w.ensures in
    let back : Behind c.requires.heap (arena_words c.args.a.now) c.args.c.0 c.note_at-d.result c.size-z.result = behind _ _ _ _ _ c.requires.ok c.requires.holds.0 c.requires.holds.1 c.size_word_at-w.ensures _ _ (sym c.has_p.ensures ∙ c.if-has_p.false) c.note_at-d.ensures (size-read) in
    record { heap = c.requires.heap; ok = c.requires.ok; holds = (back).taking }

pub join_rest-requires-2 : goal.join_rest-requires-2
join_rest-requires-2 c =
    let size-read : c.size-z.result ≡ size_at (arena_words c.args.a.now) c.args.c.0 = c.size-z.ensures ∙ ap size_of_word c.size_word_at-w.ensures in
    let back : Behind c.requires.heap (arena_words c.args.a.now) c.args.c.0 c.note_at-d.result c.size-z.result = behind _ _ _ _ _ c.requires.ok c.requires.holds.0 c.requires.holds.1 c.size_word_at-w.ensures _ _ (sym c.has_p.ensures ∙ c.if-has_p.false) c.note_at-d.ensures (size-read) in
    (absorbed-has _ _ _ _ _ _ c.requires.ok (back) c.absorb.ensures.0, sym c.absorb.ensures.1)

pub returns : goal.returns
returns c =
    let size-read : c.size-z.result ≡ size_at (arena_words c.args.a.now) c.args.c.0 = c.size-z.ensures ∙ ap size_of_word c.size_word_at-w.ensures in
    record {
      does = λ h o g.
          join-prev-gave h _ _ _ _ _ o
          (behind h _ _ _ _ o g.0 g.1 c.size_word_at-w.ensures _ _ (sym c.has_p.ensures ∙ c.if-has_p.false) c.note_at-d.ensures
          (size-read))
          c.absorb.ensures.0 c.join_rest-2.ensures;
    }
