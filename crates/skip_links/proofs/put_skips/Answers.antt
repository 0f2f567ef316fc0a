-- `skip_links::put_skips` meets its contract: by whether the chunk is large. Assumes nothing.
use mathlib.Core.Path.{sym, ap, ◌∙◌}
use mathlib.Core.List.{List}
use native.Mathlib.Omega.{arith}
use Rattle.le.specs.Arena.{arena_words}
use Rattle.machine.specs.Writes.{Write, apply}
use Rattle.skip_links.specs.RingTurn.{put_small, put-large}
use Rattle.skip_links.proofs.put_skips.Goals as goal

pub returns-then-z-lt-LARGE : goal.returns-then-z-lt-LARGE
returns-then-z-lt-LARGE c = λ sz e.
    let a = c.args in
    sym (ap (λ (es : List Write). apply es (arena_words a.a.now)) (put_small sz a.c.0 (omega (arith, c.if-z-lt-LARGE.true, e))))

pub returns : goal.returns
returns c = λ sz e.
    let a = c.args in
    c.set_no_skips.ensures
    ∙ sym (ap (λ (es : List Write). apply es (arena_words a.a.now)) (put-large sz a.c.0 (omega (arith, c.if-z-lt-LARGE.false, e))))
