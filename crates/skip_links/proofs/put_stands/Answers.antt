-- `skip_links::put_stands` meets its contract: by whether the chunk is large. Assumes nothing.
use mathlib.Core.Path.{sym, ap, ◌∙◌}
use mathlib.Core.List.{List}
use Prim.Native.Nat.{ℕ}
use native.Mathlib.Omega.{arith}
use Rattle.le.specs.Arena.{arena_words}
use Rattle.machine.specs.Writes.{Write, stand?}
use Rattle.machine.specs.View.{size_at}
use Rattle.skip_links.specs.RingTurn.{put_small, put-large}
use Rattle.skip_links.proofs.put_stands.Goals as goal

pub returns-then-size_at-lt-LARGE : goal.returns-then-size_at-lt-LARGE
returns-then-size_at-lt-LARGE c =
    let a = c.args in
    let w = arena_words a.a.now in
    sym (ap (λ (es : List Write). stand? es w) (put_small (λ (y : ℕ). size_at w y) a.c.0 (omega (arith, c.if-size_at-lt-LARGE.true, c.size_at.ensures))))

pub has_no_skips-requires : goal.has_no_skips-requires
has_no_skips-requires c =
    (c.requires.0, omega (arith, c.requires.2, c.if-size_at-lt-LARGE.false, c.size_at.ensures))

pub returns : goal.returns
returns c =
    let a = c.args in
    let w = arena_words a.a.now in
    c.has_no_skips.ensures
    ∙ sym (ap (λ (es : List Write). stand? es w) (put-large (λ (y : ℕ). size_at w y) a.c.0 (omega (arith, c.if-size_at-lt-LARGE.false, c.size_at.ensures))))
