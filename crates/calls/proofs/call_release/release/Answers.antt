-- `release` is the machine's: refused for its shape, as unsound, as no live block; null; or the block released. Assumes nothing.
use Rattle.std.specs.Prelude.{Ok}
use mathlib.Core.Path.{refl, sym, ap, ◌∙◌}
use Rattle.std.proofs.lemmas.Result.{err_from_is_err_and}
use native.Mathlib.Omega.{arith}
use borrow.Author.Tests.{eq-eqb, ne_eqb}
use Rattle.calls.specs.Ways.{shape-long, release-shape}
use Rattle.calls.specs.Through.{came, came-arena, came-changes, octets, release-refused, release-of-null, release-of-dead, Lives, lives, lives-has, release-through}
use borrow.Author.Rules.{rules}
use Rattle.calls.proofs.call_release.release.Goals as goal

-- the buffers behind the test of shape

-- the block is live

pub returns-then-not-shaped : goal.returns-then-not-shaped
returns-then-not-shaped c = release-shape _ _ _ (sym c.shaped.ensures ∙ c.if-not-shaped.true)

pub read_words-requires : goal.read_words-requires
read_words-requires c = (shape-long c.args.arena.now c.args.control.now (sym c.shaped.ensures ∙ c.if-not-shaped.false), search rules)

pub look_at-requires : goal.look_at-requires
look_at-requires c =
    (came-arena _ _ _ (came _ _ _ _ c.shaped.ensures c.if-not-shaped.false (λ i. omega (arith, c.slice_known-2-1.given i)) c.read_words.ensures), search rules)

pub returns-in_err-live : goal.returns-in_err-live
returns-in_err-live c =
    let p = err_from_is_err_and c.from_residual.result c.from_residual.ensures.1 in
    rw (p.1, p.2) (release-refused _ _ _ _ _ _ (came _ _ _ _ c.shaped.ensures c.if-not-shaped.false (λ i. omega (arith, c.slice_known-2-1.given i)) c.read_words.ensures) c.in_err-live.ensures refl)

pub returns-then-mem-eq0 : goal.returns-then-mem-eq0
returns-then-mem-eq0 c =
    release-of-null _ _ _ _ _ _ (came _ _ _ _ c.shaped.ensures c.if-not-shaped.false (λ i. omega (arith, c.slice_known-2-1.given i)) c.read_words.ensures) c.in_ok-live.ensures refl (eq-eqb _ _ c.if-mem-eq0.true)

pub returns-then-not-live : goal.returns-then-not-live
returns-then-not-live c =
    release-of-dead _ _ _ _ _ (came _ _ _ _ c.shaped.ensures c.if-not-shaped.false (λ i. omega (arith, c.slice_known-2-1.given i)) c.read_words.ensures) c.in_ok-live.ensures (ap Ok c.if-not-live.true) (ne_eqb _ _ c.if-mem-eq0.false)

pub chunk-requires : goal.chunk-requires
chunk-requires c =
    let alive : Lives c.args.arena.now c.args.control.now c.args.mem = lives _ _ _ c.args.mem _ (came _ _ _ _ c.shaped.ensures c.if-not-shaped.false (λ i. omega (arith, c.slice_known-2-1.given i)) c.read_words.ensures) c.in_ok-live.ensures (ap Ok c.if-not-live.false) in
    (alive).low

pub release-changed-requires : goal.release-changed-requires
release-changed-requires c =
    let alive : Lives c.args.arena.now c.args.control.now c.args.mem = lives _ _ _ c.args.mem _ (came _ _ _ _ c.shaped.ensures c.if-not-shaped.false (λ i. omega (arith, c.slice_known-2-1.given i)) c.read_words.ensures) c.in_ok-live.ensures (ap Ok c.if-not-live.false) in
    lives-has _ _ _ _ _ c.chunk.ensures (came _ _ _ _ c.shaped.ensures c.if-not-shaped.false (λ i. omega (arith, c.slice_known-2-1.given i)) c.read_words.ensures) (alive)

pub write_changed-requires : goal.write_changed-requires
write_changed-requires c =
    (shape-long c.args.arena.now c.args.control.now (sym c.shaped.ensures ∙ c.if-not-shaped.false), search rules, came-changes c.args.arena.now c.args.control.now _ _ c.release-changed.result (came _ _ _ _ c.shaped.ensures c.if-not-shaped.false (λ i. omega (arith, c.slice_known-2-1.given i)) c.read_words.ensures) c.release-changed.ensures.changes)

pub returns : goal.returns
returns c =
    let alive : Lives c.args.arena.now c.args.control.now c.args.mem = lives _ _ _ c.args.mem _ (came _ _ _ _ c.shaped.ensures c.if-not-shaped.false (λ i. omega (arith, c.slice_known-2-1.given i)) c.read_words.ensures) c.in_ok-live.ensures (ap Ok c.if-not-live.false) in
    let k = (came _ _ _ _ c.shaped.ensures c.if-not-shaped.false (λ i. omega (arith, c.slice_known-2-1.given i)) c.read_words.ensures) in
    release-through _ _ _ _ _ _ _ _ c.chunk.ensures k (alive) (octets _ _ _ _ k c.release-changed.auto.a (λ i. omega (arith, c.slice_known-3-1.given i))) c.release-changed.ensures.does c.write_changed.ensures
