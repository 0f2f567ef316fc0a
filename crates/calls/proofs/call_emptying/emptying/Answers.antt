-- `emptying` is the machine's: refused for its shape, refused as unsound, or done. Assumes nothing.
use mathlib.Core.Path.{refl, sym, ◌∙◌}
use Rattle.std.proofs.lemmas.Result.{err_from_is_err_and}
use native.Mathlib.Omega.{arith}
use Rattle.machine.specs.Release.{emptying}
use Rattle.calls.specs.Ways.{shape-long, job-shape}
use Rattle.calls.specs.Through.{came, came-arena, came-has, octets, job-refused, job-through}
use borrow.Author.Rules.{rules}
use Rattle.calls.proofs.call_emptying.emptying.Goals as goal

-- the buffers behind the test of shape

pub returns-then-not-shaped : goal.returns-then-not-shaped
returns-then-not-shaped c = job-shape emptying _ _ (sym c.shaped.ensures ∙ c.if-not-shaped.true)

pub read_words-requires : goal.read_words-requires
read_words-requires c = (shape-long c.args.arena.now c.args.control.now (sym c.shaped.ensures ∙ c.if-not-shaped.false), search rules)

pub audit_words-requires : goal.audit_words-requires
audit_words-requires c =
    (came-arena _ _ _ (came _ _ _ _ c.shaped.ensures c.if-not-shaped.false (λ i. omega (arith, c.slice_known-2-1.given i)) c.read_words.ensures), search rules)

pub returns-in_err-audit_words : goal.returns-in_err-audit_words
returns-in_err-audit_words c =
    let p = err_from_is_err_and c.from_residual.result c.from_residual.ensures.1 in
    rw (p.1, p.2) (job-refused emptying _ _ _ _ (came _ _ _ _ c.shaped.ensures c.if-not-shaped.false (λ i. omega (arith, c.slice_known-2-1.given i)) c.read_words.ensures) c.in_err-audit_words.ensures refl)

pub emptying-requires : goal.emptying-requires
emptying-requires c =
    came-has _ _ _ _ (came _ _ _ _ c.shaped.ensures c.if-not-shaped.false (λ i. omega (arith, c.slice_known-2-1.given i)) c.read_words.ensures) c.in_ok-audit_words.ensures refl

pub write_words-requires : goal.write_words-requires
write_words-requires c = (shape-long c.args.arena.now c.args.control.now (sym c.shaped.ensures ∙ c.if-not-shaped.false), search rules)

pub returns : goal.returns
returns c =
    let k = (came _ _ _ _ c.shaped.ensures c.if-not-shaped.false (λ i. omega (arith, c.slice_known-2-1.given i)) c.read_words.ensures) in
    job-through emptying _ _ _ _ k c.in_ok-audit_words.ensures _ _ _ refl
    (octets _ _ _ _ k c.emptying.auto.a (λ i. omega (arith, c.slice_known-3-1.given i))) c.emptying.ensures c.write_words.ensures
