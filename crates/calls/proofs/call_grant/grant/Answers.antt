-- `grant` is the machine's: refused for its shape, as too large, as unsound, for want of room, or granted. Assumes nothing.
use Rattle.std.specs.Prelude.{Ok, option_map}
use mathlib.Core.Path.{refl, sym, ◌∙◌, ap}
use Rattle.std.proofs.lemmas.Result.{err_from_is_err_and}
use native.Mathlib.Omega.{arith}
use Rattle.sizes.specs.declared.size.Size.{Size}
use Rattle.calls.specs.Ways.{shape-long, grant-shape}
use Rattle.calls.specs.Through.{came, came-arena, came-has, octets}
use Rattle.calls.specs.Grants.{need-size, grant-large, grant-refused, grant-stands, grant-through-none, grant-through-at}
use borrow.Author.Rules.{rules}
use Rattle.calls.proofs.call_grant.grant.Goals as goal

-- the buffers behind the test of shape

pub returns-then-not-shaped : goal.returns-then-not-shaped
returns-then-not-shaped c = grant-shape _ _ _ (sym c.shaped.ensures ∙ c.if-not-shaped.true)

pub returns-in_default : goal.returns-in_default
returns-in_default c =
    grant-large _ _ _ _ _ (came _ _ _ _ c.shaped.ensures c.if-not-shaped.false (λ i. omega (arith, c.slice_known-2-1.given i)) refl) c.need.ensures (ap (option_map (λ (s : Size). s.bytes)) c.in_default.is)

pub read_words-requires : goal.read_words-requires
read_words-requires c = (shape-long c.args.arena.now c.args.control.now (sym c.shaped.ensures ∙ c.if-not-shaped.false), search rules)

pub audit_words-requires : goal.audit_words-requires
audit_words-requires c =
    (came-arena _ _ _ (came _ _ _ _ c.shaped.ensures c.if-not-shaped.false (λ i. omega (arith, c.slice_known-2-1.given i)) c.read_words.ensures), search rules)

pub returns-in_err-audit_words : goal.returns-in_err-audit_words
returns-in_err-audit_words c =
    let p = err_from_is_err_and c.from_residual.result c.from_residual.ensures.1 in
    rw (p.1, p.2) (grant-refused _ _ _ _ _ _ (came _ _ _ _ c.shaped.ensures c.if-not-shaped.false (λ i. omega (arith, c.slice_known-2-1.given i)) c.read_words.ensures) (need-size c.args.n _ _ c.need.ensures c.in-Some.is) c.in_err-audit_words.ensures refl)

pub grant-requires : goal.grant-requires
grant-requires c =
    let k = (came _ _ _ _ c.shaped.ensures c.if-not-shaped.false (λ i. omega (arith, c.slice_known-2-1.given i)) c.read_words.ensures) in (
      came-has _ _ _ _ k c.in_ok-audit_words.ensures refl,
      shape-long c.args.arena.now c.args.control.now k.shape,
      k.words,
    )

pub returns-in_default-grant : goal.returns-in_default-grant
returns-in_default-grant c =
    let k = (came _ _ _ _ c.shaped.ensures c.if-not-shaped.false (λ i. omega (arith, c.slice_known-2-1.given i)) c.read_words.ensures) in
    let z = need-size c.args.n _ _ c.need.ensures c.in-Some.is in
    grant-through-none _ _ _ _ _ _ _ _ _ k z c.in_ok-audit_words.ensures refl c.grant.ensures.0 _
    c.in_default-grant.is (octets _ _ _ _ k c.grant.auto.a (λ i. omega (arith, c.slice_known-3-1.given i))) c.grant.ensures.1

pub granted_at-requires : goal.granted_at-requires
granted_at-requires c =
    let k = (came _ _ _ _ c.shaped.ensures c.if-not-shaped.false (λ i. omega (arith, c.slice_known-2-1.given i)) c.read_words.ensures) in
    let z = need-size c.args.n _ _ c.need.ensures c.in-Some.is in
    grant-stands _ _ _ _ _ _ _ _ _ k z c.in_ok-audit_words.ensures refl c.grant.ensures.0 _
    c.in-Some-grant.is (octets _ _ _ _ k c.grant.auto.a (λ i. omega (arith, c.slice_known-3-1.given i)))

pub returns : goal.returns
returns c =
    let k = (came _ _ _ _ c.shaped.ensures c.if-not-shaped.false (λ i. omega (arith, c.slice_known-2-1.given i)) c.read_words.ensures) in
    let z = need-size c.args.n _ _ c.need.ensures c.in-Some.is in
    grant-through-at _ _ _ _ _ _ _ _ _ k z c.in_ok-audit_words.ensures refl c.grant.ensures.0 _
    c.in-Some-grant.is _ _ (octets _ _ _ _ k c.grant.auto.a (λ i. omega (arith, c.slice_known-3-1.given i))) c.grant.ensures.1 (ap Ok c.granted_at.ensures)
