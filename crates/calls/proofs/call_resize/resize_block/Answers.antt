-- `resize_block` is the machine's: refused for its shape, as too large, as unsound, as no live block, for want of room, or resized. Assumes nothing.
use Rattle.std.specs.Prelude.{Ok, option_map}
use mathlib.Core.Path.{refl, sym, ap, ◌∙◌}
use Rattle.std.proofs.lemmas.Result.{err_from_is_err_and}
use native.Mathlib.Omega.{arith}
use Rattle.sizes.specs.declared.size.Size.{Size}
use Rattle.calls.specs.Ways.{shape-long, resize-shape}
use Rattle.calls.specs.Through.{came, came-arena, octets, Lives, lives, lives-has}
use Rattle.calls.specs.Grants.{need-size}
use Rattle.calls.specs.Resizes.{resize-large, resize-refused, resize-of-dead, resize-stands, resize-through-none, resize-through-at}
use borrow.Author.Rules.{rules}
use Rattle.calls.proofs.call_resize.resize_block.Goals as goal

pub returns-then-not-shaped : goal.returns-then-not-shaped
returns-then-not-shaped c = resize-shape _ _ _ _ c.requires.0 c.requires.1 (sym c.shaped.ensures ∙ c.if-not-shaped.true)

pub returns-in_default : goal.returns-in_default
returns-in_default c =
    resize-large _ _ _ _ c.requires _ (came _ _ _ _ c.shaped.ensures c.if-not-shaped.false (λ i. omega (arith, c.slice_known-2-1.given i)) refl) _ c.need.ensures (ap (option_map (λ (s : Size). s.bytes)) c.in_default.is)

pub read_words-requires : goal.read_words-requires
read_words-requires c = (shape-long c.args.arena.now c.args.control.now (sym c.shaped.ensures ∙ c.if-not-shaped.false), search rules)

pub look_at-requires : goal.look_at-requires
look_at-requires c =
    (came-arena _ _ _ (came _ _ _ _ c.shaped.ensures c.if-not-shaped.false (λ i. omega (arith, c.slice_known-2-1.given i)) c.read_words.ensures), search rules)

pub returns-in_err-live : goal.returns-in_err-live
returns-in_err-live c =
    let p = err_from_is_err_and c.from_residual.result c.from_residual.ensures.1 in
    rw (p.1, p.2) (resize-refused _ _ _ _ c.requires _ (came _ _ _ _ c.shaped.ensures c.if-not-shaped.false (λ i. omega (arith, c.slice_known-2-1.given i)) c.read_words.ensures) _ (need-size c.args.n _ _ c.need.ensures c.in-Some.is) _ _ c.in_err-live.ensures refl)

pub returns-then-not-live : goal.returns-then-not-live
returns-then-not-live c =
    resize-of-dead _ _ _ _ c.requires _ (came _ _ _ _ c.shaped.ensures c.if-not-shaped.false (λ i. omega (arith, c.slice_known-2-1.given i)) c.read_words.ensures) _ (need-size c.args.n _ _ c.need.ensures c.in-Some.is) _ c.in_ok-live.ensures (ap Ok c.if-not-live.true)

pub chunk-requires : goal.chunk-requires
chunk-requires c =
    let alive : Lives c.args.arena.now c.args.control.now c.args.mem = lives _ _ _ c.args.mem _ (came _ _ _ _ c.shaped.ensures c.if-not-shaped.false (λ i. omega (arith, c.slice_known-2-1.given i)) c.read_words.ensures) c.in_ok-live.ensures (ap Ok c.if-not-live.false) in
    (alive).low

pub resize-g-requires : goal.resize-g-requires
resize-g-requires c =
    let alive : Lives c.args.arena.now c.args.control.now c.args.mem = lives _ _ _ c.args.mem _ (came _ _ _ _ c.shaped.ensures c.if-not-shaped.false (λ i. omega (arith, c.slice_known-2-1.given i)) c.read_words.ensures) c.in_ok-live.ensures (ap Ok c.if-not-live.false) in
    lives-has _ _ _ _ _ c.chunk.ensures (came _ _ _ _ c.shaped.ensures c.if-not-shaped.false (λ i. omega (arith, c.slice_known-2-1.given i)) c.read_words.ensures) (alive)

pub write_words-requires : goal.write_words-requires
write_words-requires c = (shape-long c.args.arena.now c.args.control.now (sym c.shaped.ensures ∙ c.if-not-shaped.false), search rules)

pub returns-in_default-g : goal.returns-in_default-g
returns-in_default-g c =
    let alive : Lives c.args.arena.now c.args.control.now c.args.mem = lives _ _ _ c.args.mem _ (came _ _ _ _ c.shaped.ensures c.if-not-shaped.false (λ i. omega (arith, c.slice_known-2-1.given i)) c.read_words.ensures) c.in_ok-live.ensures (ap Ok c.if-not-live.false) in
    let k = (came _ _ _ _ c.shaped.ensures c.if-not-shaped.false (λ i. omega (arith, c.slice_known-2-1.given i)) c.read_words.ensures) in
    resize-through-none _ _ _ _ c.requires _ k _ (need-size c.args.n _ _ c.need.ensures c.in-Some.is) (alive) _ c.chunk.ensures _ _ _ c.resize-g.ensures _ c.in_default-g.is
    (octets _ _ _ _ k c.resize-g.auto.a (λ i. omega (arith, c.slice_known-3-1.given i))) c.write_words.ensures

pub granted_at-requires : goal.granted_at-requires
granted_at-requires c =
    let alive : Lives c.args.arena.now c.args.control.now c.args.mem = lives _ _ _ c.args.mem _ (came _ _ _ _ c.shaped.ensures c.if-not-shaped.false (λ i. omega (arith, c.slice_known-2-1.given i)) c.read_words.ensures) c.in_ok-live.ensures (ap Ok c.if-not-live.false) in
    let k = (came _ _ _ _ c.shaped.ensures c.if-not-shaped.false (λ i. omega (arith, c.slice_known-2-1.given i)) c.read_words.ensures) in
    resize-stands _ _ _ _ c.requires _ k _ (need-size c.args.n _ _ c.need.ensures c.in-Some.is) (alive) _ c.chunk.ensures _ _ _ c.resize-g.ensures _ c.in-Some-g.is
    (octets _ _ _ _ k c.resize-g.auto.a (λ i. omega (arith, c.slice_known-3-1.given i)))

pub returns : goal.returns
returns c =
    let alive : Lives c.args.arena.now c.args.control.now c.args.mem = lives _ _ _ c.args.mem _ (came _ _ _ _ c.shaped.ensures c.if-not-shaped.false (λ i. omega (arith, c.slice_known-2-1.given i)) c.read_words.ensures) c.in_ok-live.ensures (ap Ok c.if-not-live.false) in
    let k = (came _ _ _ _ c.shaped.ensures c.if-not-shaped.false (λ i. omega (arith, c.slice_known-2-1.given i)) c.read_words.ensures) in
    resize-through-at _ _ _ _ c.requires _ k _ (need-size c.args.n _ _ c.need.ensures c.in-Some.is) (alive) _ c.chunk.ensures _ _ _ c.resize-g.ensures _ c.in-Some-g.is _ _
    (octets _ _ _ _ k c.resize-g.auto.a (λ i. omega (arith, c.slice_known-3-1.given i))) c.write_words.ensures (ap Ok c.granted_at.ensures)
