-- `grant_step_5::swept` meets its contract: where one was cached its list has a head (`swept-some`), and that is granted. Assumes nothing.
use native.Mathlib.Omega.{arith}
use Rattle.grant_step_5.specs.Loop.{swept-none-gave, swept-some, swept-small, swept-gave}
use Rattle.grant_step_5.proofs.swept.Goals as goal

pub cache_list-k-requires : goal.cache_list-k-requires
cache_list-k-requires c =
    (c.args.b.least, (c.requires.holds c.if-got.true).1)

pub take_cache-c-requires : goal.take_cache-c-requires
take_cache-c-requires c =
    let k = c.cache_list-k.ensures in
    let p = c.requires in
    (k.1, record { heap = p.heap; ok = p.ok; holds = swept-some p.heap _ _ c.args.b.bytes c.args.got p.ok p.holds c.if-got.true _ k.0 })

pub overflow_cast-result : goal.overflow_cast-result
overflow_cast-result c =
    let p = c.requires in
    let i = swept-small p.heap _ _ c.args.b.bytes c.args.got p.ok p.holds c.if-got.true _ c.cache_list-k.ensures.0 _ _ _ c.take_cache-c.ensures in
    record { fits = omega arith }

pub returns-then-got : goal.returns-then-got
returns-then-got c =
    record { does = λ h o k. swept-gave h _ _ c.args.b.bytes c.args.got o k c.if-got.true _ c.cache_list-k.ensures.0 _ _ _ c.take_cache-c.ensures }

pub returns : goal.returns
returns c =
    record { does = λ h o k. swept-none-gave h _ _ c.args.b.bytes c.args.got o k c.if-got.false }
