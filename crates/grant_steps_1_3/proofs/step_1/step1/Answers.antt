-- `grant_steps_1_3::step1` meets its contract: each way by the lemma of the tests that led there. Assumes nothing.
use native.Mathlib.Omega.{arith}
use Rattle.primitives.specs.Stacks.{ok-length}
use Rattle.grant_steps_1_3.specs.Steps.{over1, none1, has1, took1, small1}
use Rattle.grant_steps_1_3.proofs.step_1.step1.Goals as goal

pub returns-then-b-gt-MOST_CACHED : goal.returns-then-b-gt-MOST_CACHED
returns-then-b-gt-MOST_CACHED c = over1 c.args.b.bytes _ _ c.if-b-gt-MOST_CACHED.true

pub bounds-r-k : goal.bounds-r-k
bounds-r-k c = omega (arith, c.cache_list-k.ensures.1, ok-length _ _ _ c.requires.ok)

pub returns-then-r-k : goal.returns-then-r-k
returns-then-r-k c = none1 c.args.b.bytes _ c.if-b-gt-MOST_CACHED.false c.cache_list-k.ensures.0 _ _ c.if-r-k.true

pub take_cache-c-requires : goal.take_cache-c-requires
take_cache-c-requires c = (c.cache_list-k.ensures.1, has1 c.args.b.bytes _ c.if-b-gt-MOST_CACHED.false c.cache_list-k.ensures.0 _ _ c.if-r-k.false c.requires)

pub overflow_cast-result : goal.overflow_cast-result
overflow_cast-result c = record { fits = omega (arith, small1 c.args.b.bytes _ c.if-b-gt-MOST_CACHED.false c.cache_list-k.ensures.0 _ _ c.if-r-k.false _ _ _ c.take_cache-c.ensures c.requires) }

pub returns : goal.returns
returns c = took1 c.args.b.bytes _ c.if-b-gt-MOST_CACHED.false c.cache_list-k.ensures.0 _ _ c.if-r-k.false _ _ _ c.take_cache-c.ensures
