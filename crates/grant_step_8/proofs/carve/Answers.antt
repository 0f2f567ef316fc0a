-- `grant_step_8::carve` meets its contract: a way for each answer of its two tests (`whole-gave`, `new-gave`, `plain-gave`). Assumes nothing.
use mathlib.Core.Path.{refl, ap}
use native.Mathlib.Omega.{arith}
use lib.ListN.{length}
use Rattle.primitives.specs.Stacks.{ok-length}
use Rattle.grant_step_8.specs.Taken.{remainder?}
use Rattle.grant_step_8.specs.Carving.{Room, room, whole-gave, plain-gave, new-gave}
use Rattle.grant_step_8.proofs.carve.Goals as goal

pub overflow_add-c : goal.overflow_add-c
overflow_add-c c =
    let within : Room (length c.args.a.now) c.args.c.0 c.args.z = room _ _ _ _ _ c.requires.1.ok c.requires.1.holds in
    let i = within in record { fits = omega arith }

pub set_p-requires : goal.set_p-requires
set_p-requires c =
    let within : Room (length c.args.a.now) c.args.c.0 c.args.z = room _ _ _ _ _ c.requires.1.ok c.requires.1.holds in
    let i = within in (omega arith, omega arith)

pub returns-then-z-b-lt-LEAST_CHUNK : goal.returns-then-z-b-lt-LEAST_CHUNK
returns-then-z-b-lt-LEAST_CHUNK c =
    record { does = λ h o t. whole-gave h _ _ c.args.c.0 c.args.z c.args.b.bytes (remainder? c.args.rest) o t c.if-z-b-lt-LEAST_CHUNK.true _ c.set_p.ensures }

pub split-requires : goal.split-requires
split-requires c =
    (omega (arith, c.if-z-b-lt-LEAST_CHUNK.false, c.requires.0), c.requires.1)

pub overflow_add-r : goal.overflow_add-r
overflow_add-r c =
    let within : Room (length c.args.a.now) c.args.c.0 c.args.z = room _ _ _ _ _ c.requires.1.ok c.requires.1.holds in
    let i = within in record { fits = omega arith }

pub overflow_cast-r : goal.overflow_cast-r
overflow_cast-r c =
    let within : Room (length c.args.a.now) c.args.c.0 c.args.z = room _ _ _ _ _ c.requires.1.ok c.requires.1.holds in
    let i = within in record { fits = omega arith }

pub bounds-r-2 : goal.bounds-r-2
bounds-r-2 c = omega (arith, c.split.auto.r, ok-length _ _ _ c.requires.1.ok)

pub returns-in-LastRemainder : goal.returns-in-LastRemainder
returns-in-LastRemainder c =
    record { does = λ h o t. new-gave h _ c.args.c.0 c.args.z c.args.b.bytes (remainder? c.args.rest) _ _ _ t c.if-z-b-lt-LEAST_CHUNK.false (ap remainder? c.in-LastRemainder.is) (c.split.ensures.does h o t) refl }

pub returns-in-Plain : goal.returns-in-Plain
returns-in-Plain c =
    record { does = λ h o t. plain-gave h _ c.args.c.0 c.args.z c.args.b.bytes (remainder? c.args.rest) _ _ t c.if-z-b-lt-LEAST_CHUNK.false (ap remainder? c.in-Plain.is) (c.split.ensures.does h o t) }
