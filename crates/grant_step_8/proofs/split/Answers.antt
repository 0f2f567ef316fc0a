-- `grant_step_8::split` meets its contract: three writes cut the chunk and note the rest's size (`cut_has`), and the rest goes into unsorted (`split-gave`). Assumes nothing.
use native.Mathlib.Omega.{arith}
use lib.ListN.{length}
use Rattle.grant_step_8.specs.Carving.{Room, room, cut_has, split-gave}
use Rattle.grant_step_8.proofs.split.Goals as goal

pub set_size-requires : goal.set_size-requires
set_size-requires c =
    let within : Room (length c.args.a.now) c.args.c.0 c.args.z = room _ _ _ _ _ c.requires.1.ok c.requires.1.holds in
    let i = within in (omega arith, omega arith, omega arith)

pub overflow_add-c-2 : goal.overflow_add-c-2
overflow_add-c-2 c =
    let within : Room (length c.args.a.now) c.args.c.0 c.args.z = room _ _ _ _ _ c.requires.1.ok c.requires.1.holds in
    let i = within in record { fits = omega arith }

pub set_size-requires-2 : goal.set_size-requires-2
set_size-requires-2 c =
    let within : Room (length c.args.a.now) c.args.c.0 c.args.z = room _ _ _ _ _ c.requires.1.ok c.requires.1.holds in
    let i = within in
    (omega arith, omega (arith, c.set_size.auto.a), omega arith)

pub overflow_add-c : goal.overflow_add-c
overflow_add-c c =
    let within : Room (length c.args.a.now) c.args.c.0 c.args.z = room _ _ _ _ _ c.requires.1.ok c.requires.1.holds in
    let i = within in record { fits = omega arith }

pub set_note-requires : goal.set_note-requires
set_note-requires c =
    let within : Room (length c.args.a.now) c.args.c.0 c.args.z = room _ _ _ _ _ c.requires.1.ok c.requires.1.holds in
    let i = within in
    (omega arith, omega (arith, c.set_size.auto.a, c.set_size-2.auto.a))

pub overflow_add-c-3 : goal.overflow_add-c-3
overflow_add-c-3 c =
    let within : Room (length c.args.a.now) c.args.c.0 c.args.z = room _ _ _ _ _ c.requires.1.ok c.requires.1.holds in
    let i = within in record { fits = omega arith }

pub put_first-requires : goal.put_first-requires
put_first-requires c =
    let p = c.requires in (
      omega arith,
      omega arith,
      cut_has p.1.heap _ _ c.args.c.0 c.args.z c.args.b.bytes p.1.ok p.1.holds c.args.b.whole c.args.b.least p.0 _ _ _ c.set_size.ensures c.set_size-2.ensures c.set_note.ensures,
    )

pub shape_of-a : goal.shape_of-a
shape_of-a c =
    omega (arith, c.set_size.auto.a, c.set_size-2.auto.a, c.set_note.auto.a, c.put_first.auto.a)

pub returns : goal.returns
returns c =
    let p = c.requires in
    record {
      does = λ h o t.
          split-gave h _ _ c.args.c.0 c.args.z c.args.b.bytes o t c.args.b.whole c.args.b.least p.0 _ _ _ _ _ c.set_size.ensures c.set_size-2.ensures c.set_note.ensures c.put_first.ensures;
    }
