-- `grant_steps_1_3::take_last` meets its contract: the chunk after c is at c + b, and its P is set. Assumes nothing.
use mathlib.Core.Path.{refl}
use native.Mathlib.Omega.{arith}
use Rattle.grant_steps_1_3.specs.Lasts.{last-in, last-small, last-inside, last-gave}
use Rattle.grant_steps_1_3.proofs.step_3.take_last.Goals as goal

pub unlink-requires : goal.unlink-requires
unlink-requires c =
    let H = c.requires.1 in
    record { heap = H.heap; ok = H.ok; holds = last-in c.args.b.bytes c.args.b.whole c.args.b.least c.requires.0 H.heap c.args.c.0 H.holds _ c.requires.2 }

pub overflow_add-c : goal.overflow_add-c
overflow_add-c c =
    let H = c.requires.1 in
    omega (arith, c.requires.0, last-small c.args.b.bytes c.args.b.whole c.args.b.least c.requires.0 H.heap c.args.c.0 H.holds _ _ H.ok)

pub set_p-requires : goal.set_p-requires
set_p-requires c =
    let H = c.requires.1 in
    let u = c.unlink.ensures in
    let i = last-inside c.args.b.bytes c.args.b.whole c.args.b.least c.requires.0 H.heap c.args.c.0 H.holds _ _ H.ok _ c.requires.2 _ _ u _ refl in
    (i.even, i.high)

pub returns : goal.returns
returns c =
    record {
      does = λ h o L.
          last-gave c.args.b.bytes c.args.b.whole c.args.b.least c.requires.0 h c.args.c.0 L _ _ o _ c.requires.2 _ _ c.unlink.ensures _ c.set_p.ensures;
    }
