-- `grant_step_5::turn` meets its contract: nothing is left, or the last of unsorted is the lone chunk, or it is taken out (`empty-gave`, `lone-gave`, `other-gave`).
-- Assumes nothing.
use native.Mathlib.Omega.{arith}
use Rattle.primitives.specs.Stacks.{ok-length}
use Rattle.grant_step_5.specs.Turns.{lone_room, last_none, last_some, last-inside, last-waits, empty-gave, lone-gave, other-gave}
use Rattle.grant_step_5.proofs.turn.Goals as goal

pub bounds-r-bin_last : goal.bounds-r-bin_last
bounds-r-bin_last c = omega (arith, ok-length _ _ _ c.requires.ok)

pub returns-then-last : goal.returns-then-last
returns-then-last c =
    let e = c.bin_last.ensures in
    record { does = λ h o g. empty-gave _ h _ _ o (last_none h _ _ o _ e c.if-last.true) }

pub overflow_cast-c : goal.overflow_cast-c
overflow_cast-c c =
    let p = c.requires in
    let i = last-inside p.heap _ _ (last_some p.heap _ _ p.ok _ c.bin_last.ensures c.if-last.false) in
    record { fits = omega arith }

pub size_at-z-requires : goal.size_at-z-requires
size_at-z-requires c =
    let p = c.requires in
    let i = last-inside p.heap _ _ (last_some p.heap _ _ p.ok _ c.bin_last.ensures c.if-last.false) in
    (omega arith, omega arith)

pub is_lone-requires : goal.is_lone-requires
is_lone-requires c = ok-length _ _ _ c.requires.ok

pub split_lone-requires : goal.split_lone-requires
split_lone-requires c =
    let p = c.requires in
    let l = last_some p.heap _ _ p.ok _ c.bin_last.ensures c.if-last.false in (
      lone_room _ _ _ _ _ c.is_lone.ensures c.if-is_lone.true,
      record { heap = p.heap; ok = p.ok; holds = last-waits p.heap _ _ _ _ p.ok p.holds l c.size_at-z.ensures },
    )

pub returns-then-is_lone : goal.returns-then-is_lone
returns-then-is_lone c =
    let e = c.bin_last.ensures in
    record {
      does = λ h o g.
          let l = last_some h _ _ o _ e c.if-last.false in
          lone-gave h _ _ _ _ _ o l c.size_at-z.ensures _ c.is_lone.ensures _ _ _ c.if-is_lone.true
          (c.split_lone.ensures.does h o (last-waits h _ _ _ _ o g l c.size_at-z.ensures));
    }

pub take_out-requires : goal.take_out-requires
take_out-requires c =
    let p = c.requires in
    let l = last_some p.heap _ _ p.ok _ c.bin_last.ensures c.if-last.false in
    record { heap = p.heap; ok = p.ok; holds = last-waits p.heap _ _ _ _ p.ok p.holds l c.size_at-z.ensures }

pub returns : goal.returns
returns c =
    let e = c.bin_last.ensures in
    record {
      does = λ h o g.
          let l = last_some h _ _ o _ e c.if-last.false in
          other-gave h _ _ _ _ _ o l c.size_at-z.ensures _ c.is_lone.ensures _ _ _ c.if-is_lone.false
          (c.take_out.ensures.does h o (last-waits h _ _ _ _ o g l c.size_at-z.ensures));
    }
