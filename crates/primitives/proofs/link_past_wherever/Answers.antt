-- `primitives::link_past_wherever` meets its contract: the first and the last of a bin by the bin that unsorted's ends tell of (`first_home`, `last-home`), the
-- others by their two links (`unlink-inner-gave`). Assumes nothing.
use mathlib.Core.Path.{sym, subst, ◌∙◌}
use Prim.Native.Nat.{ℕ}
use native.Mathlib.Omega.{arith}
use lib.ListN.{length}
use Rattle.primitives.specs.Places.{InBin, home-in}
use Rattle.primitives.specs.Chunks.{Inside}
use Rattle.primitives.specs.Stacks.{ok-length}
use Rattle.primitives.specs.Bins.{home-ready, home-inside, first_home, last-home, unlink-known-gave, unlink-inner-gave}
use Rattle.primitives.proofs.link_past_wherever.Goals as goal

pub back_at-p-requires : goal.back_at-p-requires
back_at-p-requires c =
    let inside : Inside (length c.args.a.now) c.args.c.0 = home-inside _ _ _ _ _ c.requires.ok c.requires.holds.home.here in
    let i = inside in (omega arith, omega arith)

pub bounds-r-at : goal.bounds-r-at
bounds-r-at c = omega (arith, ok-length _ _ _ c.requires.ok)

pub link_past-requires : goal.link_past-requires
link_past-requires c =
    let j = c.bin_of_end-j.ensures ∙ first_home _ _ _ c.requires.ok _ _ _ _ _ c.requires.holds.home c.back_at-p.ensures c.if-p.true c.bin_first-at.ensures in
    record { heap = c.requires.heap; ok = c.requires.ok; holds = subst (λ (i : ℕ). InBin c.requires.heap i c.args.c.0) (sym j) (home-in _ _ _ _ c.requires.holds.home) }

pub returns-then-p : goal.returns-then-p
returns-then-p c =
    λ h j o m. unlink-known-gave h _ _ o _ _ _ _ m (c.bin_of_end-j.ensures ∙ first_home h _ _ o _ _ _ _ _ m c.back_at-p.ensures c.if-p.true c.bin_first-at.ensures) c.link_past.ensures

pub fwd_at-n-requires : goal.fwd_at-n-requires
fwd_at-n-requires c =
    let inside : Inside (length c.args.a.now) c.args.c.0 = home-inside _ _ _ _ _ c.requires.ok c.requires.holds.home.here in
    let i = inside in (omega arith, omega arith)

pub bounds-r-at-then-n : goal.bounds-r-at-then-n
bounds-r-at-then-n c = omega (arith, ok-length _ _ _ c.requires.ok)

pub link_past-requires-then-n : goal.link_past-requires-then-n
link_past-requires-then-n c =
    let j = c.bin_of_end-j-then-n.ensures ∙ last-home _ _ _ c.requires.ok _ _ _ _ _ c.requires.holds.home c.fwd_at-n.ensures c.if-n.true c.bin_last-at.ensures in
    record { heap = c.requires.heap; ok = c.requires.ok; holds = subst (λ (i : ℕ). InBin c.requires.heap i c.args.c.0) (sym j) (home-in _ _ _ _ c.requires.holds.home) }

pub returns-then-n : goal.returns-then-n
returns-then-n c =
    λ h j o m. unlink-known-gave h _ _ o _ _ _ _ m (c.bin_of_end-j-then-n.ensures ∙ last-home h _ _ o _ _ _ _ _ m c.fwd_at-n.ensures c.if-n.true c.bin_last-at.ensures) c.link_past-then-n.ensures

pub set_fwd-requires : goal.set_fwd-requires
set_fwd-requires c =
    let e = home-ready _ _ _ _ _ _ _ c.requires.ok c.requires.holds.home.here c.fwd_at-n.ensures c.back_at-p.ensures in
    let l = e.pin c.if-p.false in
    (l.0, omega (arith, l.1))

pub set_back-requires : goal.set_back-requires
set_back-requires c =
    let e = home-ready _ _ _ _ _ _ _ c.requires.ok c.requires.holds.home.here c.fwd_at-n.ensures c.back_at-p.ensures in
    let l = e.nin c.if-n.false in
    (l.0, omega (arith, l.1, c.set_fwd.auto.a))

pub returns : goal.returns
returns c =
    λ h j o m. unlink-inner-gave h _ _ o _ _ _ _ _ _ (home-in _ _ _ _ m) c.fwd_at-n.ensures c.back_at-p.ensures c.if-p.false c.if-n.false c.set_fwd.ensures c.set_back.ensures
