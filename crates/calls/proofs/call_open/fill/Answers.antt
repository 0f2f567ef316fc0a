-- `fill` writes a blank record: length and top, the counts in one stretch, then the key and the edition. Assumes nothing.
use Rattle.std.proofs.Common.{rules, ◌≡◌, refl, ap, ◌∙◌, ℕ, ◌/◌, ◌%◌, ◌^◌, List, length, replicate, arith, length-set}
use lib.ListN.{set}
use borrow.Rule.Slice.PartMut.{put_mid}
use Rattle.calls.specs.Blank.{empty, empty-length, zeroed, zeroed-blank}
use Rattle.calls.proofs.call_open.fill.Goals as goal

counts-zeroed : (n t : ℕ) → put_mid 67 64 (set (set empty 0 n) 1 t) (replicate 64 0) ≡ zeroed 64 (set (set empty 0 n) 1 t)
unfolding zeroed empty
counts-zeroed n t = refl

pub bounds-r-0 : goal.bounds-r-0
bounds-r-0 c = omega (arith, empty-length _ c.requires)

pub bounds-r-1 : goal.bounds-r-1
bounds-r-1 c = simp length-set (omega (arith, empty-length _ c.requires))

pub slice_bounds-fill-end : goal.slice_bounds-fill-end
slice_bounds-fill-end c = let e = empty-length _ c.requires in search rules

pub set_key_in-requires : goal.set_key_in-requires
set_key_in-requires c = let e = empty-length _ c.requires in search rules

pub bounds-r-395 : goal.bounds-r-395
bounds-r-395 c =
    let e = empty-length _ c.requires in
    let l : length (put_mid 67 64 (set (set c.args.r.now 0 c.args.n) 1 c.args.t) c.fill.new.self) ≡ 396 = search rules in
    omega (arith, c.set_key_in.auto.r, l)

pub returns : goal.returns
returns c =
    let f : c.fill.new.self ≡ replicate 64 0 = search rules in
    let ends : List ℕ → List ℕ = λ l. set (set (set l 393 (c.args.key % 2 ^ 32)) 394 (c.args.key / 2 ^ 32)) 395 c.args.edition in
    ap (λ l. set l 395 c.args.edition) c.set_key_in.ensures
    ∙ ap (λ l. ends (put_mid 67 64 (set (set l 0 c.args.n) 1 c.args.t) c.fill.new.self)) c.requires
    ∙ ap (λ z. ends (put_mid 67 64 (set (set empty 0 c.args.n) 1 c.args.t) z)) f
    ∙ ap ends (counts-zeroed c.args.n c.args.t)
    ∙ zeroed-blank c.args.n c.args.t c.args.key c.args.edition
