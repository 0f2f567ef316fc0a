-- `whole::mend_file` meets its contract: the arenas lent have the length that the file says, or none would do, so either reading gives what the file gives;
-- and a repair keeps the lengths. Assumes nothing.
use Rattle.std.specs.Prelude.{Ok}
use mathlib.Core.Path.{◌≡◌, sym, ap, ◌∙◌}
use mathlib.Core.List.{List}
use Prim.Native.Nat.{ℕ, ◌≤◌}
use native.Mathlib.Omega.{arith}
use lib.ListN.{length, take, length-take}
use lib.Seq.{length-take-le}
use Rattle.image.specs.Image.{after_reading, length_in, read_call, Reading}
use Rattle.text.specs.Text.{question_text}
use Rattle.image.specs.Ways.{marked-long, same_shape}
use Rattle.image.proofs.Lent.{Lent}
use Rattle.image.proofs.Parts.{TakenFrom, taken, taken-shape}
use Rattle.repair_text.specs.RepairText.{lines_of, image_of}
use Rattle.repair_text.specs.Mends.{read-mends, repaired-mends}
use Rattle.repair_text.proofs.whole.mend_file.Goals as goal
use Rattle.machine.specs.Audit.{Audited}

-- ---- what is lent for a reading of f: n bytes of an arena a, where f says n, and a record r
lent-long : (n : ℕ) (a : List ℕ) → n ≤ 262144 → length a ≡ 262144 → length (take n a) ≡ n
lent-long n a l h = length-take-le n a (omega arith)

lent : (f : List ℕ) (n : ℕ) (a r : List ℕ) → n ≤ 262144 → (9 ≤ length f → length_in f ≤ 262144 → n ≡ length_in f) → length a ≡ 262144 → length r ≡ 1584 → Lent f (take n a) r
lent f n a r l v h k = record { arena = λ p q. lent-long n a l h ∙ v p q; long = k }

pub slice_bounds-before-end-2 : goal.slice_bounds-before-end-2
slice_bounds-before-end-2 c = simp length-take (omega arith)

pub returns-in-Err : goal.returns-in-Err
returns-in-Err c =
    let q = c.requires.arena0_len in
    let n = c.length_in-n in
    let l = lent c.args.file.now n.result c.args.arena0.now c.args.control0.now n.ensures.upper_bound n.ensures.value q.0 q.1 in
    let m = read-mends _ _ _ _ _ l c.read_image-x.ensures c.in-Err.is in
    let e = c.refuse.ensures in
    let no = c.from.ensures ∙ c.no.ensures in
    record {
      lines_bound = (e.lines_bound, omega (arith, e.image_value));
      out_after = e.out_after ∙ ap question_text no ∙ ap lines_of m;
      mended_after = ap (λ (k : ℕ). take k c.args.mended.now) e.image_value ∙ ap image_of m;
    }

pub slice_bounds-after-end-in-Ok : goal.slice_bounds-after-end-in-Ok
slice_bounds-after-end-in-Ok c = simp length-take (omega arith)

-- what the first reading took
first : (f a r b q : List ℕ) (x : Reading) (y : Audited) → after_reading b q x ≡ read_call f a r → x ≡ Ok y → TakenFrom f a r b q y
first f a r b q x y e i = taken _ _ _ _ _ _ (sym e ∙ ap (after_reading b q) i)

pub version_in-requires : goal.version_in-requires
version_in-requires c = marked-long c.args.file.now (first _ _ _ _ _ _ _ c.read_image-x.ensures c.in-Ok.is).mark

pub put_repaired-requires : goal.put_repaired-requires
put_repaired-requires c =
    let q = c.requires.arena0_len in
    let n = c.length_in-n in
    let d = c.read_image-x in
    let b = c.read_image in
    let y = c.repair_by-y in
    let S = taken-shape _ _ _ _ _ _ (first _ _ _ _ _ _ _ d.ensures c.in-Ok.is) in
    let h : length y.new.arena ≡ length d.new.arena =
    omega (arith, S.1, lent-long n.result _ n.ensures.upper_bound q.0, lent-long n.result _ n.ensures.upper_bound q.2, b.auto.arena, y.auto.arena) in
    let i : length y.new.control ≡ length d.new.control = omega (arith, q.1, q.3, d.auto.control, b.auto.control, y.auto.control) in
    record {
      control0_value = (S.0, same_shape _ _ _ _ h i S.0, sym h);
      out_len = c.requires.out_len;
      mended_len = c.requires.mended_len;
    }

pub returns-in-Ok : goal.returns-in-Ok
returns-in-Ok c =
    let q = c.requires.arena0_len in
    let n = c.length_in-n in
    let f = c.args.file.now in
    let l = lent f n.result c.args.arena0.now c.args.control0.now n.ensures.upper_bound n.ensures.value q.0 q.1 in
    let k = lent f n.result c.args.arena.now c.args.control.now n.ensures.upper_bound n.ensures.value q.2 q.3 in
    let m = repaired-mends _ _ _ _ _ _ _ _ _ _ l c.read_image-x.ensures c.in-Ok.is k c.read_image.ensures c.version_in.ensures c.repair_by-y.ensures in
    let e = c.put_repaired.ensures in
    record {
      lines_bound = e.lines_bound;
      out_after = e.out_after ∙ ap lines_of m;
      mended_after = e.mended_after ∙ ap image_of m;
    }
