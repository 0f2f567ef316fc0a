-- `read_image` meets its contract: refused for the mark, the version or a length, or both parts put into their buffers, and what is made of them. Assumes nothing.
use mathlib.Core.Path.{◌≡◌, sym, ap, ◌∙◌}
use mathlib.Core.Bool.{true}
use mathlib.Core.List.{List}
use Prim.Native.Nat.{ℕ, ◌+◌, ◌-◌, ◌≤◌}
use native.Mathlib.Omega.{arith}
use lib.ListN.{length, drop, length-take, length-drop}
use Rattle.std.proofs.Math.Seq.{take-length}
use Rattle.calls.specs.Ways.{shape-long}
use Rattle.image.specs.Image.{marked?, known?, record_bytes_by, version_in}
use Rattle.image.specs.Ways.{by_most, Fits, fits-true, marked-long, read-no-mark, read-no-version, read-wrong-length, read_done, record-put, same_shape, drop-whole}
use Rattle.image.proofs.read.read_image.Goals as goal

-- n is how many bytes the record has in the file: what the lengths are
record Lengths (f a r : List ℕ) (n : ℕ) : Type 0 where
  by : n ≡ record_bytes_by (version_in f)
  least : 1572 ≤ n
  most : n ≤ 1584
  file : length f ≡ 9 + n + length a
  long : length r ≡ 1584

pub returns-then-not-marked : goal.returns-then-not-marked
returns-then-not-marked c = read-no-mark _ _ _ (sym c.marked.ensures ∙ c.if-not-marked.true)

pub version_in-v-requires : goal.version_in-v-requires
version_in-v-requires c =
    let mark : marked? c.args.file.now ≡ true = sym c.marked.ensures ∙ c.if-not-marked.false in
    marked-long c.args.file.now (mark)

pub returns-then-not-known : goal.returns-then-not-known
returns-then-not-known c =
    let mark : marked? c.args.file.now ≡ true = sym c.marked.ensures ∙ c.if-not-marked.false in
    read-no-version _ _ _ (mark) (ap known? (sym c.version_in-v.ensures) ∙ sym c.known.ensures ∙ c.if-not-known.true)

pub fits-requires : goal.fits-requires
fits-requires c = c.version_in-v.ensures

pub returns-then-not-fits : goal.returns-then-not-fits
returns-then-not-fits c =
    let mark : marked? c.args.file.now ≡ true = sym c.marked.ensures ∙ c.if-not-marked.false in
    let known : known? (version_in c.args.file.now) ≡ true = ap known? (sym c.version_in-v.ensures) ∙ sym c.known.ensures ∙ c.if-not-known.false in
    read-wrong-length _ _ _ (mark) (known) (sym c.fits.ensures ∙ c.if-not-fits.true)

pub overflow_add-at : goal.overflow_add-at
overflow_add-at c =
    let fits : Fits c.args.file.now c.args.arena.now c.args.control.now = fits-true _ _ _ (sym c.fits.ensures ∙ c.if-not-fits.false) in
    let lengths : (n : ℕ) → n ≡ record_bytes_by c.version_in-v.result → Lengths c.args.file.now c.args.arena.now c.args.control.now n = λ n e. let F = fits in let v : n ≡ record_bytes_by (version_in c.args.file.now) = e ∙ ap record_bytes_by c.version_in-v.ensures in let m = by_most (version_in c.args.file.now) in record { by = v; least = omega (arith, m.0, v); most = omega (arith, m.1, v); file = omega (arith, F.file, v); long = shape-long c.args.arena.now c.args.control.now F.shape } in
    let L = lengths _ c.record_bytes-at.ensures in record { fits = omega (arith, L.most) }

pub put_record-requires : goal.put_record-requires
put_record-requires c =
    let fits : Fits c.args.file.now c.args.arena.now c.args.control.now = fits-true _ _ _ (sym c.fits.ensures ∙ c.if-not-fits.false) in
    let lengths : (n : ℕ) → n ≡ record_bytes_by c.version_in-v.result → Lengths c.args.file.now c.args.arena.now c.args.control.now n = λ n e. let F = fits in let v : n ≡ record_bytes_by (version_in c.args.file.now) = e ∙ ap record_bytes_by c.version_in-v.ensures in let m = by_most (version_in c.args.file.now) in record { by = v; least = omega (arith, m.0, v); most = omega (arith, m.1, v); file = omega (arith, F.file, v); long = shape-long c.args.arena.now c.args.control.now F.shape } in
    let L = lengths _ c.record_bytes-at.ensures in
    (L.long, simp (length-take, length-drop) (omega (arith, L.file, L.least)), simp (length-take, length-drop) (omega (arith, L.file, L.most)))

pub slice_bounds-put_bytes-count : goal.slice_bounds-put_bytes-count
slice_bounds-put_bytes-count c =
    let fits : Fits c.args.file.now c.args.arena.now c.args.control.now = fits-true _ _ _ (sym c.fits.ensures ∙ c.if-not-fits.false) in
    let lengths : (n : ℕ) → n ≡ record_bytes_by c.version_in-v.result → Lengths c.args.file.now c.args.arena.now c.args.control.now n = λ n e. let F = fits in let v : n ≡ record_bytes_by (version_in c.args.file.now) = e ∙ ap record_bytes_by c.version_in-v.ensures in let m = by_most (version_in c.args.file.now) in record { by = v; least = omega (arith, m.0, v); most = omega (arith, m.1, v); file = omega (arith, F.file, v); long = shape-long c.args.arena.now c.args.control.now F.shape } in
    let L = lengths _ c.record_bytes-at.ensures in omega (arith, L.file)

pub put_bytes-requires : goal.put_bytes-requires
put_bytes-requires c =
    let fits : Fits c.args.file.now c.args.arena.now c.args.control.now = fits-true _ _ _ (sym c.fits.ensures ∙ c.if-not-fits.false) in
    let lengths : (n : ℕ) → n ≡ record_bytes_by c.version_in-v.result → Lengths c.args.file.now c.args.arena.now c.args.control.now n = λ n e. let F = fits in let v : n ≡ record_bytes_by (version_in c.args.file.now) = e ∙ ap record_bytes_by c.version_in-v.ensures in let m = by_most (version_in c.args.file.now) in record { by = v; least = omega (arith, m.0, v); most = omega (arith, m.1, v); file = omega (arith, F.file, v); long = shape-long c.args.arena.now c.args.control.now F.shape } in
    let L = lengths _ c.record_bytes-at.ensures in simp (length-take, length-drop) (omega (arith, L.file))

pub heap_read-requires : goal.heap_read-requires
heap_read-requires c =
    let fits : Fits c.args.file.now c.args.arena.now c.args.control.now = fits-true _ _ _ (sym c.fits.ensures ∙ c.if-not-fits.false) in
    let F = fits in
    (same_shape _ _ _ _ c.put_bytes.auto.to c.put_record.auto.control F.shape, sym c.known.ensures ∙ c.if-not-known.false)

pub shape_of-arena : goal.shape_of-arena
shape_of-arena c = c.heap_read.auto.arena ∙ c.put_bytes.auto.to

pub shape_of-control : goal.shape_of-control
shape_of-control c = c.put_record.auto.control

pub returns : goal.returns
returns c =
    let mark : marked? c.args.file.now ≡ true = sym c.marked.ensures ∙ c.if-not-marked.false in
    let known : known? (version_in c.args.file.now) ≡ true = ap known? (sym c.version_in-v.ensures) ∙ sym c.known.ensures ∙ c.if-not-known.false in
    let fits : Fits c.args.file.now c.args.arena.now c.args.control.now = fits-true _ _ _ (sym c.fits.ensures ∙ c.if-not-fits.false) in
    let lengths : (n : ℕ) → n ≡ record_bytes_by c.version_in-v.result → Lengths c.args.file.now c.args.arena.now c.args.control.now n = λ n e. let F = fits in let v : n ≡ record_bytes_by (version_in c.args.file.now) = e ∙ ap record_bytes_by c.version_in-v.ensures in let m = by_most (version_in c.args.file.now) in record { by = v; least = omega (arith, m.0, v); most = omega (arith, m.1, v); file = omega (arith, F.file, v); long = shape-long c.args.arena.now c.args.control.now F.shape } in
    let s = c.args in
    let f : List ℕ = s.file.now in
    let n : ℕ = c.record_bytes-at.result in
    let L = lengths n c.record_bytes-at.ensures in
    read_done f s.arena.now s.control.now c.version_in-v.result (length c.put_bytes.new.to) _ _ c.version_in-v.ensures (mark) (known) (fits) c.put_bytes.auto.to
    (take-length c.put_bytes.new.to ∙ c.put_bytes.ensures ∙ drop-whole (9 + n) f ∙ ap (λ (k : ℕ). drop (9 + k) f) L.by)
    (c.put_record.ensures ∙ record-put f n (9 + n - 9) L.by (omega (arith, L.file)) (omega arith))
    c.heap_read.ensures
