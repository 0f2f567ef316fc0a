-- `fits` meets its contract: the shape of the lent buffers and the file's length first, then the length in the file. Assumes nothing.
use mathlib.Core.Path.{◌≡◌, sym, ap, ◌∙◌}
use mathlib.Core.Bool.{false}
use Prim.Native.Nat.{ℕ}
use native.Mathlib.Omega.{arith}
use lib.Dec.{eqb}
use lib.ListN.{length}
use Rattle.machine.specs.Calls.{shape?}
use Rattle.image.specs.Image.{record_bytes_by, version_in}
use Rattle.image.specs.Ways.{never, by_most, not-fits, fits_last}
use Rattle.image.proofs.read.fits.Goals as goal

pub returns-then-not-shaped : goal.returns-then-not-shaped
returns-then-not-shaped c =
    let s = c.args in
    let e : shape? s.arena.now s.control.now ≡ false = sym c.shaped.ensures ∙ c.if-not-shaped.true in
    not-fits s.file.now s.arena.now s.control.now (λ F. never (sym e ∙ F.shape))

pub overflow_add-record_bytes : goal.overflow_add-record_bytes
overflow_add-record_bytes c = record { fits = omega (arith, c.record_bytes.ensures, (by_most c.args.v).1) }

pub overflow_add-record_bytes-2 : goal.overflow_add-record_bytes-2
overflow_add-record_bytes-2 c = record { fits = omega (arith, c.record_bytes.ensures, (by_most c.args.v).1) }

pub returns-then-file-record_bytes : goal.returns-then-file-record_bytes
returns-then-file-record_bytes c =
    let e : record_bytes_by c.args.v ≡ record_bytes_by (version_in c.args.file.now) = ap record_bytes_by c.requires in
    not-fits c.args.file.now c.args.arena.now c.args.control.now (λ F. c.if-file-record_bytes.true (omega (arith, F.file, c.record_bytes.ensures, e)))

pub read-requires : goal.read-requires
read-requires c = omega (arith, c.record_bytes.ensures, (by_most c.args.v).0, c.if-file-record_bytes.false)

pub returns : goal.returns
returns c =
    let e : record_bytes_by c.args.v ≡ record_bytes_by (version_in c.args.file.now) = ap record_bytes_by c.requires in
    ap (λ (n : ℕ). eqb n (length c.args.arena.now)) c.read.ensures
    ∙ fits_last c.args.file.now c.args.arena.now c.args.control.now (sym c.shaped.ensures ∙ c.if-not-shaped.false)
    (omega (arith, c.if-file-record_bytes.false, c.record_bytes.ensures, e))
