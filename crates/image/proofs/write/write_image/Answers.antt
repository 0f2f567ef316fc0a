-- `write_image` meets its contract: refused for its shape or the file's length, or five parts, each put behind those before it. Assumes nothing.
use mathlib.Core.Path.{◌≡◌, sym, ◌∙◌}
use mathlib.Core.Bool.{true}
use Prim.Native.Nat.{◌≤◌}
use native.Mathlib.Omega.{arith}
use lib.ListN.{length}
use borrow.Author.Rules.{rules}
use Rattle.le.specs.WordsLaws.{le_bytes-digits}
use Rattle.machine.specs.Calls.{shape?}
use Rattle.calls.specs.Ways.{allowed-true, shape-long, shape-allowed}
use Rattle.image.specs.Ways.{write_shape, write-length, write_done, parts-image}
use Rattle.image.proofs.write.write_image.Goals as goal

pub returns-then-not-shaped : goal.returns-then-not-shaped
returns-then-not-shaped c = write_shape _ _ _ (sym c.shaped.ensures ∙ c.if-not-shaped.true)

pub returns-then-file-arena : goal.returns-then-file-arena
returns-then-file-arena c = let s = c.args in write-length s.arena.now s.control.now s.file.now (λ e. c.if-file-arena.true (omega arith))

pub overflow_cast-arena : goal.overflow_cast-arena
overflow_cast-arena c =
    let shape : shape? c.args.arena.now c.args.control.now ≡ true = sym c.shaped.ensures ∙ c.if-not-shaped.false in
    let most : length c.args.arena.now ≤ 262144 = (allowed-true (length c.args.arena.now) (shape-allowed c.args.arena.now c.args.control.now (shape))).2 in
    omega (arith, most)

pub bytes-requires-4 : goal.bytes-requires-4
bytes-requires-4 c =
    let shape : shape? c.args.arena.now c.args.control.now ≡ true = sym c.shaped.ensures ∙ c.if-not-shaped.false in
    let long : length c.args.control.now ≡ 1584 = shape-long c.args.arena.now c.args.control.now (shape) in
    omega (arith, long)

pub bytes-requires-5 : goal.bytes-requires-5
bytes-requires-5 c =
    let shape : shape? c.args.arena.now c.args.control.now ≡ true = sym c.shaped.ensures ∙ c.if-not-shaped.false in
    let long : length c.args.control.now ≡ 1584 = shape-long c.args.arena.now c.args.control.now (shape) in
    omega (arith, long)

pub returns : goal.returns
returns c =
    let shape : shape? c.args.arena.now c.args.control.now ≡ true = sym c.shaped.ensures ∙ c.if-not-shaped.false in
    let s = c.args in
    let told = parts-image _ _ (c.to_le_bytes-v.ensures ∙ le_bytes-digits 2 _) (c.to_le_bytes-n.ensures ∙ le_bytes-digits 4 _)
    c.bytes.ensures.adds.written c.bytes-2.ensures.adds.written c.bytes-3.ensures.adds.written c.bytes-4.ensures.adds.written c.bytes-5.ensures.adds.written in
    write_done s.arena.now s.control.now s.file.now c.bytes-5.new.self.at _ (shape) (omega (arith, c.if-file-arena.false)) (search rules) (search rules)
