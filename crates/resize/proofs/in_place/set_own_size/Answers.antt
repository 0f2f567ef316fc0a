-- `resize::set_own_size` meets its contract: the P that is written is the one that was read. Assumes nothing.
use mathlib.Core.Path.{ap, ◌∙◌}
use Prim.Native.Nat.{ℕ}
use Rattle.le.specs.Arena.{arena_words}
use Rattle.sizes.specs.SizeWord.{bit, p_of_word}
use Rattle.machine.specs.Writes.{size, put}
use Rattle.resize.specs.Finish.{bit_is}
use Rattle.resize.proofs.in_place.set_own_size.Goals as goal

pub returns : goal.returns
returns c =
    let s = c.args in
    let p = c.has_p-p.ensures ∙ ap p_of_word c.size_word_at.ensures in
    c.set_size.ensures ∙ ap (λ (n : ℕ). put (size s.c.0 s.s n) (arena_words s.a.now)) (ap bit p ∙ bit_is _)
