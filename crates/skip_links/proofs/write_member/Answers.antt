-- `skip_links::write_member` meets its contract: by whether the sizes are equal. Assumes nothing.
use mathlib.Core.Path.{sym, ap, ◌∙◌}
use mathlib.Core.List.{List}
use Rattle.le.specs.Arena.{arena_words}
use Rattle.machine.specs.Writes.{Write, apply}
use Rattle.skip_links.specs.RingTurn.{member-same, member-other}
use Rattle.skip_links.proofs.write_member.Goals as goal

pub returns-then-size_at : goal.returns-then-size_at
returns-then-size_at c =
    let a = c.args in
    let m = member-same _ _ a.q.0 a.c.0 (sym c.size_at.ensures ∙ c.if-size_at.true ∙ c.size_at-2.ensures) in
    record { result_value = sym m.0; a_after = c.set_no_skips.ensures ∙ sym (ap (λ (es : List Write). apply es (arena_words a.a.now)) m.1) }

pub returns : goal.returns
returns c =
    let b = c.args in
    let m = member-other _ _ b.q.0 b.c.0 (λ e. c.if-size_at.false (c.size_at.ensures ∙ e ∙ sym c.size_at-2.ensures)) in
    record { result_value = sym m.0; a_after = c.set_linked.ensures ∙ sym (ap (λ (es : List Write). apply es (arena_words b.a.now)) m.1) }
