-- `skip_links::group_of` meets its contract: by whether the sizes are equal. Assumes nothing.
use mathlib.Core.Path.{sym, ◌∙◌}
use Rattle.skip_links.specs.RingTurn.{member-same, member-other}
use Rattle.skip_links.proofs.group_of.Goals as goal

pub returns-then-size_at : goal.returns-then-size_at
returns-then-size_at c = sym (member-same _ _ _ _ (sym c.size_at.ensures ∙ c.if-size_at.true ∙ c.size_at-2.ensures)).0

pub returns : goal.returns
returns c = sym (member-other _ _ _ _ (λ e. c.if-size_at.false (c.size_at.ensures ∙ e ∙ sym c.size_at-2.ensures))).0
