-- `make_row_count` answers a count of a visible item row, or the refusal.
-- Assumes nothing.
use mathlib.Core.Path.{sym, ap, ◌∙◌}
use Rattle.description.specs.Told.{told}
use Rattle.lines.proofs.Ending.{gives_as, printed-good, printed-bad}
use Rattle.needs.proofs.Needing.{nothing-printed, count-hidden, count-bad, count-good}
use Rattle.needs.proofs.make_row_count.Goals as goal

pub returns-then-item-eq1 : goal.returns-then-item-eq1
returns-then-item-eq1 c = gives_as (nothing-printed _ (count-hidden _ _ _ _ _ c.if-item-eq1.true)) c.hidden.ensures

pub returns-in-Err : goal.returns-in-Err
returns-in-Err c = gives_as (printed-bad (λ a. a) _ _ (count-bad _ _ _ _ _ c.if-item-eq1.false (sym c.count_in.ensures ∙ ap told c.in-Err.is))) c.refuse.ensures

pub returns-in-Ok : goal.returns-in-Ok
returns-in-Ok c = gives_as (printed-good (λ a. a) _ _ (count-good _ _ _ _ _ c.if-item-eq1.false (sym c.count_in.ensures ∙ ap told c.in-Ok.is))) (c.conclude.ensures _ _ c.put_count-end.ensures)
