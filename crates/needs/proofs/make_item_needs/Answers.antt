-- `make_item_needs` answers the counts of a visible content description, or the refusal.
-- Assumes nothing.
use Rattle.lines.proofs.Ending.{gives_as, printed-bad}
use Rattle.needs.proofs.Needing.{nothing-printed, told-printed, needs-hidden, needs-other, needs-told}
use Rattle.needs.proofs.make_item_needs.Goals as goal

pub returns-then-item-eq1 : goal.returns-then-item-eq1
returns-then-item-eq1 c = gives_as (nothing-printed _ (needs-hidden _ _ _ c.if-item-eq1.true)) c.hidden.ensures

pub returns-then-not-is_description : goal.returns-then-not-is_description
returns-then-not-is_description c = gives_as (printed-bad (λ a. a) _ _ (needs-other _ _ _ c.if-item-eq1.false c.is_description.ensures c.if-not-is_description.true)) c.refuse.ensures

pub put_counts-put-requires : goal.put_counts-put-requires
put_counts-put-requires c = c.requires.0

pub returns : goal.returns
returns c = gives_as (told-printed _ _ (needs-told _ _ _ c.if-item-eq1.false c.is_description.ensures c.if-not-is_description.false)) (c.put_answered.ensures _ _ c.put_counts-put.ensures)
