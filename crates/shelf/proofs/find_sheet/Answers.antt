-- `find_sheet` judges 39, then 27.
-- Assumes nothing.
use mathlib.Core.Path.{sym, ◌∙◌}
use native.Mathlib.Omega.{arith}
use Rattle.shelf.proofs.Judging.{found-damaged, found-zero, found_at, found_none}
use Rattle.shelf.proofs.find_sheet.Goals as goal

pub returns-then-is_damaged : goal.returns-then-is_damaged
returns-then-is_damaged c = found-damaged _ _ _ (sym c.is_damaged.ensures ∙ c.if-is_damaged.true)

pub returns-then-label-eq0 : goal.returns-then-label-eq0
returns-then-label-eq0 c = found-zero _ _ _ (sym c.is_damaged.ensures ∙ c.if-is_damaged.false) c.if-label-eq0.true

pub returns-then-i-cards : goal.returns-then-i-cards
returns-then-i-cards c = found_at _ _ _ (sym c.is_damaged.ensures ∙ c.if-is_damaged.false) c.if-label-eq0.false c.find_from-i.ensures
    (omega arith)

pub returns : goal.returns
returns c = found_none _ _ _ (sym c.is_damaged.ensures ∙ c.if-is_damaged.false) c.if-label-eq0.false c.find_from-i.ensures
    (omega arith)
