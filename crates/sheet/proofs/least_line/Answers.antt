-- `least_line` counts what a line has at least, by its row's name and data.
-- Assumes nothing.
use mathlib.Core.Path.{◌∙◌}
use Rattle.sheet.proofs.Least.{least-hidden, least-name, least-standard, least-custom}
use Rattle.sheet.proofs.least_line.Goals as goal

pub returns-then-row-eq1 : goal.returns-then-row-eq1
returns-then-row-eq1 c = least-hidden _ c.if-row-eq1.true

pub returns-then-row-ne1 : goal.returns-then-row-ne1
returns-then-row-ne1 c = c.least_text.ensures ∙ least-standard _ c.if-row-eq1.false c.if-row-ne1.true

pub returns-then-row : goal.returns-then-row
returns-then-row c = least-name _ c.if-row-eq1.false c.if-row-ne1.false c.if-row.true

pub returns : goal.returns
returns c = c.least_text-2.ensures ∙ least-custom _ c.if-row-eq1.false c.if-row-ne1.false c.if-row.false
