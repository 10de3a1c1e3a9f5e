-- `least_text` counts what a line has at least, by its row's data.
-- Assumes nothing.
use Rattle.sheet.proofs.Least.{least-unicode, least-plain}
use Rattle.sheet.proofs.least_text.Goals as goal

pub returns-then-row-ne2 : goal.returns-then-row-ne2
returns-then-row-ne2 c = least-plain _ c.if-row-ne2.true

pub returns : goal.returns
returns c = least-unicode _ c.if-row-ne2.false
