-- `put_text` puts the data of an item row.
-- Assumes nothing.
use Rattle.room.proofs.Counting.{counts-as}
use Rattle.sheet.proofs.Lines.{text-unicode, text-plain}
use Rattle.sheet.proofs.put_text.Goals as goal

pub returns-then-row-eq2 : goal.returns-then-row-eq2
returns-then-row-eq2 c = counts-as (text-unicode _ _ c.if-row-eq2.true) c.put_unicode.ensures

pub returns : goal.returns
returns c = counts-as (text-plain _ _ c.if-row-eq2.false) c.put_escaped.ensures
