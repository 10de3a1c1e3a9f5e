-- `put_visible_line` puts the line of an item row, or none where it is hidden.
-- Assumes nothing.
use Rattle.room.proofs.Counting.{counts-none, counts-as}
use Rattle.sheet.proofs.Lines.{line-hidden, line-shown}
use native.Mathlib.Omega.{arith}
use Rattle.sheet.proofs.put_visible_line.Goals as goal

pub returns-then-item_at-eq1 : goal.returns-then-item_at-eq1
returns-then-item_at-eq1 c = counts-as (line-hidden _ _ c.item_at.ensures c.if-item_at-eq1.true) (counts-none _ (omega arith))

pub returns : goal.returns
returns c = counts-as (line-shown _ _ c.item_at.ensures c.if-item_at-eq1.false) c.put_item_line.ensures
