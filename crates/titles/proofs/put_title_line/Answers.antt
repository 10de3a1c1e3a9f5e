-- `put_title_line` puts the line of a content that can be corrected, or none.
-- Assumes nothing.
use native.Mathlib.Omega.{arith}
use Rattle.room.proofs.Counting.{counts-none, counts-then, counts-as}
use Rattle.titles.proofs.Retitling.{line-none, line-is}
use Rattle.titles.proofs.put_title_line.Goals as goal

pub returns-then-is_no_title : goal.returns-then-is_no_title
returns-then-is_no_title c = counts-as (line-none _ _ _ c.is_no_title.ensures c.if-is_no_title.true) (counts-none _ (omega arith))

pub returns : goal.returns
returns c = counts-as (line-is _ _ _ c.is_no_title.ensures c.if-is_no_title.false) (counts-then (counts-then c.put_decimal-a.ensures c.put_byte-b.ensures) c.put_item_line.ensures)
