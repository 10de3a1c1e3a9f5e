-- `put_found` puts the lines of a row that was found.
-- Assumes nothing.
use Rattle.room.proofs.Counting.{counts-then, counts-as}
use Rattle.tables.proofs.Found.{found-is}
use Rattle.tables.proofs.finds.put_found.Goals as goal

pub returns : goal.returns
returns c = counts-as (found-is _ _ _ c.item_at.ensures) (counts-then c.put_item_row-next.ensures c.put_visible_line.ensures)
