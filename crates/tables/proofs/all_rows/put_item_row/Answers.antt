-- `put_item_row` puts the line of an item row.
-- Assumes nothing.
use Rattle.room.proofs.Counting.{counts-then, counts-as}
use Rattle.tables.proofs.Listed.{item-row_is}
use Rattle.tables.proofs.all_rows.put_item_row.Goals as goal

pub returns : goal.returns
returns c = counts-as (item-row_is _ _ _) (counts-then (counts-then (counts-then c.put_byte-a.ensures c.put_number-b.ensures) c.put_item_words-c.ensures) c.put_byte.ensures)
