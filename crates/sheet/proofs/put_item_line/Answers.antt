-- `put_item_line` puts the line of an item row.
-- Assumes nothing.
use Rattle.room.proofs.Counting.{counts-then, counts-as}
use Rattle.sheet.proofs.Lines.{item-is}
use Rattle.sheet.proofs.put_item_line.Goals as goal

pub returns : goal.returns
returns c = counts-as (item-is _ _ c.item_at.ensures c.item_at-2.ensures c.item_at-3.ensures
    c.item_at-4.ensures c.item_at-5.ensures)
    (counts-then (counts-then (counts-then
    (counts-then (counts-then (counts-then (counts-then c.put_byte-a.ensures c.put_number-b.ensures)
    c.put_label-c.ensures) c.put_number-d.ensures) c.put_number-e.ensures)
    c.put_byte-f.ensures) c.put_text-g.ensures) c.put_byte.ensures)
