-- `put_item` puts a row, with what its item has before it where it is the first of the item.
-- Assumes nothing.
use Rattle.title_items.proofs.Putting.{row_first, row-further}
use Rattle.title_items.proofs.put_item.Goals as goal

pub returns-then-item_at-le1 : goal.returns-then-item_at-le1
returns-then-item_at-le1 c = row_first _ _ _ _ _ c.item_at.ensures _ c.if-item_at-le1.true (c.put_start-a.ensures _ _) c.put_content_at.ensures

pub returns : goal.returns
returns c = row-further _ _ _ _ _ c.item_at.ensures _ c.if-item_at-le1.false c.put_content_at-2.ensures
