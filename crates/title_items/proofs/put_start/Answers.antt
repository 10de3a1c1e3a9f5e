-- `put_start` puts the field and the number of versions.
-- Assumes nothing.
use Rattle.title_items.proofs.Putting.{row_inside, start-universal, start-versions}
use Rattle.title_items.proofs.put_start.Goals as goal

pub put_field-a-requires : goal.put_field-a-requires
put_field-a-requires c = row_inside c.item_at-item.ensures c.requires.2

pub returns-then-item-eq0 : goal.returns-then-item-eq0
returns-then-item-eq0 c = λ row title. start-universal _ row title _ _ c.item_at-item.ensures _ c.put_field-a.ensures c.if-item-eq0.true c.put_number.ensures

pub returns : goal.returns
returns c = λ row title. start-versions _ row title _ _ c.item_at-item.ensures _ c.put_field-a.ensures c.if-item-eq0.false
    (c.further.ensures.count _ _ _) c.put_number-2.ensures
