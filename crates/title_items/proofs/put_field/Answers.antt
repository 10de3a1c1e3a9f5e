-- `put_field` puts a custom name with its length, or 0 and a standard number.
-- Assumes nothing.
use Rattle.rows.proofs.Rows.{name_in}
use Rattle.title_items.proofs.Putting.{field-custom, field-standard}
use Rattle.title_items.proofs.put_field.Goals as goal

pub put_part-requires : goal.put_part-requires
put_part-requires c = name_in c.args.item c.requires c.if-item-eq1.true

pub returns-then-item-eq1 : goal.returns-then-item-eq1
returns-then-item-eq1 c = field-custom _ _ c.requires c.if-item-eq1.true c.put_number-a.ensures c.put_part.ensures

pub returns : goal.returns
returns c = field-standard _ _ c.if-item-eq1.false c.put_number-a-2.ensures c.put_number.ensures
