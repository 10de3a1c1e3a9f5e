-- `put_label` puts the field of an item row.
-- Assumes nothing.
use Rattle.room.proofs.Counting.{counts-then, counts-as}
use Rattle.rows.proofs.Rows.{name_in}
use Rattle.sheet.proofs.Lines.{label-standard, label-custom}
use Rattle.sheet.proofs.put_label.Goals as goal

pub put_escaped-requires : goal.put_escaped-requires
put_escaped-requires c = name_in c.args.row c.requires c.if-row-eq1.true

pub returns-then-row-eq1 : goal.returns-then-row-eq1
returns-then-row-eq1 c = counts-as (label-custom _ _ c.if-row-eq1.true)
    (counts-then (counts-then (counts-then c.put_byte-a.ensures c.put_byte-b.ensures)
    c.put_byte-c.ensures) c.put_escaped.ensures)

pub returns : goal.returns
returns c = counts-as (label-standard _ _ c.if-row-eq1.false)
    (counts-then (counts-then c.put_byte-a.ensures c.put_byte-d.ensures) c.put_number.ensures)
