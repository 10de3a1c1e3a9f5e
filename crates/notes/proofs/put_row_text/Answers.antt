-- `put_row_text` puts the text of an item row, or none.
-- Assumes nothing.
use native.Mathlib.Omega.{arith}
use Rattle.room.proofs.Counting.{counts-none, counts-as}
use Rattle.file.proofs.Rows.{standing}
use Rattle.file.proofs.Own.{item-rows}
use Rattle.notes.proofs.Changes.{text-refused, text-past, text-none, text-is}
use Rattle.notes.proofs.put_row_text.Goals as goal

pub returns-then-s-row : goal.returns-then-s-row
returns-then-s-row c = counts-as (text-past _ c.node_table-nodes.ensures c.item_table-items.ensures _
    (standing c.args.file.now _ _ _ c.read_file.ensures.answer c.read_file.ensures.nodes c.read_file.ensures.items c.in-Ok.is)
    c.if-s-row.true) (counts-none _ (omega arith))

pub is_no_title-requires : goal.is_no_title-requires
is_no_title-requires c = let w = (standing c.args.file.now _ _ _ c.read_file.ensures.answer c.read_file.ensures.nodes c.read_file.ensures.items c.in-Ok.is)
    in omega (arith, w.item_room, c.if-s-row.false)

pub returns-then-is_no_title : goal.returns-then-is_no_title
returns-then-is_no_title c = counts-as (text-none _ c.node_table-nodes.ensures c.item_table-items.ensures _
    (standing c.args.file.now _ _ _ c.read_file.ensures.answer c.read_file.ensures.nodes c.read_file.ensures.items c.in-Ok.is)
    (omega (arith, c.if-s-row.false)) c.is_no_title.ensures c.if-is_no_title.true) (counts-none _ (omega arith))

pub item_at-requires : goal.item_at-requires
item_at-requires c = let w = (standing c.args.file.now _ _ _ c.read_file.ensures.answer c.read_file.ensures.nodes c.read_file.ensures.items c.in-Ok.is)
    in omega (arith, w.item_room, c.if-s-row.false)

pub put_text-requires : goal.put_text-requires
put_text-requires c = rw c.item_at.ensures ((item-rows
    (standing c.args.file.now _ _ _ c.read_file.ensures.answer c.read_file.ensures.nodes c.read_file.ensures.items c.in-Ok.is)).1 _
    (omega (arith, c.if-s-row.false)))

pub returns-in-Err : goal.returns-in-Err
returns-in-Err c = counts-as (text-refused _ c.node_table-nodes.ensures c.item_table-items.ensures _ c.read_file.ensures.answer c.in-Err.is) (counts-none _ (omega arith))

pub returns-else-is_no_title : goal.returns-else-is_no_title
returns-else-is_no_title c = counts-as (text-is _ c.node_table-nodes.ensures c.item_table-items.ensures _
    (standing c.args.file.now _ _ _ c.read_file.ensures.answer c.read_file.ensures.nodes c.read_file.ensures.items c.in-Ok.is)
    (omega (arith, c.if-s-row.false)) c.is_no_title.ensures c.if-is_no_title.false c.item_at.ensures) c.put_text.ensures
