-- `title_format` is the format of a row that can be corrected, else 1.
-- Assumes nothing.
use native.Mathlib.Omega.{arith}
use Rattle.file.proofs.Rows.{standing}
use Rattle.titles.proofs.Retitling.{format-refused, format-past, format-none, format-is}
use Rattle.titles.proofs.title_format.Goals as goal

pub returns-then-s-row : goal.returns-then-s-row
returns-then-s-row c = format-past _ c.node_table-nodes.ensures c.item_table-items.ensures _
    (standing c.args.file.now _ _ _ c.read_file.ensures.answer c.read_file.ensures.nodes c.read_file.ensures.items c.in-Ok.is)
    c.if-s-row.true

pub is_no_title-requires : goal.is_no_title-requires
is_no_title-requires c = let w = (standing c.args.file.now _ _ _ c.read_file.ensures.answer c.read_file.ensures.nodes c.read_file.ensures.items c.in-Ok.is)
    in omega (arith, w.item_room, c.if-s-row.false)

pub returns-then-is_no_title : goal.returns-then-is_no_title
returns-then-is_no_title c = format-none _ c.node_table-nodes.ensures c.item_table-items.ensures _
    (standing c.args.file.now _ _ _ c.read_file.ensures.answer c.read_file.ensures.nodes c.read_file.ensures.items c.in-Ok.is)
    (omega (arith, c.if-s-row.false)) c.is_no_title.ensures c.if-is_no_title.true

pub item_at-requires : goal.item_at-requires
item_at-requires c = let w = (standing c.args.file.now _ _ _ c.read_file.ensures.answer c.read_file.ensures.nodes c.read_file.ensures.items c.in-Ok.is)
    in omega (arith, w.item_room, c.if-s-row.false)

pub returns-in-Err : goal.returns-in-Err
returns-in-Err c = format-refused _ c.node_table-nodes.ensures c.item_table-items.ensures _ c.read_file.ensures.answer c.in-Err.is

pub returns-else-is_no_title : goal.returns-else-is_no_title
returns-else-is_no_title c = format-is _ c.node_table-nodes.ensures c.item_table-items.ensures _
    (standing c.args.file.now _ _ _ c.read_file.ensures.answer c.read_file.ensures.nodes c.read_file.ensures.items c.in-Ok.is)
    (omega (arith, c.if-s-row.false)) c.is_no_title.ensures c.if-is_no_title.false c.item_at.ensures
