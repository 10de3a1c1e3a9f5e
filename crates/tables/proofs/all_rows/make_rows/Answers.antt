-- `make_rows` answers all rows, or the refusal.
-- Assumes nothing.
use Rattle.room.proofs.Counting.{counts-then}
use Rattle.file.proofs.Rows.{standing}
use Rattle.lines.proofs.Ending.{gives_as}
use Rattle.lines.proofs.Reading.{unread-printed}
use Rattle.tables.specs.Rows.{rows_answer}
use Rattle.tables.proofs.Listed.{rows-good}
use Rattle.tables.proofs.all_rows.make_rows.Goals as goal

pub put_node_rows-a-requires : goal.put_node_rows-a-requires
put_node_rows-a-requires c = (standing c.args.file.now _ _ _ c.read_file.ensures.answer c.read_file.ensures.nodes c.read_file.ensures.items c.in-Ok.is).node-room

pub put_item_rows-end-requires : goal.put_item_rows-end-requires
put_item_rows-end-requires c = (standing c.args.file.now _ _ _ c.read_file.ensures.answer c.read_file.ensures.nodes c.read_file.ensures.items c.in-Ok.is).item_room

pub returns-in-Err : goal.returns-in-Err
unfolding rows_answer
returns-in-Err c = gives_as (unread-printed _ c.node_table-nodes.ensures c.item_table-items.ensures c.read_file.ensures.answer c.in-Err.is _ _ _ _) c.refuse.ensures

pub returns-in-Ok : goal.returns-in-Ok
returns-in-Ok c = gives_as (rows-good _ c.node_table-nodes.ensures c.item_table-items.ensures _
    (standing c.args.file.now _ _ _ c.read_file.ensures.answer c.read_file.ensures.nodes c.read_file.ensures.items c.in-Ok.is))
    (c.conclude.ensures _ _ (counts-then c.put_node_rows-a.ensures c.put_item_rows-end.ensures))
