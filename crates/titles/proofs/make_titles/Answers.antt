-- `make_titles` answers the list, or the refusal.
-- Assumes nothing.
use Rattle.file.proofs.Rows.{standing}
use Rattle.file.proofs.Own.{item-rows}
use Rattle.lines.proofs.Ending.{gives_as}
use Rattle.lines.proofs.Reading.{unread-printed}
use Rattle.titles.specs.Titles.{titles_answer}
use Rattle.titles.proofs.Retitling.{titles-none, titles-good}
use Rattle.titles.proofs.make_titles.Goals as goal

pub refers_elsewhere-requires : goal.refers_elsewhere-requires
refers_elsewhere-requires c = (standing c.args.file.now _ _ _ c.read_file.ensures.answer c.read_file.ensures.nodes c.read_file.ensures.items c.in-Ok.is).node-room

pub returns-then-refers_elsewhere : goal.returns-then-refers_elsewhere
returns-then-refers_elsewhere c = gives_as (titles-none _ c.node_table-nodes.ensures c.item_table-items.ensures _
    (standing c.args.file.now _ _ _ c.read_file.ensures.answer c.read_file.ensures.nodes c.read_file.ensures.items c.in-Ok.is)
    c.refers_elsewhere.ensures c.if-refers_elsewhere.true) c.refuse-then-refers_elsewhere.ensures

pub put_title_lines-end-requires : goal.put_title_lines-end-requires
put_title_lines-end-requires c = item-rows (standing c.args.file.now _ _ _ c.read_file.ensures.answer c.read_file.ensures.nodes c.read_file.ensures.items c.in-Ok.is)

pub returns-in-Err : goal.returns-in-Err
unfolding titles_answer
returns-in-Err c = gives_as (unread-printed _ c.node_table-nodes.ensures c.item_table-items.ensures c.read_file.ensures.answer c.in-Err.is _ _ _ _) c.refuse.ensures

pub returns-else-refers_elsewhere : goal.returns-else-refers_elsewhere
returns-else-refers_elsewhere c = gives_as (titles-good _ c.node_table-nodes.ensures c.item_table-items.ensures _
    (standing c.args.file.now _ _ _ c.read_file.ensures.answer c.read_file.ensures.nodes c.read_file.ensures.items c.in-Ok.is)
    c.refers_elsewhere.ensures c.if-refers_elsewhere.false) (c.conclude.ensures _ _ c.put_title_lines-end.ensures)
