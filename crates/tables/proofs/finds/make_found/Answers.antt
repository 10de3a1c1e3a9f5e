-- `make_found` answers the row that is found, or the refusal.
-- Assumes nothing.
use mathlib.Core.Path.{ap}
use Rattle.find.specs.Told.{told, wanted_of, question}
use Rattle.lines.proofs.Ending.{gives_as}
use Rattle.lines.proofs.Reading.{asked-bad}
use Rattle.tables.specs.Rows.{found_by, found_answer}
use Rattle.tables.proofs.Found.{found-good, found-there}
use Rattle.tables.proofs.finds.make_found.Goals as goal

pub put_found-end-requires : goal.put_found-end-requires
put_found-end-requires c = found-there _ c.node_table-nodes.ensures c.item_table-items.ensures 0 c.args.climbs (wanted_of c.args.field c.args.name.now) c.args.row
    c.find_field.ensures.answer c.in-Ok.is c.find_field.ensures.items

pub returns-in-Err : goal.returns-in-Err
unfolding found_answer
returns-in-Err c = gives_as (asked-bad _ c.node_table-nodes.ensures c.item_table-items.ensures (question _ _ _ _) (found_by _) _ _ c.find_field.ensures.answer (ap told c.in-Err.is)) c.refuse.ensures

pub returns-in-Ok : goal.returns-in-Ok
returns-in-Ok c = gives_as (found-good _ c.node_table-nodes.ensures c.item_table-items.ensures _ _ _ _ c.find_field.ensures.answer c.in-Ok.is c.find_field.ensures.items)
    (c.conclude.ensures _ _ c.put_found-end.ensures)
