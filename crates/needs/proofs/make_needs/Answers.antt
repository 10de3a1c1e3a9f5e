-- `make_needs` answers the counts of all visible content descriptions, or the refusal.
-- Assumes nothing.
use Rattle.file.proofs.Rows.{standing}
use Rattle.file.proofs.Own.{item-rows}
use Rattle.lines.proofs.Ending.{gives_as}
use Rattle.lines.proofs.Reading.{unread-printed}
use Rattle.needs.specs.Needed.{needs_answer}
use Rattle.needs.proofs.Needing.{needs-good}
use Rattle.needs.proofs.make_needs.Goals as goal

pub put_needs-put-requires : goal.put_needs-put-requires
put_needs-put-requires c = item-rows (standing c.args.file.now _ _ _ c.read_file.ensures.answer c.read_file.ensures.nodes c.read_file.ensures.items c.in-Ok.is)

pub returns-in-Err : goal.returns-in-Err
unfolding needs_answer
returns-in-Err c = gives_as (unread-printed _ c.node_table-nodes.ensures c.item_table-items.ensures c.read_file.ensures.answer c.in-Err.is _ _ _ _) c.refuse.ensures

pub returns-in-Ok : goal.returns-in-Ok
returns-in-Ok c = gives_as (needs-good _ c.node_table-nodes.ensures c.item_table-items.ensures _
    (standing c.args.file.now _ _ _ c.read_file.ensures.answer c.read_file.ensures.nodes c.read_file.ensures.items c.in-Ok.is))
    (c.put_answered.ensures _ _ c.put_needs-put.ensures)
