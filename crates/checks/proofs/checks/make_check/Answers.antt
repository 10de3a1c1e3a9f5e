-- `make_check` answers version and length of an accepted file, or the refusal.
-- Assumes nothing.
use Rattle.file.proofs.Rows.{standing}
use Rattle.lines.proofs.Ending.{gives_as}
use Rattle.lines.proofs.Reading.{unread-printed}
use Rattle.checks.specs.Checked.{check_answer}
use Rattle.checks.proofs.Judging.{check-good}
use Rattle.checks.proofs.checks.make_check.Goals as goal

pub returns-in-Err : goal.returns-in-Err
unfolding check_answer
returns-in-Err c = gives_as (unread-printed _ c.node_table-nodes.ensures c.item_table-items.ensures c.read_file.ensures.answer c.in-Err.is _ _ _ _) c.refuse.ensures

pub returns-in-Ok : goal.returns-in-Ok
returns-in-Ok c = gives_as (check-good _ c.node_table-nodes.ensures c.item_table-items.ensures _ _
    (standing c.args.file.now _ _ _ c.read_file.ensures.answer c.read_file.ensures.nodes c.read_file.ensures.items c.in-Ok.is))
    (c.conclude.ensures _ _ c.put_ok-end.ensures)
