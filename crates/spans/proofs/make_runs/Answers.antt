-- `make_runs` answers the runs, or the refusal.
-- Assumes nothing.
use Rattle.lines.proofs.Ending.{gives_as}
use Rattle.spans.proofs.Running.{runs-bad, stored, runs-good}
use Rattle.spans.proofs.make_runs.Goals as goal

pub slice_bounds-kinds-end : goal.slice_bounds-kinds-end
slice_bounds-kinds-end c = (stored _ c.node_table-nodes.ensures c.item_table-items.ensures c.file_buffer-kinds.ensures
    c.mark.ensures.answer c.in-Ok.is
    c.mark.ensures.marks).0

pub slice_bounds-put_runs-end : goal.slice_bounds-put_runs-end
slice_bounds-put_runs-end c = (stored _ c.node_table-nodes.ensures c.item_table-items.ensures c.file_buffer-kinds.ensures
    c.mark.ensures.answer c.in-Ok.is
    c.mark.ensures.marks).1

pub returns-in-Err : goal.returns-in-Err
returns-in-Err c = gives_as
    (runs-bad _ c.node_table-nodes.ensures c.item_table-items.ensures c.file_buffer-kinds.ensures
    c.mark.ensures.answer c.in-Err.is _)
    c.refuse.ensures

pub returns-in-Ok : goal.returns-in-Ok
returns-in-Ok c = gives_as
    (runs-good _ c.node_table-nodes.ensures c.item_table-items.ensures c.file_buffer-kinds.ensures
    c.mark.ensures.answer c.in-Ok.is c.mark.ensures.marks _)
    (c.conclude.ensures _ _ c.put_runs-end.ensures)
