-- `make_bytes_line` answers where the bytes of the file go, or the refusal.
-- Assumes nothing.
use mathlib.Core.Path.{ap, ◌∙◌}
use Rattle.refusals.specs.Told.{told}
use Rattle.lines.proofs.Ending.{gives_as, printed-good, printed-bad}
use Rattle.usage.proofs.Accounting.{kinds-told}
use Rattle.usage.specs.Bytes.{in_line, bytes_line_answer}
use Rattle.usage.proofs.kinds.make_bytes_line.Goals as goal

pub returns-in-Err : goal.returns-in-Err
unfolding bytes_line_answer
returns-in-Err c = gives_as (printed-bad (in_line _) _ _ (kinds-told _ c.node_table-nodes.ensures c.item_table-items.ensures c.no_totals.ensures c.account.ensures.answer ∙ ap told c.in-Err.is)) c.refuse.ensures

pub returns-in-Ok : goal.returns-in-Ok
unfolding bytes_line_answer
returns-in-Ok c = gives_as (printed-good (in_line _) _ _
    (kinds-told _ c.node_table-nodes.ensures c.item_table-items.ensures c.no_totals.ensures c.account.ensures.answer ∙ ap told c.in-Ok.is))
    (c.conclude.ensures _ _ c.put_in_line-end.ensures)
