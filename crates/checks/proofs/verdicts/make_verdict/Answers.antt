-- `make_verdict` answers the verdict, or the refusal.
-- Assumes nothing.
use mathlib.Core.Path.{ap}
use Rattle.refusals.specs.Told.{told}
use Rattle.mobile.specs.Mobile.{mobile}
use Rattle.lines.proofs.Ending.{gives_as}
use Rattle.lines.proofs.Reading.{asked-bad, asked-good}
use Rattle.checks.specs.Checked.{judged, verdict_answer}
use Rattle.checks.proofs.verdicts.make_verdict.Goals as goal

pub returns-in-Err : goal.returns-in-Err
unfolding verdict_answer
returns-in-Err c = gives_as (asked-bad _ c.node_table-nodes.ensures c.item_table-items.ensures (mobile _) (judged _) _ _ c.judge.ensures.answer (ap told c.in-Err.is)) c.refuse.ensures

pub returns-in-Ok : goal.returns-in-Ok
unfolding verdict_answer
returns-in-Ok c = gives_as (asked-good _ c.node_table-nodes.ensures c.item_table-items.ensures (mobile _) (judged _) _ _ c.judge.ensures.answer (ap told c.in-Ok.is))
    (rw c.verdict_status.ensures at (c.conclude.ensures _ _ c.put_verdict-end.ensures))
