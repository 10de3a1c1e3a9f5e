-- `make_corrected` answers the file with other data in a row, or the refusal.
-- Assumes nothing.
use Rattle.lines.proofs.Ending.{gives_as}
use Rattle.titles.proofs.Retitling.{corrected-as}
use Rattle.titles.proofs.make_corrected.Goals as goal

pub returns : goal.returns
returns c = gives_as (corrected-as _ c.node_table-nodes.ensures c.item_table-items.ensures _ _ _)
    (c.settle.ensures _ _ c.correct_title-written.auto.out c.correct_title-written.ensures.answer c.correct_title-written.ensures.out)
