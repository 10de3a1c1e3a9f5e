-- `mark_rows` marks all places, part after part.
-- Assumes nothing.
use Rattle.account.proofs.Marking.{all-painted}
use Rattle.account.proofs.marks.mark_rows.Goals as goal

pub returns : goal.returns
returns c = all-painted _ _ _ _ c.fill.ensures c.fill-2.ensures c.mark_nodes.ensures c.mark_items.ensures
