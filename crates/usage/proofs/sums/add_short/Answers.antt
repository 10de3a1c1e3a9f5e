-- `add_short` adds the file to the totals.
-- Assumes nothing.
use Rattle.usage.proofs.Accounting.{totals_told}
use Rattle.usage.proofs.sums.add_short.Goals as goal

pub returns : goal.returns
returns c = totals_told _ c.node_table-nodes.ensures c.item_table-items.ensures _ c.account.ensures.totals
