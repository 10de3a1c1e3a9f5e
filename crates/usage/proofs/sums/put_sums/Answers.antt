-- `put_sums` puts the lines of sums.
-- Assumes nothing.
use Rattle.room.proofs.Counting.{counts-then, counts-as}
use Rattle.usage.proofs.Accounting.{sums-are}
use Rattle.usage.proofs.sums.put_sums.Goals as goal

pub returns : goal.returns
returns c = counts-as (sums-are _) (counts-then (counts-then c.put_kind-a.ensures c.put_kind-b.ensures) c.put_kinds.ensures)
