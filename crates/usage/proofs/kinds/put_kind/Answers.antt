-- `put_kind` puts the line of a kind.
-- Assumes nothing.
use Rattle.room.proofs.Counting.{counts-then, counts-as}
use Rattle.usage.proofs.Accounting.{kind-is}
use Rattle.usage.proofs.kinds.put_kind.Goals as goal

pub returns : goal.returns
returns c = counts-as (kind-is _ _) (counts-then (counts-then c.put_bytes-a.ensures c.put_number-b.ensures) c.put_byte.ensures)
