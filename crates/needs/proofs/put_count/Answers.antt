-- `put_count` puts the line of a count.
-- Assumes nothing.
use Rattle.room.proofs.Counting.{counts-then, counts-as}
use Rattle.needs.proofs.Needing.{count-is}
use Rattle.needs.proofs.put_count.Goals as goal

pub returns : goal.returns
returns c = counts-as (count-is _ _ _ _) (counts-then
    (counts-then (counts-then (counts-then (counts-then c.put_byte-a.ensures c.put_number-b.ensures) c.put_number-c.ensures)
    c.put_number-d.ensures) c.put_number-e.ensures) c.put_byte.ensures)
