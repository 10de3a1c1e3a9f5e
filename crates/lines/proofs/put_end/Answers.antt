-- `put_end` puts the end of a line.
-- Assumes nothing.
use Rattle.room.proofs.Counting.{counts-then, counts-as}
use Rattle.lines.proofs.Ending.{end_is}
use Rattle.lines.proofs.put_end.Goals as goal

pub returns : goal.returns
returns c = counts-as (end_is _) (counts-then c.put_bytes-next.ensures c.put_byte.ensures)
