-- `put_too_long` puts the line of a file that is too long.
-- Assumes nothing.
use Rattle.room.proofs.Counting.{counts-then, counts-as}
use Rattle.lines.proofs.Ending.{long-is}
use Rattle.lines.proofs.put_too_long.Goals as goal

pub returns : goal.returns
returns c = counts-as (long-is _) (counts-then c.put_bytes-next.ensures c.put_end.ensures)
