-- `put_head` puts the line that names a file.
-- Assumes nothing.
use Rattle.room.proofs.Counting.{counts-then, counts-as}
use Rattle.lines.proofs.Ending.{head-is}
use Rattle.lines.proofs.put_head.Goals as goal

pub returns : goal.returns
returns c = counts-as (head-is _) (counts-then c.put_byte-next.ensures c.put_end.ensures)
