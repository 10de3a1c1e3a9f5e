-- `put_ok` puts the line of an accepted file.
-- Assumes nothing.
use Rattle.room.proofs.Counting.{counts-then, counts-as}
use Rattle.checks.proofs.Judging.{ok-is}
use Rattle.checks.proofs.checks.put_ok.Goals as goal

pub returns : goal.returns
returns c = counts-as (ok-is _ _ _) (counts-then (counts-then (counts-then c.put_bytes-a.ensures c.put_version-b.ensures) c.put_number-c.ensures) c.put_end.ensures)
