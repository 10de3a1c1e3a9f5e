-- `put_run` puts the line of a run.
-- Assumes nothing.
use Rattle.room.proofs.Counting.{counts-then, counts-as}
use Rattle.spans.proofs.Running.{run_is}
use Rattle.spans.proofs.put_run.Goals as goal

pub returns : goal.returns
returns c = counts-as (run_is _ _ _)
    (counts-then (counts-then (counts-then (counts-then c.put_byte-a.ensures c.put_number-b.ensures)
    c.put_number-c.ensures) c.put_name-d.ensures) c.put_byte.ensures)
