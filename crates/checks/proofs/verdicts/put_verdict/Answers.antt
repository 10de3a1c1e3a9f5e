-- `put_verdict` puts the line of a verdict.
-- Assumes nothing.
use Rattle.room.proofs.Counting.{counts-then, counts-as}
use Rattle.checks.proofs.Judging.{verdict-is}
use Rattle.checks.proofs.verdicts.put_verdict.Goals as goal

pub returns : goal.returns
returns c = counts-as (verdict-is _ _) (counts-then (counts-then c.put_byte-a.ensures c.put_number-b.ensures) c.put_end.ensures)
