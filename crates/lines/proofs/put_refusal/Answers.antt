-- `put_refusal` puts the line of a refusal.
-- Assumes nothing.
use Rattle.room.proofs.Counting.{counts-then, counts-as}
use Rattle.lines.proofs.Ending.{refusal_is}
use Rattle.lines.proofs.put_refusal.Goals as goal

pub returns : goal.returns
returns c = rw (← c.number.ensures) (counts-as (refusal_is _ _ _) (counts-then (counts-then (counts-then c.put_byte-a.ensures c.put_number-b.ensures) c.put_number-c.ensures) c.put_end.ensures))
